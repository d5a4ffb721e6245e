-- Laws of the definitions, and what the square of mutual listings promises.
pub mod Only
pub mod Bands
pub mod PutOnePlace
pub mod Placed
pub mod Loops
pub mod MutualSquare
