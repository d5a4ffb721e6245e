-- Document 01, "The working", sentence by sentence, over the square of bands.
pub mod Lists
pub mod PhaseOne
pub mod PhaseTwo
pub mod Moves
pub mod Left
pub mod Runs
pub mod Histories
pub mod Claims
