-- Laws of the definitions, and what an accepted sheet promises.
pub mod FaultLists
pub mod Accepted
pub mod SheetLaws
pub mod PromiseKept
pub mod Numbers
pub mod ReadAs
pub mod Sizes
