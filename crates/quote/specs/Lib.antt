-- What the call quote answers, what a caller may conclude from it, and worked examples.
pub mod Quotes
pub mod Claims
pub mod Rows
