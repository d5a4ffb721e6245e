-- What a caller may conclude; the rows of document 01.
pub mod Claims
pub mod Rows
