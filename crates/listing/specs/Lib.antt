-- The text that the program `mirror` prints.
pub mod Text
pub mod Sheets
pub mod Claims
