-- The call import: the sheet of a hierarchy, what the call answers, and what a caller may conclude.
pub mod Written
pub mod Places
pub mod Answers
pub mod Claims
pub mod Rows
