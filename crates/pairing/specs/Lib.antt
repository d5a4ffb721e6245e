-- The calls' answers as C has them.
pub mod CCodes
pub mod Claims
