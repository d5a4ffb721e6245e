-- The sections of a sheet: labels and entries, and what is wrong with them.
pub mod Joints
pub mod Labels
pub mod Entries
pub mod Claims
