-- The names that a hierarchy gives its joints.
pub mod Names
pub mod Kept
pub mod Claims
