-- Hierarchies: how the text of one is read, its joints, and what reading promises.
pub mod Hierarchy
pub mod Gathered
pub mod Spelt
pub mod Claims
