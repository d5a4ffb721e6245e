-- Which pairs follow the skeleton, the plain statement behind it, what the call follow answers, what holds, and worked examples.
pub mod Following
pub mod Plain
pub mod Answers
pub mod Claims
pub mod Rows
