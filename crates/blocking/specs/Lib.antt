-- Blocking pairs and super-stability: what the contracts cite, the plain statement behind it, and what holds.
pub mod Blocking
pub mod Plain
pub mod Answers
pub mod Claims
