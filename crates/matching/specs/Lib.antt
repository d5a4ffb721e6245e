-- Matchings: what the contracts cite, the plain statement behind it, and what holds.
pub mod Matchings
pub mod Plain
pub mod Claims
