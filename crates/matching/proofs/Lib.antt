-- The claims of specs/, and the laws that the functions' proofs cite.
pub mod PairNumbers
pub mod PairCounts
pub mod MatchingTest
