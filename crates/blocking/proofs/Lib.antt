-- The claims of specs/, and the laws that the functions' proofs cite.
pub mod BlockingTest
pub mod LowestPair
pub mod SuperStableTest
