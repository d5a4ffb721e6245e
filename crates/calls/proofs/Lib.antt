-- Laws that several proofs cite.
pub mod Answers
pub mod LawsCalls
