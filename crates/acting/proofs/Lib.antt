-- Laws that the functions' proofs cite: one for each way out of a function.
pub mod LawsActing
