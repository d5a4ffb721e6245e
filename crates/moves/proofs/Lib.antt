-- Laws that the functions' proofs cite: one for each way out of a function; and laws for the loops above.
pub mod LawsMoves
pub mod LawsLawful
