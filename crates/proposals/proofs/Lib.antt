-- Laws that the functions' proofs cite.
pub mod LawsProposals
pub mod LawsPhaseOne
