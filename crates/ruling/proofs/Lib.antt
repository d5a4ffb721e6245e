-- Laws that the functions' proofs cite.
pub mod LastGreatest
