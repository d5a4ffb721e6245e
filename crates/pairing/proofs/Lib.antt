-- The counts fit C's numbers, and are read back from them.
pub mod LawsCCodes
pub mod ReadBack
