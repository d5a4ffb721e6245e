-- Laws of the sections' definitions, and what sections without a fault promise.
pub mod LabelLaws
pub mod LabelRule
pub mod Numbers
pub mod EntryFaults
pub mod Ranks
pub mod EntryList
pub mod Places
pub mod BandIn
pub mod Chunks
