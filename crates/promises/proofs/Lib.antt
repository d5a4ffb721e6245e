-- What a caller may conclude, from the calls' definitions and the theory.
pub mod Refusals
pub mod CheckKeeps
pub mod SettleKeeps
pub mod ShortenKeeps
pub mod CallsKeep
pub mod CallsReplayed
pub mod Alike
pub mod OneSided
-- the rows of document 01, by computation
pub mod StarredRows
