-- Laws of writing, and the claims.
pub mod Writings
pub mod Writers
pub mod Decimals
