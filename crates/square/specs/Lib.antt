-- The square of bands, and which entries are mutual listings.
pub mod Mutual
pub mod Square
pub mod Inside
pub mod Claims
