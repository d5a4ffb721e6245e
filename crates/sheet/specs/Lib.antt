-- Sheets: the format, its refusals, the square of bands, what is read, and what an accepted sheet promises.
pub mod Format
pub mod Refusals
pub mod Square
pub mod Promise
pub mod Readings
pub mod Claims
