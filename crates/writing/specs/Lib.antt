-- Bytes written into a buffer, and numbers in decimal.
pub mod Written
pub mod Decimal
pub mod Claims
