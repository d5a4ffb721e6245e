-- The refusals' numbers, and what they promise.
pub mod Numbers
pub mod Claims
