-- The refusals' numbers.
pub mod Numbers
