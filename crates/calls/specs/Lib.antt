-- What the calls answer for every input.
pub mod Calls
