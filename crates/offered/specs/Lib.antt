-- What the call check answers for every input.
pub mod Checks
