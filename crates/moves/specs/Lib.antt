-- What the code's contracts cite beside the definitions of the crates below.
pub mod Moved
