-- What the code's contracts cite beside the definitions of the crate roommates.
pub mod Workings
pub mod Lawful
