-- Parents: the section of a sheet that has them, the depth of a joint, and what holds of both.
pub mod Parents
pub mod Depths
pub mod Claims
