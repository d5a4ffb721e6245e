-- Labels as text.
pub mod Lines
pub mod Claims
