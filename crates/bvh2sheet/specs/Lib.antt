-- Texts that are cut short, and what is said of a refusal.
pub mod Cut
pub mod Said
