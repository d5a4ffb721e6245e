-- The keywords of a hierarchy, and what stands at fixed places.
pub mod Keywords
pub mod Headings
