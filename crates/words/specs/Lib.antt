-- The words of a text, and words met in their places.
pub mod Words
pub mod Met
pub mod Claims
