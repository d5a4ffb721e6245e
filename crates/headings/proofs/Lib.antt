-- Laws of words met one after the other.
pub mod HeadingLaws
