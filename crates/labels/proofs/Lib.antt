-- Laws of labels as text, and of a label between two places.
pub mod LabelPlaces
pub mod Shown
pub mod LabelRuns
