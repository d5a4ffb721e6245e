-- Laws of the text, and its claims.
pub mod LineLaws
pub mod SheetTexts
pub mod NoneLine
pub mod Examples
