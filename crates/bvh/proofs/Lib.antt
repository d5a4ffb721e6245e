-- Laws of the written sheet, of its writers and of the call, and the claims of specs/.
pub mod NamesHaveBytes
pub mod SheetLaws
pub mod WriteLaws
pub mod ImportLaws
pub mod GivesBack
pub mod ImportKept
pub mod Within
pub mod CutPasses
pub mod WorkedRows
