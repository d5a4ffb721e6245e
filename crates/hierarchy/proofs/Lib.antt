-- Laws of reading, in the steps of the code; and the claims of specs/.
mod Growth
mod Asked
mod BlockLaws
mod Going
mod TurnLaws
mod RootLaws
mod MetLaws
mod Adding
mod FormRead
mod ReadForm
pub mod ReadSpelt
pub mod Lower
pub mod CutShort
pub mod NestsByDepth
