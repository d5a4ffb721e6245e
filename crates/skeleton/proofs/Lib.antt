-- Laws of the definitions, and the claims of specs/.
pub mod FollowLaws
pub mod AnswerLaws
pub mod StrayRule
pub mod EqualDepth
pub mod FollowsKept
-- the worked examples, by computation
pub mod WorkedRows
