-- Laws of the answer, and what a caller may conclude.
pub mod QuoteLaws
pub mod QuoteRefuses
pub mod QuotesKept
-- the worked examples, by computation
pub mod WorkedRows
