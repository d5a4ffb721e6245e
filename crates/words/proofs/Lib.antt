-- Laws of words, and that the words of a text are the request's.
pub mod WordLaws
pub mod MetLaws
pub mod WordsRule
