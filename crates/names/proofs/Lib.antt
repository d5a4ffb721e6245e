-- Laws of names: as they are kept, one more, more behind them, and what they promise.
pub mod NameLaws
pub mod NamesRule
pub mod KnownLaws
