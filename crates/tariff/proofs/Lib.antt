-- Laws of a tariff's form and of its prices, and what is promised of them.
pub mod FormLaws
pub mod StepChunks
pub mod TariffRule
pub mod PriceLaws
pub mod TermsLaws
pub mod SumsKept
-- the worked examples, by computation
pub mod WorkedRows
