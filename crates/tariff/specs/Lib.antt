-- The tariff: its form, what pairs cost by it, the rebate; what is promised of them, and worked examples.
pub mod Tariffs
pub mod Prices
pub mod Claims
pub mod Rows
