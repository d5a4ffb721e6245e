-- Choices as the calls take them: records, each a step, a mark or a return.
pub mod Records
pub mod Choices
pub mod Standing
pub mod Claims
