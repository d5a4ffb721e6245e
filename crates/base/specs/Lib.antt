-- General logic: the numbers below n, and the first fault of a list.
pub mod Below
pub mod Faults
pub mod Claims
pub mod Tables
