-- Laws of the definitions, and case distinctions.
pub mod Cases
pub mod Tests
pub mod AnyBelow
pub mod AllBelow
pub mod CountBelow
pub mod SumBelow
pub mod Lowest
pub mod FirstBelow
pub mod Argmax
pub mod Joined
pub mod Faults
pub mod Chains
pub mod Places
pub mod Tables
