-- Laws of the definitions, in the steps of the loops that compute them.
pub mod LawsLists
pub mod LawsWaits
pub mod LawsStrikes
pub mod LawsFirst
