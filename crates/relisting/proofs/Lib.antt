-- Lists with pairs struck, the entries left and their bytes, and the sheet that has them as its rankings; a sheet with another third section.
pub mod Strikes
pub mod ListedEntries
pub mod EntryBytes
pub mod LeftWritten
pub mod Beginnings
pub mod OtherRankings
pub mod OtherParents
pub mod Rereading
