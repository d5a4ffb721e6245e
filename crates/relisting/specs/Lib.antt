-- The shortened lists are entries of the sheet, and a sheet's rankings.
pub mod Written
pub mod Claims
