pub mod Reported
pub mod Rows
pub mod Surveyed
