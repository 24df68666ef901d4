pub mod Columns
pub mod Cuts
pub mod Limited
pub mod Merges
pub mod Stretches
pub mod Written
