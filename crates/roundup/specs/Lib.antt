pub mod Counts
pub mod Tallies
pub mod Rounding
pub mod Sums
