pub mod Answers
pub mod Lists
pub mod Calls
pub mod Turns
pub mod Making
pub mod Law
pub mod Counts
