pub mod Answers
pub mod Account
pub mod Held
pub mod Holds
pub mod Steps
pub mod Opening
pub mod Showing
