pub mod Grows
pub mod Accounts
pub mod Takings
pub mod Plain
pub mod Shown
