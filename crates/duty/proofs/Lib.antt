pub mod Joins
pub mod Runs
pub mod Sheets
pub mod Finals
pub mod StepsShown
mod WorkedShown
pub mod Listed
pub mod FactsShown
pub mod LettersShown
mod Matches
mod Written
mod Splits
mod Opened
mod Ways
mod ByKind
mod Loops
pub mod Books
mod Passing
mod Unchanged
mod Sets
