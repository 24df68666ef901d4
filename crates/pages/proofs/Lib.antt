pub mod Aligns
mod Fills
mod RowsMade
pub mod RowsShown
pub mod PagesShown
mod RoomShown
