pub mod Columns
pub mod Aligned
pub mod Rows
pub mod Pages
pub mod Laws
pub mod Widths
