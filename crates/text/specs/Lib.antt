pub mod Pieces
pub mod Values
pub mod Lines
pub mod Printing
pub mod Scripts
pub mod Loads
pub mod ReadBack
