pub mod Crossings
pub mod Tiles
