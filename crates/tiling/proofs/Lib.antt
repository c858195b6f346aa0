pub mod Signs
pub mod Sides
pub mod Crossed
pub mod Across
pub mod Runs
pub mod Borders
pub mod Rounds
pub mod Tiled
