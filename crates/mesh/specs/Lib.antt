pub mod Geometry
pub mod Meshes
pub mod Sound
pub mod Edits
pub mod Refusals
