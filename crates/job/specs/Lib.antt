pub mod Rule
pub mod Checks
pub mod Quads
pub mod Settings
