pub mod Numbers
pub mod Cuts
pub mod LineValues
pub mod Overs
pub mod Figures
pub mod Prints
pub mod Scripts
pub mod Exits
pub mod Loads
pub mod Written
mod Examples
