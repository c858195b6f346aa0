pub mod AddLaws
pub mod Flips
pub mod FlipLaws
