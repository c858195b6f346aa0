pub mod Ring
pub mod Bound
pub mod Ranges
pub mod Rising
pub mod Sums
pub mod Reindexing
pub mod Chains
