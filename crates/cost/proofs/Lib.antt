pub mod Sums
pub mod Multiples
pub mod CostLaws
