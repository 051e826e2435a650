pub mod Crossing
pub mod Differences
pub mod Layered
