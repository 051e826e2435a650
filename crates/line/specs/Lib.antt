pub mod Meaning
pub mod Levels
pub mod Kinds
pub mod Soundness
pub mod Histories
pub mod Acts
pub mod Laws
