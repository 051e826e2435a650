pub mod Layers
pub mod Soundness
pub mod Laws
