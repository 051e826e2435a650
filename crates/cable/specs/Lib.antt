pub mod Cables
pub mod Soundness
pub mod Bytes
