pub mod Bytes
pub mod Reading
pub mod Words
pub mod Insertion
pub mod Laws
pub mod Stages
pub mod Examples
