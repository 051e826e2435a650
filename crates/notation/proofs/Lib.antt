pub mod Back
pub mod Glyphs
pub mod Pairs
pub mod Texts
pub mod Turns
pub mod Words
