pub mod Burst
pub mod Fold
pub mod Linear
pub mod Residue
pub mod Table
pub mod Steps
pub mod Spelt
pub mod Words
