pub mod Failures
pub mod Prints
