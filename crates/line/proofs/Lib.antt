pub mod Carried
pub mod Counting
pub mod Flags
pub mod Scripted
pub mod Shifting
pub mod Told
