pub mod Packed
pub mod Steps
pub mod Wire
pub mod Undone
pub mod Framed
pub mod Lines
pub mod Received
pub mod Bursts
