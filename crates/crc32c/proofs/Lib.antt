pub mod Xor
pub mod Steps
pub mod Table
