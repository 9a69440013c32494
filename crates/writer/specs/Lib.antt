pub mod Paper
pub mod Bytes
pub mod Bag
pub mod Unique
