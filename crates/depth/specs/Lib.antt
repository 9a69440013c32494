pub mod Pruned
pub mod Pass
pub mod Lent
pub mod Paper
pub mod Unique
