pub mod Frame
pub mod Paper
pub mod Padding
pub mod Data
pub mod Block
pub mod Tie
pub mod Bounds
pub mod Examples
