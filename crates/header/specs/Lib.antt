pub mod Header
pub mod Paper
pub mod Tie
pub mod Bounds
pub mod Examples
