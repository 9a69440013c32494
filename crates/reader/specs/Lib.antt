pub mod Load
pub mod Filled
pub mod Fill
pub mod Placing
pub mod Paper
pub mod Steps
pub mod Outcome
