pub mod Lines
pub mod Paper
