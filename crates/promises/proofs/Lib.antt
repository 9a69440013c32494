pub mod Steps
pub mod Back
