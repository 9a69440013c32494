pub mod Many
pub mod Batch
