pub mod Places
pub mod Scan
pub mod Links
pub mod Paper
pub mod FieldUse
pub mod Frames
pub mod Open
pub mod Unique
