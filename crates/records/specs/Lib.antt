pub mod Record
pub mod Laws
pub mod Cells
pub mod Answers
pub mod Appended
pub mod Unique
