pub mod Field
pub mod Paper
pub mod Then
pub mod Laws
