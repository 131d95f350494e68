-- Laws of what is read of a recording and of its content, and the theorem that content does not enter.
pub mod Examples
pub mod Facts
pub mod Content
pub mod Units
pub mod Alike
pub mod OnlyContent
pub mod Zeroed
pub mod Bounds
