-- The laws of the functions behind C names.
pub mod Stored
pub mod Complement
pub mod Pushes
pub mod Feeds
pub mod Field
pub mod Made
pub mod FloatWord
pub mod RecordCases
