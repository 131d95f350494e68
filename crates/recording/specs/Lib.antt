-- What a replay may know of a recording, document 01's content, and a worked recording.
pub mod Read
pub mod Content
pub mod Examples
