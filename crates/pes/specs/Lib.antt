-- The stream ids without the optional header, and the time stamps of document 01.
pub mod StreamId
pub mod Figures
