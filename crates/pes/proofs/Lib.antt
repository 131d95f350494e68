-- Membership in the table of stream ids, and the time stamps of document 01.
pub mod Members
pub mod Figures
