pub mod Event
pub mod Slots
