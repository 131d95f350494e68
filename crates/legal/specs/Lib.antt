-- What holds of the events of the replay's state.
pub mod Legal
