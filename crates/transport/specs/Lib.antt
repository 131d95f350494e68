-- What a packet delivers from the transport buffer, and the code's answers by it.
pub mod Arrive
pub mod Transport
