-- What the functions behind C names answer.
pub mod Leaves
pub mod Scanner
pub mod Packet
pub mod Record
