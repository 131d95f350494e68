-- Definitions of the packet parser: the adaptation field, the packet, and the layouts of recordings.
pub mod AdaptationField
pub mod Places
pub mod Packet
pub mod Layout
pub mod Figures
