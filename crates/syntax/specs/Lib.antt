-- Bit strings, syntax tables, and the tables of H.222.0 that the replay reads.
pub mod Bits
pub mod Table
pub mod TimeStamp
pub mod Packet
pub mod AdaptationField
pub mod Pes
