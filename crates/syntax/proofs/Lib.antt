-- Laws of bit strings and tables, and the places of the fields under each table.
pub mod Bits
pub mod Bytes
pub mod Table
pub mod TimeStamp
pub mod Packet
pub mod Pes
pub mod AdaptationField
