pub mod Unit
pub mod State
pub mod Joined
pub mod Figures
pub mod Classified
pub mod ByteScanner
