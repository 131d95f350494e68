-- Laws of the packet parser and of recordings.
pub mod Slices
pub mod Fields
pub mod Complement
pub mod ByPlaces
pub mod Cases
pub mod Header
pub mod Grid
pub mod Parts
pub mod Same
pub mod Parsed
pub mod Layouts
pub mod Figures
