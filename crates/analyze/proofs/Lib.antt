-- The laws from the core's answer to what is lent, and what is proved of every answer.
pub mod Figures
pub mod Lent
pub mod Demands
