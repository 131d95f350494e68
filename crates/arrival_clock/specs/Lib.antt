-- The definitions of `arrival_clock`: the parses of a recording's packets, and the pass over them. Stretch serves private functions.
pub mod Clock
pub mod Stretch
