pub mod Framing
pub mod Loops
pub mod Pieces
