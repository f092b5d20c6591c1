pub mod Loops
pub mod Takes
pub mod TableViews
pub mod TableOrder
pub mod PathParts
mod PathWalks
pub mod Escaping
pub mod Unescaping
pub mod BlockWrites
pub mod ByComputing
pub mod DecimalTexts
