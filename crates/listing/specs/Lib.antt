pub mod Blocks
pub mod Tapes
pub mod Strips
