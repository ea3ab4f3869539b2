pub mod Directories
pub mod Codes
