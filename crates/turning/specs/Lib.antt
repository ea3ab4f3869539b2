pub mod Written
pub mod Turned
