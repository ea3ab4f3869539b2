pub mod Faults
pub mod Layouts
pub mod Records
pub mod Directories
pub mod Headers
pub mod Bands
