pub mod Shown
pub mod Values
pub mod Records
pub mod List
pub mod Sheets
pub mod Measured
pub mod Tapes
pub mod Laws
