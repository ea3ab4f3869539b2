pub mod Machines
pub mod Findings
