pub mod Faults
pub mod Annotations
pub mod Images
pub mod Laws
