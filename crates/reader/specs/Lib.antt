pub mod Refusals
pub mod Finding
pub mod Bodies
pub mod Answers
pub mod Pictured
