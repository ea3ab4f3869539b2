pub mod Replies
pub mod Pictured
pub mod Promises
pub mod Comparing
