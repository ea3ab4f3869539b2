pub mod Indexes
pub mod Bodies
pub mod Standing
pub mod Shelves
pub mod Bands
pub mod Showing
pub mod Proper
