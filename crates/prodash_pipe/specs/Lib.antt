pub mod Counts
pub mod Copies
pub mod plumbing
