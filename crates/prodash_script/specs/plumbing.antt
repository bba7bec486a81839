pub mod AddedLines
pub mod Commands
pub mod Lines
pub mod Names
pub mod Readers
pub mod Streams
