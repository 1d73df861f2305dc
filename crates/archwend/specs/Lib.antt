pub mod Entries
pub mod Exports
