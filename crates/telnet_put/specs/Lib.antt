pub mod Requests
pub mod Sessions
pub mod TelnetCommands
pub mod Unread
