pub mod ErrorBodies
pub mod Replies
pub mod Texts
