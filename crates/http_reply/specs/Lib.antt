pub mod AssignReplies
pub mod FixedBodies
pub mod PutReplies
pub mod ReplyBytes
pub mod ReplyStatuses
