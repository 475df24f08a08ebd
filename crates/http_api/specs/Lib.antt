pub mod CallWork
pub mod CallTasks
pub mod HttpAnswers
