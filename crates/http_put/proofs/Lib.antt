mod BodyTexts
pub mod CallerLemmas
mod ElementRuns
mod ItemTurns
mod JoinedRuns
mod LineTurns
mod OneElement
mod RestValues
