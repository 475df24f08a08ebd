mod Lower
mod RowPoints
mod Titles
mod RowsTaken
mod Contents
mod FewerRows
mod ValueJudging
mod PickedRows
mod CollectLoop
mod RowReadings
mod FilterIds
mod Shown
mod Standing
mod Conflicting
mod Short
mod OneSub
mod AllSubs
mod Grouped
mod Unordered
mod Outcomes
mod SameOutcome
mod SameAnswer
pub mod CallerLemmas
pub mod WalkLemmas
