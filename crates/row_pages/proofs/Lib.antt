mod RowLists
mod PageLists
mod PageChanges
mod PageSearches
mod PageSets
mod PageSplits
