pub mod AssignEntries
pub mod AssignLists
pub mod AssignTexts
pub mod SuggestNames
