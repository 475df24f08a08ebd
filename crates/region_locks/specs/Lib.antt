pub mod StepOrders
pub mod CallerViews
pub mod StepEntries
pub mod SiteStarts
pub mod SiteEnds
