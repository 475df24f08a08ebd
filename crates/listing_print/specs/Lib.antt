pub mod GivenTexts
pub mod IdsLeft
pub mod LineTaking
pub mod MetricRows
pub mod StoreRows
pub mod TakenTexts
