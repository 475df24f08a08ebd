pub mod JsonLemmas
mod DateLemmas
