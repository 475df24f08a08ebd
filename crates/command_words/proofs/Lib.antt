mod ReadLemmas
mod WidthReads
