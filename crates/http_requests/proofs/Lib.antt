pub mod CallerLemmas
mod EndLemmas
mod HeadLemmas
mod ReaderLemmas
mod RequestLemmas
mod BodyLemmas
mod Literals
