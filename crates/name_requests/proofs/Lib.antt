mod CommaLemmas
mod MaxLemmas
