mod JobLemmas
mod SavedLemmas
