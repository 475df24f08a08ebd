pub mod CallerLemmas
mod SiteWorks
