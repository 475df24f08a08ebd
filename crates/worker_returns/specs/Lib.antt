pub mod GatheredLinks
