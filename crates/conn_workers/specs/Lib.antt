pub mod ServedLinks
