mod Reading
mod AsciiNames
mod Places
