mod Histories
mod Looming
mod Waiting
mod Working
