mod Holding
mod Passing
mod Allowing
mod Putting
mod Lines
