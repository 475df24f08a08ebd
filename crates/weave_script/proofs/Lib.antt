mod Turning
mod QueueGains
mod Wasted
