pub mod Replied
mod Leaving
mod Placing
mod Walking
