mod Held
mod Moving
mod Keeping
