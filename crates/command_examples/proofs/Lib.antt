mod Joining
mod Auditing
