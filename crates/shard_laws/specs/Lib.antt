pub mod OneShard
