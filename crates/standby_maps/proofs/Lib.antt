mod InTime
mod Rounds
mod ShownMaps
