mod Parts
mod Gathering
mod Ranges
mod Pieces
