mod Counting
mod Sharing
mod Ranking
mod Delaying
mod Cutting
mod Standing
