mod Fields
mod Growing
mod Limits
mod Standing
mod Fitting
mod Walking
mod Joining
mod TestFiles
