mod Starts
mod MediaHeaders
mod MovieHeaders
mod TrackHeaders
mod Handlers
mod Pushed
mod ByHandler
