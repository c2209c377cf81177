pub mod LastPlaces
pub mod Digits
pub mod JoinedTexts
pub mod LineSteps
pub mod TimesAreRanges
pub mod CommandsAreAsked
pub mod JobsAreShort
