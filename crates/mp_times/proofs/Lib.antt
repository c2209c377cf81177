pub mod EntriesFollow
pub mod RunsAreWalked
pub mod SyncsAreWalked
pub mod LeftOut
pub mod MarksFromNumbers
pub mod WrittenRows
pub mod WrittenMarks
