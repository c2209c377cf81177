pub mod Lengths
pub mod Pieces
pub mod Keeping
mod EntriesAreKept
pub mod ReferencesInOrder
pub mod EntriesInOrder
mod ReferencesAreRead
mod DescriptionsAreRead
pub mod EntriesArePushed
mod KeptOfTables
