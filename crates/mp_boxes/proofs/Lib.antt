pub mod NumbersAreRead
mod FieldsAreRead
pub mod HeadersAreRead
mod HeadsWereSpelled
pub mod CutInOneWay
pub mod PartsAreRead
mod FrontIsEnough
mod NextBoxes
mod WholeBoxes
mod ChildrenAreFound
mod NumberIsKnown
mod FaultIsFirst
mod HeadsAreWritten
mod Examples
mod Lengths
mod PiecesAreLeft
mod PartsAreFound
mod TablesAreWritten
