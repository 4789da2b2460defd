pub mod Totals
pub mod Parity
pub mod GateStep
pub mod Correlation
pub mod Choices
pub mod Counts
pub mod WholeSets
pub mod Counting
pub mod Numbering
pub mod Homes
pub mod RunNodes
pub mod Listing
pub mod Observed
pub mod Ready
pub mod RunCorrelation
pub mod RunCounting
pub mod NoFinding
pub mod Determined
pub mod InTime
pub mod RootCones
pub mod OneFinding
pub mod Cover
pub mod OneShare
pub mod Sorting
pub mod NodeNumbers
pub mod Writing
mod UnrolledFindings
mod NeededTries
