-- How the proofs hang together, by what they are of.
-- ---- what is accepted is typed
pub mod Accepted
-- ---- what the code finds on its one way is what the definition gives: dimensions, names, then trees and statements
pub mod Dimensions
pub mod Searching
pub mod Sooner
pub mod Texts
pub mod Visiting
pub mod VisitingActs
-- ---- heads of functions, and all declarations
pub mod Heading
pub mod Placed
pub mod InTurn
pub mod Counting
