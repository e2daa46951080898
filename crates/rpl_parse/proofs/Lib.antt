-- How the proofs hang together, by what they are of. In its part each file stands behind those that it needs.
-- ---- tokens
pub mod Marks
pub mod ScanFacts
-- ---- trees: one turn of each loop; what is read is in the grammar, and the other way round
pub mod Stays
pub mod Turns
pub mod Climb
pub mod Faults
pub mod Sound
pub mod Beginnings
pub mod Complete
pub mod Viewed
-- ---- statements, in the same order
pub mod TurnsActs
pub mod SoundActs
pub mod CompleteActs
-- ---- declarations: both ways, then where each is cut and what is answered of it
pub mod TurnsParameters
pub mod Both
pub mod CutFacts
pub mod Answering
pub mod Rows
-- ---- how much is read
pub mod NodeFacts
pub mod BoundFacts
