-- How the proofs hang together, by what they are of.
pub mod Common
-- ---- kinds and tests on them, lists of kinds by number, names, operands that are taken
pub mod KindFacts
pub mod StackFacts
pub mod TakeFacts
pub mod NameFacts
-- ---- the code's two passes over a block, its judgement and its table, are the ruling
pub mod JudgeFacts
pub mod WalkFacts
pub mod Caps
pub mod BlockFacts
pub mod BlockRuled
pub mod Resolving
pub mod Joined
-- ---- a block that fits: what holds at each place, its loops and jumps, what each way through it comes to
pub mod Judged
pub mod Loops
pub mod Costs
pub mod Ways
-- ---- what instructions make of their operands
pub mod Operated
pub mod Operating
pub mod QuietOperations
-- ---- code that fits is never stuck: an instruction, then a state, then a run, which keeps to what its first state may come to
pub mod Frames
pub mod Acting
pub mod Stepping
pub mod States
pub mod Running
pub mod Endless
-- ---- accepted code is safe, what code is accepted, and why it is refused
pub mod Rulings
pub mod Accepted
pub mod Accepting
pub mod Refusing
pub mod VerifiedFacts
