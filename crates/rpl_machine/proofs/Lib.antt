-- How the proofs hang together, by what they are of.
-- ---- values as words: what an instruction makes of operands it makes of their words
pub mod Computed
pub mod Scalars
pub mod ListWords
pub mod LocalWords
pub mod ResolvedFacts
pub mod Makes
-- ---- loops, each instruction that stays in its block, and then each step, over words as over values
pub mod Turning
pub mod Acts
pub mod StepAlike
-- ---- what stands in every state of a firing: its slots, how many words and calls it has, what an instruction wants of it
pub mod Fine
pub mod Standing
pub mod Ready
-- ---- a firing on its way, and whole
pub mod Going
pub mod Firing
-- ---- for the code: lists with the last word first, how words are moved, what instructions count, look and put
mod Backwards
mod Innermost
mod Moved
mod Ranges
mod Plain
mod Price
mod Stepping
mod Straight
mod Held
