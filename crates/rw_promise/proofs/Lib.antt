mod OneText
mod OneAnswer
mod OneSample
mod OneScenario
mod OneOutput
mod FirstCall
mod Dues
mod StatusLemmas
mod CheckedPolicies
mod Decimals
mod TextRows
mod Values
pub mod Accepted
mod Strings
mod Lines
mod Defined
mod Ascii
pub mod Judged
pub mod Ruled
pub mod TableRead
mod SampleStatus
mod AlikePolicies
mod Counted
pub mod Typing
mod Accepting
mod Fronts
mod Lengths
mod FarTexts
pub mod FarAsks
