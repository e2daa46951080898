mod Common
pub mod PutFacts
pub mod Misfits
pub mod LeastInflow
pub mod LeastRelease
pub mod GivingWay
pub mod GreatestBeside
pub mod SolvedTerm
mod SolvedInflow
pub mod SolvedPuts
pub mod Among
pub mod Earlier
mod Counting
mod BalanceFacts
mod Terms
pub mod Leaving
mod Answering
mod PlainKinds
mod Storing
mod ReservoirFacts
mod PowerFacts
pub mod LeftKept
mod Netting
mod Balancing
pub mod Idling
mod Evaporating
mod ReservoirBalance
mod PowerBalance
mod PowerRows
mod AskedEnergy
pub mod SolvedBalance
