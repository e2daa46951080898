pub mod Links
pub mod AnyOrder
pub mod Priority
pub mod Rules
pub mod Balances
pub mod Laws
pub mod Worked
