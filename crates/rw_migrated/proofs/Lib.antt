mod NewFormat
mod FarInputs
pub mod FarTables
