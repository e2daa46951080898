-- How the proofs hang together. The pass costs functions with numbers that stop above the limits (Sums). What stops of exact costs (Exact)
-- is what each form costs so (Costs, Heights), so the pass finds it (Passed), declaration by declaration (Declared).
mod Costs
pub mod Declared
mod Exact
mod Found
mod Heights
pub mod Ordered
mod Passed
mod Rows
mod Sums
mod Viewed
