mod Made
mod Asks
mod There
mod Walking
