mod Tallies
mod Chains
mod Holdings
mod Adds
mod Prunes
mod Facts
mod Setups
