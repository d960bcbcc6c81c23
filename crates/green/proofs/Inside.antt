pub mod Chains
pub mod Ends
pub mod Invariant
pub mod Potential
pub mod Tallies
