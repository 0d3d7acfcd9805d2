mod Putting
mod Chains
mod Parts
