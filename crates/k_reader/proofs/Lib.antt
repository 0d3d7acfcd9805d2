mod Found
mod Chains
mod Nesting
mod Named
mod Resolved
mod Within
mod Kept
mod Keeps
mod Finished
mod Proper
mod Aging
mod Laid
mod Follows
mod Openings
pub mod Meaning
mod Unresolved
mod Taken
mod Scheduled
pub mod Converse
