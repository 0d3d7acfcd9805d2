mod Shown
mod Asked
mod Pushes
mod Told
mod Again
mod Free
mod Turned
mod Begun
mod Helped
mod One
mod Run
mod Threads
pub mod Kernel
mod Found
mod Entered
mod Apart
mod Stepped
mod Outside
pub mod Start
pub mod Runs
