mod Stepping
mod Runs
