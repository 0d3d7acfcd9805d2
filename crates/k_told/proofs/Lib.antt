mod Asked
mod Removing
mod Missed
mod Events
mod Runnable
