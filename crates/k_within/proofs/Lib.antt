mod Boards
mod Points
mod Contexts
mod Made
mod Steps
