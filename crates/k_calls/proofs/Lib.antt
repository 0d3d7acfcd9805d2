mod Ordered
mod Totals
mod Told
