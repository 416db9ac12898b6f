mod Past
mod Stops
