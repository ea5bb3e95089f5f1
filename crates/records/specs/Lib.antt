-- Levels, walls and analyses: their figures, and why an entry is refused.
pub mod Analysis
pub mod Level
pub mod Levels
pub mod Wall
pub mod Walls
