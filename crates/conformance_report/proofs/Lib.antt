mod Earliest
mod Expected
mod Merged
mod Numbers
mod Played
mod Taps
