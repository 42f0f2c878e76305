pub mod Built
mod Devices
mod Free
mod Limits
mod WrittenCells
mod WrittenWhole
