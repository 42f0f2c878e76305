pub mod Connected
mod Formed
mod Named
mod Open
mod Places
pub mod RunsOpen
mod Same
mod Undriven
