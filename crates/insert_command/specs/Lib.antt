pub mod Demonstrations
pub mod Faults
pub mod Free
pub mod Insertable
pub mod StatusFaults
pub mod StatusFree
pub mod StatusTasks
pub mod Tasks
