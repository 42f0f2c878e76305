pub mod BoxNetlists
mod CheckComplete
mod CheckMade
mod DeviceKinds
pub mod SimComplete
pub mod Simulated
pub mod VectorsComplete
pub mod VectorsMade
