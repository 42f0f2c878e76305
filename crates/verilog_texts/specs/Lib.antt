pub mod Laws
pub mod TextFaults
pub mod TextOutcome
