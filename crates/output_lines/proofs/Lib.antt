pub mod Fronts
pub mod GatheredFronts
pub mod Given
pub mod Pieces
