pub mod Draws
pub mod Netlists
pub mod NetlistsLaws
pub mod Plans
pub mod PlansLaws
