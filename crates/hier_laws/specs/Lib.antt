pub mod LinksLaws
pub mod Readings
pub mod SolutionsLaws
pub mod Solves
pub mod Trees
