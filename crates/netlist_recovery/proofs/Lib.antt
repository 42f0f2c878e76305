pub mod Ends
pub mod EqualityLists
pub mod Found
pub mod FoundSides
pub mod Items
pub mod KindNumbers
pub mod Walk
