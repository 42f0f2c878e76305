pub mod Conversions
pub mod ConvertTasks
pub mod ExtendedTasks
pub mod FlatTexts
pub mod FlattenTasks
