pub mod ConvertComplete
pub mod ConvertFound
pub mod ExtendedComplete
pub mod ExtendedFound
pub mod FlattenComplete
pub mod Made
