pub mod OwnBits
mod Words
