pub mod Field
pub mod Tables
pub mod Words
pub mod InnerWords
pub mod Cases
