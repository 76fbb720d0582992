pub mod Put
pub mod InnerColumn
