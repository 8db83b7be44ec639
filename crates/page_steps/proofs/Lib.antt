pub mod First
pub mod Free
