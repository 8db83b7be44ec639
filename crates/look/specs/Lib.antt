pub mod Found
pub mod Look
