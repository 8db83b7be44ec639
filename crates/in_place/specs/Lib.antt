-- What is read and written is said by the crates `reads`, `pages`, `writes` and `moves`.
pub mod Stays
pub mod Turns
