pub mod Moved
pub mod Reranged
pub mod Retabled
pub mod Sharing
pub mod Tidied
pub mod Together
pub mod Uncovered
pub mod Filling
