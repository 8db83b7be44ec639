pub mod Test
pub mod Paste
pub mod Mapped
pub mod Listed
pub mod Every
pub mod Rest
pub mod Part
