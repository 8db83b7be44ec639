pub mod Input
pub mod ConsoleRuns
pub mod Examples
