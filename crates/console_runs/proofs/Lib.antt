pub mod Input
pub mod ConsoleRuns
