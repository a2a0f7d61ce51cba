pub mod Alone
mod Complete
mod CompleteRuns
pub mod Ends
pub mod Heard
pub mod Opened
mod Parting
pub mod Pushed
pub mod Served
pub mod ServerLinked
pub mod Stepped
