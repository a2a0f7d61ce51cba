mod Calls
pub mod Classes
mod HostTraces
mod Traces
