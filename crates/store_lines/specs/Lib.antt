pub mod Choice
pub mod Gauges
pub mod Reported
pub mod Status
pub mod Tabled
pub mod Told
pub mod Words
