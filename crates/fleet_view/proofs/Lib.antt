mod Answered
mod Beside
mod Counted
mod Heard
mod Placed
mod Reported
mod Settled
