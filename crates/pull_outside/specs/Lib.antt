pub mod Calls
pub mod Conn
pub mod Door
pub mod Memory
pub mod ReliableShelf
pub mod Shelf
