pub mod Row
pub mod Tray
