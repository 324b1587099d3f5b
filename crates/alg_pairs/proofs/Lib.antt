pub mod Lesser
pub mod Places
pub mod Dividing
pub mod Filed
