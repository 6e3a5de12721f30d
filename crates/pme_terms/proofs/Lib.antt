pub mod Xors
pub mod Products
pub mod Numbers
pub mod Bytes
