pub mod Nonces
pub mod Finding
pub mod KeysFile
pub mod KeyCauses
pub mod Making
pub mod MakingById
