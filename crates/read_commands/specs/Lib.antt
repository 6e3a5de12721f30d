pub mod SealedFile
pub mod ModuleCommand
pub mod ThriftCommand
pub mod TailText
pub mod FooterCommand
