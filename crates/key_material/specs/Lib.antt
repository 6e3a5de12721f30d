pub mod Names
pub mod PolicyValues
pub mod KeyLists
pub mod PolicyText
pub mod PolicyRules
pub mod PolicyLaws
