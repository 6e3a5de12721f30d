pub mod Loops
pub mod ItemLoops
pub mod OtherKinds
pub mod Pages
