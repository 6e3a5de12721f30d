pub mod PutFields
pub mod PutLists
pub mod PutSums
pub mod Laid
pub mod PlansLaid
