pub mod AreasLaid
mod Ended
pub mod EndsLaid
mod Lengths
pub mod Parted
mod RefusedAt
mod PlannedRead
pub mod StepsTaken
pub mod TailsLaid
mod Told
pub mod WrittenRead
