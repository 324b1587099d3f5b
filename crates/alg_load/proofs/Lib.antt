pub mod EachGoal
pub mod Ordered
pub mod Validity
