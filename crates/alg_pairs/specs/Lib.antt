pub mod Order
pub mod OrderLaws
pub mod Leads
pub mod Buckets
