pub mod Answered
pub mod Certificates
pub mod Examples
pub mod InFree
pub mod Printed
pub mod Printing
pub mod Verdicts
