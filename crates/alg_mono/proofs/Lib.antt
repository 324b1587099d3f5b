pub mod Totals
pub mod Numbers
pub mod Integers
pub mod Canonical
pub mod Each
pub mod Merges
pub mod MergeTurns
pub mod Monomials
pub mod Lcm
pub mod Grevlex
pub mod Polynomials
pub mod Products
pub mod Norms
pub mod Degrees
pub mod Outcomes
pub mod Closure
mod AtNumbers
pub mod Maps
pub mod Domain
pub mod Renaming
mod EmptyLists
pub mod Sums
pub mod Quotients
pub mod Insertion
pub mod TermOrder
pub mod Rows
pub mod Powers
pub mod TermBounds
