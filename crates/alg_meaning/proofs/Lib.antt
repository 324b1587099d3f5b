pub mod Rings
pub mod Evaluation
pub mod Naturals
pub mod Carriers
pub mod Typed
pub mod AtomValues
pub mod AtomSorts
pub mod TermValues
pub mod Equal
pub mod DeclaredKinds
pub mod Clearing
pub mod Denominators
pub mod FractionLists
pub mod FractionClears
pub mod FractionFactors
pub mod FractionSorts
pub mod SameTrees
pub mod Literals
pub mod NoZero
pub mod FieldQuotients
pub mod FieldLaws
mod ConditionWords
pub mod Uses
pub mod FreeValues
pub mod Built
pub mod Canonical
mod WorkedRows
