pub mod Answers
pub mod Laws
pub use Rattle.alg_reify.specs.RingVerdict
