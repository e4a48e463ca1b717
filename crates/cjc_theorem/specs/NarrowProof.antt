-- What crates above take of cjc_narrow_proof.
pub use Rattle.cjc_narrow_proof.specs.Laws as Laws
