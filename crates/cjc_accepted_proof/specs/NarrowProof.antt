-- What crates above take of NarrowProof.
pub use Rattle.cjc_check_proof.specs.NarrowProof.Laws as Laws
