-- What crates above take of cjc_narrow_proof.
pub use Rattle.cjc_narrow_proof.specs.Laws as Laws
pub use Rattle.cjc_narrow_proof.specs.Selected as Selected
pub use Rattle.cjc_narrow_proof.specs.Selection as Selection
pub use Rattle.cjc_narrow_proof.specs.Tables as Tables
