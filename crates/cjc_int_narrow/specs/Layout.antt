-- What crates above take of LowerLayout.
pub use Rattle.cjc_int_proof.specs.LowerLayout.Forms as Forms
pub use Rattle.cjc_int_proof.specs.LowerLayout.Handlers as Handlers
pub use Rattle.cjc_int_proof.specs.LowerLayout.Layouts as Layouts
pub use Rattle.cjc_int_proof.specs.LowerLayout.Legal as Legal
pub use Rattle.cjc_int_proof.specs.LowerLayout.Sizes as Sizes
pub use Rattle.cjc_int_proof.specs.LowerLayout.declared as declared
