-- What crates above take of cjc_check_proof.
pub use Rattle.cjc_check_proof.specs.Classes as Classes
pub use Rattle.cjc_check_proof.specs.Code as Code
pub use Rattle.cjc_check_proof.specs.Consistent as Consistent
pub use Rattle.cjc_check_proof.specs.Exports as Exports
pub use Rattle.cjc_check_proof.specs.Keys as Keys
pub use Rattle.cjc_check_proof.specs.Limits as Limits
pub use Rattle.cjc_check_proof.specs.LowerCapWrite as LowerCapWrite
