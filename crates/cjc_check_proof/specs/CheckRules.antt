-- What crates above take of cjc_check_rules.
pub use Rattle.cjc_check_rules.specs.Codes as Codes
pub use Rattle.cjc_check_rules.specs.Complete as Complete
pub use Rattle.cjc_check_rules.specs.Consistent as Consistent
pub use Rattle.cjc_check_rules.specs.Handlers as Handlers
pub use Rattle.cjc_check_rules.specs.Instructions as Instructions
pub use Rattle.cjc_check_rules.specs.Listed as Listed
pub use Rattle.cjc_check_rules.specs.Locations as Locations
pub use Rattle.cjc_check_rules.specs.Spots as Spots
