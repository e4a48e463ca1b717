-- What crates above take of cjc_check_rules.
pub use Rattle.cjc_check_rules.specs.Classes as Classes
pub use Rattle.cjc_check_rules.specs.Complete as Complete
pub use Rattle.cjc_check_rules.specs.Consistent as Consistent
pub use Rattle.cjc_check_rules.specs.Described as Described
pub use Rattle.cjc_check_rules.specs.Imports as Imports
pub use Rattle.cjc_check_rules.specs.Listed as Listed
pub use Rattle.cjc_check_rules.specs.Locations as Locations
pub use Rattle.cjc_check_rules.specs.Spots as Spots
pub use Rattle.cjc_check_rules.specs.Statics as Statics
pub use Rattle.cjc_check_rules.specs.declared as declared
