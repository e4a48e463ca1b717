-- What crates above take of Judge.
pub use Rattle.cjc_cmd_jvm.specs.Judge.Joint as Joint
pub use Rattle.cjc_cmd_jvm.specs.Judge.Rules as Rules
pub use Rattle.cjc_cmd_jvm.specs.Judge.Spelt as Spelt
pub use Rattle.cjc_cmd_jvm.specs.Judge.Trees as Trees
pub use Rattle.cjc_cmd_jvm.specs.Judge.declared as declared
