-- What crates above take of cjc_jvm_step.
pub use Rattle.cjc_jvm_step.specs.Heap as Heap
pub use Rattle.cjc_jvm_step.specs.Step as Step
