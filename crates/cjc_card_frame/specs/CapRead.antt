-- What crates above take of CapRead.
pub use Rattle.cjc_jvm_step.specs.CapRead.Card as Card
pub use Rattle.cjc_jvm_step.specs.CapRead.ClassRefs as ClassRefs
pub use Rattle.cjc_jvm_step.specs.CapRead.Decode as Decode
pub use Rattle.cjc_jvm_step.specs.CapRead.Decoder as Decoder
pub use Rattle.cjc_jvm_step.specs.CapRead.Opcodes as Opcodes
pub use Rattle.cjc_jvm_step.specs.CapRead.Parts as Parts
pub use Rattle.cjc_jvm_step.specs.CapRead.declared as declared
