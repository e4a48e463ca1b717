-- What crates above take of Bytes.
pub use Rattle.cjc_jvm_step.specs.Bytes.Breaks as Breaks
pub use Rattle.cjc_jvm_step.specs.Bytes.Descriptor as Descriptor
pub use Rattle.cjc_jvm_step.specs.Bytes.Format as Format
pub use Rattle.cjc_jvm_step.specs.Bytes.Order as Order
pub use Rattle.cjc_jvm_step.specs.Bytes.Refused as Refused
pub use Rattle.cjc_jvm_step.specs.Bytes.declared as declared
