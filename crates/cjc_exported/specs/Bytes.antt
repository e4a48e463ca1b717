-- What crates above take of Bytes.
pub use Rattle.cjc_world.specs.Bytes.AccessFlags as AccessFlags
pub use Rattle.cjc_world.specs.Bytes.Breaks as Breaks
pub use Rattle.cjc_world.specs.Bytes.Format as Format
pub use Rattle.cjc_world.specs.Bytes.Order as Order
pub use Rattle.cjc_world.specs.Bytes.Refused as Refused
pub use Rattle.cjc_world.specs.Bytes.Told as Told
pub use Rattle.cjc_world.specs.Bytes.declared as declared
