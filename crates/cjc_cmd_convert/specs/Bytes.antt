-- What crates above take of Bytes.
pub use Rattle.cjc_theorem.specs.Bytes.AccessFlags as AccessFlags
pub use Rattle.cjc_theorem.specs.Bytes.Format as Format
pub use Rattle.cjc_theorem.specs.Bytes.Found as Found
pub use Rattle.cjc_theorem.specs.Bytes.Reading as Reading
pub use Rattle.cjc_theorem.specs.Bytes.Spots as Spots
pub use Rattle.cjc_theorem.specs.Bytes.declared as declared
