-- What crates above take of CapWrite.
pub use Rattle.cjc_pool.specs.CapWrite.Package as Package
pub use Rattle.cjc_pool.specs.CapWrite.Size as Size
