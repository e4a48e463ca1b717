-- What crates above take of Clinit.
pub use Rattle.cjc_pool.specs.Clinit.Image as Image
pub use Rattle.cjc_pool.specs.Clinit.Rules as Rules
