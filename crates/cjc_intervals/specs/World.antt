-- What crates above take of LowerWorld.
pub use Rattle.cjc_types.specs.LowerWorld.Classes as Classes
