-- What crates above take of cjc_world.
pub use Rattle.cjc_world.specs.Classes as Classes
