-- What crates above take of ClassOrder.
pub use Rattle.cjc_verify.specs.ClassOrder.Classes as Classes
