-- What crates above take of cjc_int_runs.
pub use Rattle.cjc_int_runs.specs.Fields as Fields
