-- What crates above take of cjc_capread.
pub use Rattle.cjc_capread.specs.ClassRefs as ClassRefs
pub use Rattle.cjc_capread.specs.declared as declared
