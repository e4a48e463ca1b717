-- What crates above take of cjc_verify.
pub use Rattle.cjc_verify.specs.Bodies as Bodies
pub use Rattle.cjc_verify.specs.Described as Described
pub use Rattle.cjc_verify.specs.Headers as Headers
pub use Rattle.cjc_verify.specs.Infos as Infos
pub use Rattle.cjc_verify.specs.Named as Named
pub use Rattle.cjc_verify.specs.Pairs as Pairs
pub use Rattle.cjc_verify.specs.Verified as Verified
