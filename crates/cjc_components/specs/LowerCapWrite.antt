-- What crates above take of cjc_capwrite.
pub use Rattle.cjc_capwrite.specs.Class as Class
pub use Rattle.cjc_capwrite.specs.Descriptor as Descriptor
pub use Rattle.cjc_capwrite.specs.Export as Export
pub use Rattle.cjc_capwrite.specs.Files as Files
pub use Rattle.cjc_capwrite.specs.Fits as Fits
pub use Rattle.cjc_capwrite.specs.Method as Method
pub use Rattle.cjc_capwrite.specs.Package as Package
pub use Rattle.cjc_capwrite.specs.Pool as Pool
pub use Rattle.cjc_capwrite.specs.Size as Size
pub use Rattle.cjc_capwrite.specs.Statics as Statics
pub use Rattle.cjc_capwrite.specs.Writable as Writable
pub use Rattle.cjc_capwrite.specs.declared as declared
