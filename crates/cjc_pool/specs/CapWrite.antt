-- What crates above take of LowerCapWrite.
pub use Rattle.cjc_components.specs.LowerCapWrite.Class as Class
pub use Rattle.cjc_components.specs.LowerCapWrite.Descriptor as Descriptor
pub use Rattle.cjc_components.specs.LowerCapWrite.Files as Files
pub use Rattle.cjc_components.specs.LowerCapWrite.Fits as Fits
pub use Rattle.cjc_components.specs.LowerCapWrite.Method as Method
pub use Rattle.cjc_components.specs.LowerCapWrite.Package as Package
pub use Rattle.cjc_components.specs.LowerCapWrite.Size as Size
pub use Rattle.cjc_components.specs.LowerCapWrite.Statics as Statics
pub use Rattle.cjc_components.specs.LowerCapWrite.Writable as Writable
