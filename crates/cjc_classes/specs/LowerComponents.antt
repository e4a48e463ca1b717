-- What crates above take of cjc_components.
pub use Rattle.cjc_components.specs.Class as Class
pub use Rattle.cjc_components.specs.Descriptor as Descriptor
pub use Rattle.cjc_components.specs.Methods as Methods
pub use Rattle.cjc_components.specs.Names as Names
pub use Rattle.cjc_components.specs.Package as Package
pub use Rattle.cjc_components.specs.Paired as Paired
pub use Rattle.cjc_components.specs.Statics as Statics
pub use Rattle.cjc_components.specs.Types as Types
