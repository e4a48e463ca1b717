-- What crates above take of LowerComponents.
pub use Rattle.cjc_classes.specs.LowerComponents.Class as Class
pub use Rattle.cjc_classes.specs.LowerComponents.Descriptor as Descriptor
pub use Rattle.cjc_classes.specs.LowerComponents.Methods as Methods
pub use Rattle.cjc_classes.specs.LowerComponents.Names as Names
pub use Rattle.cjc_classes.specs.LowerComponents.Package as Package
pub use Rattle.cjc_classes.specs.LowerComponents.Statics as Statics
pub use Rattle.cjc_classes.specs.LowerComponents.Types as Types
