-- What classes have or inherit, by token, before the rest is known.
use Rattle.std.specs.Prelude.{◌≡◌, List}
use Rattle.cjc_check_rules.specs.ExportFile.declared.tree.ExportClass.{ExportClass}
use Rattle.cjc_check_rules.specs.ExportFile.Supers.{has_virtual, inherits_virtual}
use Rattle.cjc_check_index.specs.declared.imported.tokens.Upwards.{Upwards}
use Rattle.cjc_check_index.specs.Imported.Tokens.{by_token, has_field}

-- the answers kept are those of these classes: of virtual methods, inherited ones and instance fields
pub record AreUpwards (classes : List ExportClass) (t : Upwards) : Type 0 where
  pub virtuals : t.virtuals ≡ by_token (has_virtual classes) classes
  pub inherited : t.inherited ≡ by_token (inherits_virtual classes) classes
  pub fields : t.fields ≡ by_token (has_field classes) classes
