-- What 308 says of the ConstantValue of a field that has a cell.
use Rattle.std.proofs.Common.{◌≡◌, refl, Bool, true, false, not, ◌&&◌}
use Rattle.std.specs.Prelude.{is_some}
use Rattle.cjc_bytes.specs.AccessFlags.{is_static}
use Rattle.cjc_subset.specs.LowerClassFile.declared.tree.FieldTree.{FieldTree}
use Rattle.cjc_clinit.specs.Fields.{has_unfit_value, is_cell, number_kind, value_fits}
use Rattle.cjc_subset.specs.LowerExportFile.Members.{may_be_constant}

pub cell_fits : (f : FieldTree) → has_unfit_value f ≡ false
    → (is_cell f && not (value_fits (number_kind f.desc) f.constant)) ≡ false
cell_fits f e = by (is_static f.flags) (not (may_be_constant f.flags f.desc && is_some f.constant))
    (not (value_fits (number_kind f.desc) f.constant)) e
  where
    by : (a b c : Bool) → (a && c) ≡ false → ((a && b) && c) ≡ false
    by true true c e = e
    by true false c e = refl
    by false b c e = refl
