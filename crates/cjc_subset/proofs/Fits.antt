-- What 206 says of a field that an instruction names, without what it says of final ones.
use Rattle.std.proofs.Common.{◌≡◌, refl, Bool, true, false, ◌&&◌, ◌||◌}
use Rattle.std.specs.Prelude.{Option, Some}
use Rattle.cjc_bytes.specs.declared.fault.MemberId.{MemberId}
use Rattle.cjc_code.specs.ClassFile.declared.tree.ClassTree.{ClassTree}
use Rattle.cjc_subset.specs.Members.{ResolvedMember}
use Rattle.cjc_subset.specs.Names.{is_constant_found, is_hidden, is_other_kind, is_unfit_field, puts_final}
use Rattle.cjc_world.specs.declared.found.Found.{Found}
use Rattle.cjc_world.specs.Classes.{all_classes}
use Rattle.cjc_world.specs.Files.{Files}

pub field_fits : (files : Files) (c : ClassTree) (static put : Bool) (id : MemberId) (found : Option Found)
    (h : ResolvedMember) → is_unfit_field files c static put id found (Some h) ≡ false
    → (is_hidden (all_classes files) c id h || is_other_kind static h.flags
    || (static && put && is_constant_found files found)) ≡ false
field_fits files c static put id found h e = front (is_hidden (all_classes files) c id h || is_other_kind static h.flags
    || (static && put && is_constant_found files found)) (puts_final c put h) e
  where
    front : (a b : Bool) → (a || b) ≡ false → a ≡ false
    front true b e = e
    front false b e = refl
