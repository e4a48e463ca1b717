-- Packages by the narrow code of their methods, none of them in int mode, whatever its layout.
use Rattle.std.proofs.Common.{◌≡◌, ℕ, ap, subst, ◌∙◌, false, List}
use Rattle.std.specs.Prelude.{Option, Some, map, slice_get}
use Rattle.cjc_components.specs.Package.{LaidMethod, Package, pool}
use Rattle.cjc_components.specs.Written.{code_at}
use Rattle.cjc_jvm_semantics.specs.Linked.{Method}
use Rattle.cjc_jvm_semantics.specs.OnePackage.{method_at}
use Rattle.cjc_shape_proof.proofs.IntByModes.{same_code}
use Rattle.cjc_shape_proof.proofs.ShapeDrafts.{same_spelt}
use Rattle.cjc_shape_proof.proofs.ShapeModes.{member_short}
use Rattle.cjc_shape_proof.proofs.ShapeShort.{member_own}
use Rattle.cjc_shape_proof.specs.LowerJudge.declared.judged.Judged.{Judged}
use Rattle.cjc_shape_proof.specs.LowerIntPackage.Components.{is_in_int_mode}
use Rattle.cjc_shape_proof.specs.LowerShape.Prepared.{IsSound}
use Rattle.cjc_shape_proof.specs.LowerShape.Whole.Conversion.{AreShort, HasModes, IsDraft, IsPackageOf, IsSpeltBy}
use Rattle.cjc_token_proof.specs.List.Listed.{ListTree}
use Rattle.cjc_token_proof.specs.Narrow.Rows.Selected.{near_fields}
use Rattle.cjc_token_proof.specs.Types.declared.state.State.{State}
use Rattle.cjc_world.specs.Classes.{all_classes}
use Rattle.cjc_world.specs.Files.{Files}
use Rattle.cjc_world.specs.Order.{method_order}

-- The methods of the package of a list and its files, each by the code that its rows select.
pub record IsByRows (list : ListTree) (files : List (List ℕ)) (p : Package) : Type 0 where
  pub rows : Method → List (Option State)
  pub spelt : IsSpeltBy list files p.files rows
  pub members : map (λ m. m.member) p.methods ≡ method_order (all_classes p.files)
  pub codes : (k : ℕ) (m : LaidMethod) → slice_get p.methods k ≡ Some m
      → m.code ≡ code_at p.files (near_fields (pool p)) rows m.member

abbrev pub by_package : (list : ListTree) (files : List (List ℕ)) (p : Package) → IsPackageOf list files p
    → IsByRows list files p
by_package list files p whole = record {
  rows = whole.rows;
  spelt = whole.spelt;
  members = whole.is_package.members;
  codes = λ k m e. (let w = whole.is_package.methods k m e in w.code);
}

-- a package by modes, where no method is in int mode
pub by_draft : (list : ListTree) (files : List (List ℕ)) (judged : Judged) → IsSound list files judged → (p : Package)
    → IsDraft list files p → AreShort list.ints judged.world → IsByRows list files p
by_draft list files judged is p draft short = record {
  rows = (let u = draft.tables in u.types);
  spelt = draft.spelt;
  members = draft.members;
  codes = λ k m e. (let one = draft.methods k m e in one.code ∙ same_code p.files (near_fields (pool p))
      draft.tables m.member (method_at p.files m.member) (off k m e));
}
  where
    here : p.files ≡ judged.world
    here = same_spelt list files judged is p.files (let u = draft.tables in u.types) draft.spelt

    off : (k : ℕ) (m : LaidMethod) → slice_get p.methods k ≡ Some m
        → is_in_int_mode draft.tables (method_at p.files m.member) ≡ false
    off k m e =
        ap (λ (w : Files). is_in_int_mode draft.tables (method_at w m.member)) here
        ∙ member_short list files judged is draft.tables (subst (λ w. HasModes list.ints w draft.tables) here draft.has)
        short m.member (member_own list files judged is p here draft.members k m e)
