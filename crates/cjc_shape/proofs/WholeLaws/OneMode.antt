-- Whether a package of a list and its files has a method in int mode is settled by these, whichever tables tell the
-- modes.
use Rattle.std.proofs.Common.{◌≡◌, ℕ, suc, refl, sym, ap, ◌∙◌, Bool, List, [], ◌∷◌}
use Rattle.std.specs.Prelude.{◌||◌, Some, slice_get}
use Rattle.std.specs.List.{list_any}
use Rattle.cjc_exported.specs.Components.Package.{LaidMethod, Package}
use Rattle.cjc_exported.specs.World.Classes.{all_classes}
use Rattle.cjc_exported.specs.World.Files.{Files}
use Rattle.cjc_exported.specs.World.Order.{method_order}
use Rattle.cjc_exported.specs.World.declared.found.Found.{Found}
use Rattle.cjc_judge.specs.declared.judged.Judged.{Judged}
use Rattle.cjc_methods.proofs.BytesGets.{item_has}
use Rattle.cjc_methods.proofs.Rooms.{modes_alike}
use Rattle.cjc_methods.specs.JvmSemantics.OnePackage.{method_at}
use Rattle.cjc_methods.specs.List.Listed.{ListTree}
use Rattle.cjc_methods.specs.LowerIntPackage.Components.{has_int_mode, is_in_int_mode}
use Rattle.cjc_methods.specs.LowerIntPackage.Modes.{Tables}
use Rattle.cjc_methods.specs.Ready.{IsOwn}
use Rattle.cjc_shape.proofs.PreparedLaws.Sound.{are_ready}
use Rattle.cjc_shape.proofs.WholeLaws.Codes.{draft_files, draft_has, package_is_draft}
use Rattle.cjc_shape.proofs.WholeLaws.Drafts.{owned, same_members}
use Rattle.cjc_shape.proofs.WholeLaws.Modes.{modes_count, tables_told}
use Rattle.cjc_shape.proofs.WholeLaws.Shapes.{any_member}
use Rattle.cjc_shape.specs.Prepared.{IsSound}
use Rattle.cjc_shape.specs.Whole.Conversion.{IsPackageByModesOf}

any_alike : {A : Type 0} (P Q : A → Bool) (xs : List A) → ((k : ℕ) (x : A) → slice_get xs k ≡ Some x → P x ≡ Q x)
    → list_any P xs ≡ list_any Q xs
any_alike P Q [] same = refl
any_alike P Q (x ∷ xs) same =
    ap (λ b. b || list_any P xs) (same 0 x refl)
    ∙ ap (λ b. Q x || b) (any_alike P Q xs (λ k y e. same (suc k) y e))

module _ (list : ListTree) (files : List (List ℕ)) (judged : Judged) (is : IsSound list files judged) where
  abbrev world : Files
  world = judged.world

  abbrev fs : List Found
  fs = method_order (all_classes world)

  -- a member is in int mode
  abbrev is_on : Tables → Found → Bool
  is_on t f = is_in_int_mode t (method_at world f)

  told_by_members : (p : Package) (of : IsPackageByModesOf list files p) → has_int_mode of.tables p
      ≡ list_any (is_on of.tables) fs
  told_by_members p of =
      let here = draft_files list files judged is p (package_is_draft list files p of) in
      ap (λ (w : Files). list_any (λ (m : LaidMethod). is_in_int_mode of.tables (method_at w m.member)) p.methods) here
      ∙ sym (any_member (is_on of.tables) p.methods)
      ∙ ap (list_any (is_on of.tables)) (same_members list files judged is p here of.is_package.members)

  pub one_mode : (p q : Package) (one : IsPackageByModesOf list files p) (other : IsPackageByModesOf list files q)
      → has_int_mode one.tables p ≡ has_int_mode other.tables q
  one_mode p q one other =
      told_by_members p one
      ∙ any_alike (is_on one.tables) (is_on other.tables) fs (λ k f e.
      modes_alike world judged.codes judged.types judged.modes (are_ready list files judged is)
      (modes_count list files judged is) f (item_has (IsOwn world) fs k f (owned list files judged is) e)
      one.tables other.tables
      (tables_told list files judged is one.tables (draft_has list files judged is p (package_is_draft list files p
      one)))
      (tables_told list files judged is other.tables (draft_has list files judged is q (package_is_draft list files q
      other))))
      ∙ sym (told_by_members q other)
