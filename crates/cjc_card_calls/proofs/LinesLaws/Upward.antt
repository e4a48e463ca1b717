-- What stands above a class that is not there, and one that is.
use Rattle.std.proofs.Common.{◌≡◌, ℕ, suc, ◌+◌, List, [], ◌∷◌, ◌++◌, map, refl, sym, ap, ◌∙◌, arith, Bool, true, false}
use Rattle.std.proofs.Common.{Option, Some, None}
use Rattle.std.specs.Prelude.{flat_map, option_to_list, is_some, if◌then◌else◌}
use Rattle.cjc_card_semantics.specs.ExportFile.declared.tree.ExportClass.{ExportClass}
use Rattle.cjc_card_semantics.specs.Machine.Loaded.{Loaded}
use Rattle.cjc_card_semantics.specs.Machine.Classes.{Class, Own, External, Info, all_supers, class_of as class_by_ref}
use Rattle.cjc_card_semantics.specs.Machine.Classes.{closure, external, external_named, info_of, is_in, is_kind_of}
use Rattle.cjc_card_semantics.specs.Machine.Classes.{is_there, object_above, part_steps, same_class, some_of, steps}
use Rattle.cjc_card_semantics.specs.Machine.Classes.{supers, tree_steps, upwards}
use Rattle.cjc_card_link.proofs.CheckIndexLoops.{or_false}
use Rattle.cjc_card_semantics.proofs.BytesBools.{bool_kept}

none_is_there : {A : Type 0} (o : Option A) → is_some o ≡ false → o ≡ None
none_is_there None e = refl
none_is_there (Some x) e = absurd (true_is_false e) where
  true_is_false : true ≡ false → ⊥
  true_is_false e = cc

-- nothing stands above it
none_above : (l : Loaded) (c : Class) → is_there l c ≡ false → supers l c ≡ []
none_above l (Own p offset) gone =
    ap (λ (i : Option Info). some_of (map (class_by_ref l p) (all_supers i)) ++ object_above l i)
    (none_is_there (info_of l p offset) gone)
none_above l (External tree token) gone =
    ap (λ (c : Option ExportClass). flat_map (λ d. some_of (map (external_named l) (d.supers ++ d.interfaces)))
    (option_to_list c)) (none_is_there (external l tree token) gone)

alone : (next : Class → List Class) (c : Class) (n : ℕ) → next c ≡ [] → closure next (suc (suc n)) [] (c ∷ []) ≡ c ∷ []
alone next c n none = ap (λ (ys : List Class). c ∷ closure next (suc n) (c ∷ []) (ys ++ [])) none

pub by_itself : (l : Loaded) (c : Class) → is_there l c ≡ false → upwards l c ≡ c ∷ []
by_itself l c gone =
    let n = part_steps l.parts + tree_steps l.trees in
    let count : steps l ≡ suc (suc n) = omega arith in
    ap (λ (k : ℕ). closure (supers l) k [] (c ∷ [])) count ∙ alone (supers l) c n (none_above l c gone)

pub gone : {A : Type 0} (b : Bool) (y : A) → None ≡ (if b then Some y else None) → b ≡ false
gone true y e = absurd (none_is_some y e) where
  none_is_some : {A : Type 0} (y : A) → None ≡ Some y → ⊥
  none_is_some y e = cc
gone false y e = refl

-- by the line that is kept
pub kind_by_line : (l : Loaded) (c d : Class) (line : List Class) → Some line ≡ (if is_there l c then Some (upwards l c)
    else None) → is_in d line ≡ is_kind_of l c d
kind_by_line l c d line e = ap (is_in d) (bool_kept (is_there l c) line (upwards l c) e)

-- where none is kept
pub kind_by_none : (l : Loaded) (c d : Class) → None ≡ (if is_there l c then Some (upwards l c) else None)
    → same_class d c ≡ is_kind_of l c d
kind_by_none l c d e = sym (ap (is_in d) (by_itself l c (gone (is_there l c) (upwards l c) e))
    ∙ or_false (same_class d c))
