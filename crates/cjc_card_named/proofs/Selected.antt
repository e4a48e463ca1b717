-- Methods of the group among what is selected, and what stands above a class.
use Rattle.std.proofs.Common.{◌≡◌, ℕ, List, refl, sym, Bool, true, false, Option, Some, None}
use Rattle.std.specs.Prelude.{slice_get, if◌then◌else◌}
use Rattle.cjc_export.specs.declared.tree.ExportClass.{ExportClass}
use Rattle.cjc_export.specs.declared.tree.ExportMethod.{ExportMethod}
use Rattle.cjc_export.specs.Supers.{virtual_method}
use Rattle.cjc_card.specs.Loaded.{MethodName, ClassNames, Loaded}
use Rattle.cjc_card.specs.Classes.{Class, Own, Foreign, foreign, names_of, is_there, upwards}
use Rattle.cjc_card.specs.Dispatch.{NotFound, interface_method, named_in, of_file, of_names, outward}
use Rattle.cjc_card.specs.Calls.{start_selected}

none_outward : (l : Loaded) (class : List ℕ) (m : Option ExportMethod) → start_selected l (outward class m NotFound) ≡ None
none_outward l class None = refl
none_outward l class (Some m) = refl

none_of_file : (l : Loaded) (c : Option ExportClass) (token : ℕ) → start_selected l (of_file c token) ≡ None
none_of_file l None token = refl
none_of_file l (Some c) token = none_outward l c.name (virtual_method token c)

none_named : (l : Loaded) (class : List ℕ) (m : Option MethodName) → start_selected l (named_in class m) ≡ None
none_named l class None = refl
none_named l class (Some m) = refl

none_of_names : (l : Loaded) (c : Option ClassNames) (token : ℕ) → start_selected l (of_names c token) ≡ None
none_of_names l None token = refl
none_of_names l (Some c) token = none_named l c.name (slice_get c.interface_methods token)

-- a method of an interface itself is none of the group
pub none_abroad : (l : Loaded) (interface : Class) (token : ℕ) → None ≡ start_selected l (interface_method l interface token)
none_abroad l (Foreign tree number) token = sym (none_of_file l (foreign l tree number) token)
none_abroad l (Own p offset) token = sym (none_of_names l (names_of l p offset) token)

kept : {A : Type 0} (b : Bool) (x y : A) → Some x ≡ (if b then Some y else None) → x ≡ y
kept true x y e = cc
kept false x y e = absurd (some_is_none x e) where
  some_is_none : {A : Type 0} (x : A) → Some x ≡ None → ⊥
  some_is_none x e = cc

-- the line of a class that is there
pub line_above : (l : Loaded) (c : Class) (line : List Class) → Some line ≡ (if is_there l c then Some (upwards l c) else None) → line ≡ upwards l c
line_above l c line e = kept (is_there l c) line (upwards l c) e
