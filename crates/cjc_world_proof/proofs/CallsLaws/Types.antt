-- Subtypes and the classes of receivers.
use Rattle.std.proofs.Common.{◌≡◌, ℕ, refl, sym, ap, subst, Bool, true, false, List, [], ◌∷◌}
use Rattle.std.specs.Prelude.{not, ◌&&◌, codes, if◌then◌else◌}
use Rattle.cjc_world.specs.Classes.{Class}
use Rattle.cjc_world.specs.Lookup.{object, receiver}
use Rattle.cjc_world.specs.Subtype.{array_is, element, is_element, is_subclass, is_subtype, starts}
use Rattle.cjc_world.specs.Upwards.{Below}
use Rattle.cjc_world.proofs.UpwardLaws.Lines.{below_subclass, subclass_below}

receiver_array : (x : List ℕ) → starts 91 x ≡ true → receiver x ≡ object
receiver_array [] e = absurd cc
receiver_array (b ∷ bs) e = ap (λ v. if v then codes "java/lang/Object" else b ∷ bs) e

pub receiver_class : (x : List ℕ) → starts 91 x ≡ false → receiver x ≡ x
receiver_class [] e = refl
receiver_class (b ∷ bs) e = ap (λ v. if v then codes "java/lang/Object" else b ∷ bs) e

-- a type below a class: its receiver stands below that class
pub type_below : (w : List Class) (type class : List ℕ) → starts 91 class ≡ false → is_subtype w type class ≡ true
    → Below w (receiver type) class
unfolding is_subtype
type_below w type class plain e = by (starts 91 type) (starts 91 class) refl plain e
  where
    by : (a b : Bool) → starts 91 type ≡ a → b ≡ false
        → (if a then (if b then is_element w (element type) (element class) else array_is w class) else not b
        && is_subclass w type class) ≡ true → Below w (receiver type) class
    by true false f g e = subst (λ x. Below w x class) (sym (receiver_array type f)) (subclass_below w object class e)
    by false false f g e = subst (λ x. Below w x class) (sym (receiver_class type f)) (subclass_below w type class e)
    by a true f g e = absurd cc

pub below_type : (w : List Class) (type class : List ℕ) → starts 91 class ≡ false → Below w (receiver type) class
    → is_subtype w type class ≡ true
unfolding is_subtype
below_type w type class plain way = by (starts 91 type) (starts 91 class) refl plain
  where
    by : (a b : Bool) → starts 91 type ≡ a → b ≡ false
        → (if a then (if b then is_element w (element type) (element class) else array_is w class) else not b
        && is_subclass w type class) ≡ true
    by true false f g = below_subclass w object class (subst (λ x. Below w x class) (receiver_array type f) way)
    by false false f g = below_subclass w type class (subst (λ x. Below w x class) (receiver_class type f) way)
    by a true f g = absurd cc
