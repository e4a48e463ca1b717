-- The fields of Descriptor in a set: cells of static fields, and instance fields by class and token.
use Rattle.std.specs.Prelude.{◌≡◌, ℕ, ◌++◌, ◌==◌, ◌&&◌, ◌||◌, Bool, true, false, List, refl}
use Rattle.std.specs.Bool.{Decides, IsTrue}
use Rattle.std.specs.Cmp.{IsEquivalence, decided}
use Rattle.std.specs.Hash as writes
use Rattle.std.specs.List.{list_any}
use Rattle.std.proofs.Common.{ap, sym, ◌∙◌, arith, true≢false}
use Rattle.std.proofs.lemmas.Bool.Decides.{nat_tests}
use Rattle.indexmap.specs.IndexSet.{IndexSet, contains}
use Rattle.cjc_capread.specs.declared.tree.ClassRef.{ClassRef}
use Rattle.cjc_capread.specs.declared.tree.ClassRef.TheVariants as refs
use Rattle.cjc_capread.specs.declared.tree.FieldDescriptor.{FieldDescriptor}
use Rattle.cjc_capread.specs.declared.tree.FieldPlace.{FieldPlace}
use Rattle.cjc_capread.specs.declared.tree.FieldPlace.TheVariants.{Static, Instance}
use Rattle.cjc_capread.specs.ClassRefs.{same_class}

-- ---- places of fields are compared

-- both are static fields with one cell, or both instance fields with one class_ref and one token
abbrev pub same_place : FieldPlace → FieldPlace → Bool
same_place (Static a) (Static b) = a == b
same_place (Instance c t) (Instance d u) = same_class c d && t == u
same_place _ _ = false

same_number : (a b : ℕ) → (a == b) ≡ true → a ≡ b
same_number a b e = grind (arith, nat_tests, e)

number_same : (a b : ℕ) → a ≡ b → (a == b) ≡ true
number_same a b e = grind (arith, nat_tests, e)

both : (a b : Bool) → (a && b) ≡ true → (a ≡ true) × (b ≡ true)
both true true e = (refl, refl)
both true false e = absurd (true≢false (sym e))
both false b e = absurd (true≢false (sym e))

joined : (a b : Bool) → a ≡ true → b ≡ true → (a && b) ≡ true
joined true b e f = f
joined false b e f = absurd (true≢false (sym e))

same_class-Decides : (c d : ClassRef) → Decides (same_class c d) (c ≡ d)
same_class-Decides (refs.Inside a) (refs.Inside b) = (λ e. ap refs.Inside (same_number a b e), λ e. number_same a b cc)
same_class-Decides (refs.Outside p a) (refs.Outside q b) = (
  λ e.
      let r = both (p == q) (a == b) e in
      ap (λ (n : ℕ). refs.Outside n a) (same_number p q r.0) ∙ ap (λ (n : ℕ). refs.Outside q n) (same_number a b r.1),
  λ e. joined (p == q) (a == b) (number_same p q cc) (number_same a b cc),
)
same_class-Decides (refs.Inside a) (refs.Outside q b) = (λ e. absurd (true≢false (sym e)), λ e. absurd (cc))
same_class-Decides (refs.Outside p a) (refs.Inside b) = (λ e. absurd (true≢false (sym e)), λ e. absurd (cc))

same_place-Decides : (x y : FieldPlace) → Decides (same_place x y) (x ≡ y)
same_place-Decides (Static a) (Static b) = (λ e. ap Static (same_number a b e), λ e. number_same a b cc)
same_place-Decides (Instance c t) (Instance d u) = (
  λ e.
      let r = both (same_class c d) (t == u) e in
      ap (λ (x : ClassRef). Instance x t) ((same_class-Decides c d).0 r.0)
      ∙ ap (λ (n : ℕ). Instance d n) (same_number t u r.1),
  λ e. joined (same_class c d) (t == u) ((same_class-Decides c d).1 cc) (number_same t u cc),
)
same_place-Decides (Static a) (Instance d u) = (λ e. absurd (true≢false (sym e)), λ e. absurd (cc))
same_place-Decides (Instance c t) (Static b) = (λ e. absurd (true≢false (sym e)), λ e. absurd (cc))

-- being the same place is an equivalence
pub places-equivalence : IsEquivalence same_place
places-equivalence = decided same_place same_place-Decides

-- ---- and fed to a hasher

-- an offset of Class, or the token of an imported package
abbrev pub number_of : ClassRef → ℕ
number_of (refs.Inside offset) = offset
number_of (refs.Outside import class) = import

-- the class token of an imported class; 0 for a class of the package
abbrev pub class_token : ClassRef → ℕ
class_token (refs.Inside offset) = 0
class_token (refs.Outside import class) = class

-- what is fed to a hasher: the cell of a static field, or the class_ref and token of an instance field
abbrev pub fed : FieldPlace → writes.HashWrites
fed (Static at) = writes.u64 at
fed (Instance class token) = writes.u64 (number_of class) ++ (writes.u8 (class_token class) ++ writes.u8 token)

-- the same places are fed to a hasher alike
pub same-fed : (x y : FieldPlace) → IsTrue (same_place x y) → fed x ≡ fed y
same-fed x y h = ap fed ((same_place-Decides x y).0 h)

-- ---- the set

-- one of these fields has this place
abbrev pub has_place : List FieldDescriptor → FieldPlace → Bool
has_place fields place = list_any (λ f. same_place f.place place) fields

-- a set has the places of these fields
abbrev pub AreFields : {S : Type 0} → IndexSet FieldPlace S → List FieldDescriptor → Type 0
AreFields set fields = (place : FieldPlace) → contains same_place set place ≡ has_place fields place

-- and of these beside what it had
abbrev pub HasFields : {S : Type 0} → (old new : IndexSet FieldPlace S) → List FieldDescriptor → Type 0
HasFields old new fields = (place : FieldPlace) → contains same_place new place ≡ (contains same_place old place
    || has_place fields place)
