-- A test of export files by which they are fair.
use Rattle.std.proofs.Common.{◌≡◌, ℕ, zero, suc, refl, sym, ap, ◌∙◌, Bool, true, false, List, [], ◌∷◌}
use Rattle.std.proofs.Common.{◌++◌, map}
use Rattle.std.specs.Prelude.{◌==◌, ◌&&◌, ◌||◌, not, Some, slice_get, if◌then◌else◌}
use Rattle.std.specs.List.{list_all}
use Rattle.std.proofs.lemmas.Bool.{eqb-true}
use Rattle.cjc_bytes.specs.AccessFlags.{is_interface}
use Rattle.cjc_bytes.proofs.Bools.{both_front, both_back}
use Rattle.cjc_bytes.proofs.Numbers.{like_number}
use Rattle.cjc_bytes.proofs.Plain.{no_both}
use Rattle.cjc_world.specs.ExportFile.declared.tree.ExportClass.{ExportClass}
use Rattle.cjc_world.specs.ExportFile.declared.tree.ExportTree.{ExportTree}
use Rattle.cjc_theorem.specs.FairExports.Fair.{ExportsAreFair, world_of}
use Rattle.cjc_token_proof.specs.Subset.Members.{imports}
use Rattle.cjc_tokens.specs.Members.{In, all_methods, first_of, is_virtual, later, same, signature_of}
use Rattle.cjc_tokens.proofs.Facts.{same-refl, same-true}
use Rattle.cjc_vtable.specs.Calls.{IsOneToOne}
use Rattle.cjc_world.specs.Classes.{Class, Member, method_of_export}
use Rattle.cjc_world.specs.Supertypes.{supertypes, upwards}

-- ---- tokens

-- two methods that are virtual have one token exactly where they have one name and descriptor
unfoldable pub agree : Member → Member → Bool
agree m n = not (is_virtual m && is_virtual n) || (if m.token == n.token then same (signature_of m) (signature_of n)
    else not (same (signature_of m) (signature_of n)))

unfoldable pub one_to_one : List Member → Bool
one_to_one ms = list_all (λ m. list_all (agree m) ms) ms

all_in : (test : Member → Bool) (ms : List Member) (m : Member) → list_all test ms ≡ true → In m ms → test m ≡ true
all_in test [] m e h = elim h [ ]
all_in test (x ∷ ms) m e first_of = both_front (test x) (list_all test ms) e
all_in test (x ∷ ms) m e (later h) = all_in test ms m (both_back (test x) (list_all test ms) e) h

both_told : (a b t : Bool) → a ≡ true → b ≡ true → (not (a && b) || t) ≡ true → t ≡ true
both_told true true t e f g = g
both_told true false t e f g = absurd cc
both_told false b t e f g = absurd cc

agreed : (m n : Member) → agree m n ≡ true → is_virtual m ≡ true → is_virtual n ≡ true
    → (m.token ≡ n.token → signature_of m ≡ signature_of n) × (signature_of m ≡ signature_of n → m.token ≡ n.token)
unfolding agree
agreed m n e v u = by (m.token == n.token) (same (signature_of m) (signature_of n)) refl refl (both_told (is_virtual m)
    (is_virtual n) (if m.token == n.token then same (signature_of m) (signature_of n)
    else not (same (signature_of m) (signature_of n))) v u e)
  where
    by : (t s : Bool) → (m.token == n.token) ≡ t → same (signature_of m) (signature_of n) ≡ s → (if t then s else not s)
        ≡ true
        → (m.token ≡ n.token → signature_of m ≡ signature_of n) × (signature_of m ≡ signature_of n → m.token ≡ n.token)
    by true true f g h = (
      λ token. same-true (signature_of m) (signature_of n) g,
      λ signature. eqb-true m.token n.token
          f,
    )
    by true false f g h = absurd cc
    by false true f g h = absurd cc
    by false false f g h = (
      λ token. no_both (sym (like_number m.token) ∙ ap (λ k. m.token == k) token ∙ f),
      λ signature. no_both (sym (same-refl (signature_of m)) ∙ ap (same (signature_of m)) signature ∙ g),
    )

is_one_to_one : (ms : List Member) → one_to_one ms ≡ true → IsOneToOne ms
unfolding one_to_one
is_one_to_one ms e m n h g v u = agreed m n (all_in (agree m) ms n (all_in (λ x. list_all (agree x) ms) ms m e h) g) v u

-- ---- a class

unfoldable pub members_above : List Class → ExportClass → List Member
members_above w c = map method_of_export c.methods ++ all_methods (upwards (supertypes w c.supers))

unfoldable pub fair_class : List Class → ExportClass → Bool
fair_class w c = is_interface c.flags || one_to_one (members_above w c)

-- each class is so
unfoldable pub are_fair : List ExportTree → Bool
are_fair exports = list_all (fair_class (world_of exports)) (imports exports)

-- ---- what the test tells

each_of : {A : Type 0} (test : A → Bool) (xs : List A) → list_all test xs ≡ true → (n : ℕ) (x : A)
    → slice_get xs n ≡ Some x → test x ≡ true
each_of test [] e n x f = absurd cc
each_of test (y ∷ xs) e zero x f = let same : y ≡ x = cc in ap test (sym same) ∙ both_front (test y) (list_all test xs)
    e
each_of test (y ∷ xs) e (suc n) x f = each_of test xs (both_back (test y) (list_all test xs) e) n x f

told_class : (w : List Class) (c : ExportClass) → fair_class w c ≡ true → is_interface c.flags ≡ false
    → IsOneToOne (map method_of_export c.methods ++ all_methods (upwards (supertypes w c.supers)))
unfolding fair_class members_above
told_class w c e plain = is_one_to_one (members_above w c) (ap (λ b. b || one_to_one (members_above w c)) (sym plain)
    ∙ e)

pub tested_exports_are_fair : (exports : List ExportTree) → are_fair exports ≡ true → ExportsAreFair exports
unfolding are_fair
tested_exports_are_fair exports e = record {
  tokens = λ n c f plain. told_class (world_of exports) c (each_of (fair_class (world_of exports)) (imports exports) e n
      c f) plain;
}
