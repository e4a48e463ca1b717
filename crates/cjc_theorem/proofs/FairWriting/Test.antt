-- Whether export files are open, as a test that the checker computes.
use Rattle.std.proofs.Common.{◌≡◌, ℕ, zero, suc, refl, sym, ap, ◌∙◌, Bool, true, false, List, [], ◌∷◌}
use Rattle.std.specs.Prelude.{not, ◌&&◌, ◌||◌, Some, slice_get}
use Rattle.std.specs.List.{list_all}
use Rattle.std.specs.Str.{bytes_eq}
use Rattle.cjc_bytes.specs.AccessFlags.{is_interface}
use Rattle.cjc_export.specs.declared.tree.ExportClass.{ExportClass}
use Rattle.cjc_export.specs.declared.tree.ExportMethod.{ExportMethod}
use Rattle.cjc_export.specs.declared.tree.ExportTree.{ExportTree}
use Rattle.cjc_subset.specs.Members.{imports}
use Rattle.cjc_tokens.specs.Members.{is_exposed}
use Rattle.cjc_world.specs.Lookup.{object}
use Rattle.cjc_world.proofs.Settled.{bytes-refl}
use Rattle.cjc_theorem.specs.Open.{ExportsAreOpen}

front_of : (a b : Bool) → (a && b) ≡ true → a ≡ true
front_of true b e = refl
front_of false b e = absurd cc

back_of : (a b : Bool) → (a && b) ≡ true → b ≡ true
back_of true b e = e
back_of false b e = absurd cc

either_told : (a b : Bool) → (a || b) ≡ true → a ≡ false → b ≡ true
either_told true b e f = absurd cc
either_told false b e f = e

each_of : {A : Type 0} (test : A → Bool) (xs : List A) → list_all test xs ≡ true → (n : ℕ) (x : A)
    → slice_get xs n ≡ Some x → test x ≡ true
each_of test [] e n x f = absurd cc
each_of test (y ∷ xs) e zero x f = let same : y ≡ x = cc in ap test (sym same) ∙ front_of (test y) (list_all test xs) e
each_of test (y ∷ xs) e (suc n) x f = each_of test xs (back_of (test y) (list_all test xs) e) n x f

-- no names
abbrev is_none : List (List ℕ) → Bool
is_none [] = true
is_none (x ∷ xs) = false

none_is : (xs : List (List ℕ)) → is_none xs ≡ true → xs ≡ []
none_is [] e = refl
none_is (x ∷ xs) e = absurd cc

unfoldable pub open_class : ExportClass → Bool
open_class c = (is_interface c.flags || list_all (λ (m : ExportMethod). is_exposed m.flags) c.methods)
    && (not (bytes_eq c.name object) || is_none c.supers)

unfoldable pub are_open : List ExportTree → Bool
are_open exports = list_all open_class (imports exports)

not_false : (b : Bool) → b ≡ true → not b ≡ false
not_false true e = refl
not_false false e = absurd cc

pub tested_exports_are_open : (exports : List ExportTree) → are_open exports ≡ true → ExportsAreOpen exports
unfolding are_open open_class
tested_exports_are_open exports e = record {
  exposed = λ n c f plain k m g.
      let here = each_of open_class (imports exports) e n c f in
      let M = list_all (λ (x : ExportMethod). is_exposed x.flags) c.methods in
      let N = not (bytes_eq c.name object) || is_none c.supers in
      each_of (λ (x : ExportMethod). is_exposed x.flags) c.methods (either_told (is_interface c.flags) M
      (front_of (is_interface c.flags || M) N here) plain) k m g;
  top = λ n c f same.
      let here = each_of open_class (imports exports) e n c f in
      let M = list_all (λ (x : ExportMethod). is_exposed x.flags) c.methods in
      let named : bytes_eq c.name object ≡ true = ap (λ x. bytes_eq x object) same ∙ bytes-refl object in
      none_is c.supers (either_told (not (bytes_eq c.name object)) (is_none c.supers) (back_of (is_interface c.flags
      || M) (not (bytes_eq c.name object) || is_none c.supers) here) (not_false (bytes_eq c.name object) named));
}
