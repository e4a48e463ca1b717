-- The package of a class is what stands before its one name part.
use Rattle.std.proofs.Common.{◌≡◌, ℕ, refl, sym, ap, subst, ◌∙◌, Bool, true, false, List, [], ◌∷◌, ◌++◌, length, take}
use Rattle.std.proofs.Common.{drop}
use Rattle.std.proofs.Common.{append_assoc}
use Rattle.std.specs.Prelude.{◌==◌, if◌then◌else◌}
use Rattle.std.specs.List.{list_all}
use Rattle.std.specs.Str.{bytes_eq}
use Rattle.std.proofs.lemmas.Bool.{and_parts}
use Rattle.std.proofs.lemmas.List.{append-nil, take-append-drop}
use Rattle.cjc_token_proof.proofs.BytesLists.{bytes_true}
use Rattle.cjc_token_proof.proofs.BytesNumbers.{number_same}
use Rattle.cjc_exported.specs.World.Rules.{is_of_package, is_part_byte, is_slash_part}
use Rattle.cjc_link_semantics.specs.JvmSemantics.Group.{before_last, package_of}

no_slash : (b : ℕ) → is_part_byte b ≡ true → (b == 47) ≡ false
no_slash b e = by (b == 47) refl
  where
    by : (t : Bool) → (b == 47) ≡ t → t ≡ false
    by true f = let is = number_same b 47 f in let no : is_part_byte 47 ≡ true = subst (λ n. is_part_byte n ≡ true) is e
        in absurd cc
    by false f = refl

in_part : (begun found part : List ℕ) → list_all is_part_byte part ≡ true → before_last begun found part ≡ found
in_part begun found [] e = refl
in_part begun found (b ∷ part) e =
    let both = and_parts (is_part_byte b) (list_all is_part_byte part) e in
    ap (λ t. if t then before_last (begun ++ b ∷ []) begun part else before_last (begun ++ b ∷ []) found part)
    (no_slash b both.0)
    ∙ in_part (begun ++ b ∷ []) found part both.1

before_slash : (begun found name part : List ℕ) → list_all is_part_byte part ≡ true
    → before_last begun found (name ++ 47 ∷ part) ≡ begun ++ name
before_slash begun found [] part e = in_part (begun ++ 47 ∷ []) begun part e ∙ sym (append-nil begun)
before_slash begun found (b ∷ name) part e =
    by (b == 47) (λ f. before_slash (begun ++ b ∷ []) f name part e) ∙ append_assoc begun (b ∷ []) name
  where
    by : (t : Bool) → ((f : List ℕ) → before_last (begun ++ b ∷ []) f (name ++ 47 ∷ part) ≡ (begun ++ b ∷ []) ++ name)
        → (if t then before_last (begun ++ b ∷ []) begun (name ++ 47 ∷ part) else before_last (begun
        ++ b ∷ []) found (name ++ 47 ∷ part)) ≡ (begun ++ b ∷ []) ++ name
    by true go = go begun
    by false go = go found

pub package_is : (package_name name : List ℕ) → is_of_package package_name name ≡ true
    → package_of name ≡ package_name
unfolding is_of_package
package_is p name e =
    let n = length p in
    let both = and_parts (bytes_eq (take n name) p) (is_slash_part (drop n name)) e in
    let front = bytes_true (take n name) p both.0 in
    ap (before_last [] []) (sym (take-append-drop n name) ∙ ap (λ xs. xs ++ drop n name) front)
    ∙ by (drop n name) both.1
  where
    by : (rest : List ℕ) → is_slash_part rest ≡ true → before_last [] [] (p ++ rest) ≡ p
    by [] f = absurd cc
    by (b ∷ part) f =
        let both = and_parts (b == 47) _ f in
        let is = number_same b 47 both.0 in
        ap (λ c. before_last [] [] (p ++ c ∷ part)) is ∙ before_slash [] [] p part (and_parts _ (list_all is_part_byte
        part) both.1).1
