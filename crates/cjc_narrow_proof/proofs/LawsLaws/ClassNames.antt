-- The name of a class of the package is one of a class.
use Rattle.std.proofs.Common.{◌≡◌, ℕ, refl, sym, ap, subst, ◌∙◌, Bool, true, false, List, [], ◌∷◌, ◌++◌, append_assoc}
use Rattle.std.proofs.Common.{length, take-append-drop}
use Rattle.std.specs.Prelude.{not, ◌≤◌, Some, slice_get, ◌==◌, take, drop, if◌then◌else◌}
use Rattle.std.specs.List.{list_all}
use Rattle.std.specs.Str.{bytes_eq}
use Rattle.std.proofs.lemmas.Bool.{eqb-true}
use Rattle.cjc_bytes.specs.Descriptor.{IsClassName, IsName, inside, is_name_byte, last, more, simple}
use Rattle.cjc_bytes.proofs.Lists.{bytes_true}
use Rattle.cjc_bytes.proofs.Bools.{both_front, both_back}
use Rattle.cjc_vtable.specs.LowerClassOrder.Classes.Numbers.{class_count}
use Rattle.cjc_code.specs.ClassFile.declared.tree.ClassTree.{ClassTree}
use Rattle.cjc_narrow_proof.specs.Laws.Unbroken.{AreSpelt}
use Rattle.cjc_narrow_proof.proofs.LawsLaws.Own.{own_kept}
use Rattle.cjc_vtable.proofs.Filed.{IsFiled, filed, in_class_file, in_export_file}
use Rattle.cjc_world.specs.Classes.{Class, all_classes, class_named}
use Rattle.cjc_world.specs.Files.{Files}
use Rattle.cjc_world.specs.Rules.{breaks, is_of_package, is_part, is_part_byte, is_slash_part}
use Rattle.cjc_world.proofs.Cycles.{class_named-name}

-- a byte of a part of the package's names is one of a name: the four that are none are no such byte
part_byte : (b : ℕ) → is_part_byte b ≡ true → is_name_byte b ≡ true
part_byte b e = dot (b == 46) refl
  where
    slash : (x : Bool) → (b == 47) ≡ x → (if x then false else true) ≡ true
    slash true f = let same = eqb-true b 47 f in let at : is_part_byte 47 ≡ true = ap is_part_byte (sym same) ∙ e in cc
    slash false f = refl

    bracket : (x : Bool) → (b == 91) ≡ x → (if x then false else if b == 47 then false else true) ≡ true
    bracket true f = let same = eqb-true b 91 f in let at : is_part_byte 91 ≡ true = ap is_part_byte (sym same) ∙ e
        in cc
    bracket false f = slash (b == 47) refl

    semicolon : (x : Bool) → (b == 59) ≡ x → (if x then false else if b == 91 then false else if b == 47 then false
        else true) ≡ true
    semicolon true f = let same = eqb-true b 59 f in let at : is_part_byte 59 ≡ true = ap is_part_byte (sym same) ∙ e
        in cc
    semicolon false f = bracket (b == 91) refl

    dot : (x : Bool) → (b == 46) ≡ x → (if x then false else if b == 59 then false else if b == 91 then false
        else if b == 47 then false else true) ≡ true
    dot true f = let same = eqb-true b 46 f in let at : is_part_byte 46 ≡ true = ap is_part_byte (sym same) ∙ e in cc
    dot false f = semicolon (b == 59) refl

part_name : (b : ℕ) (bs : List ℕ) → list_all is_part_byte (b ∷ bs) ≡ true → IsName (b ∷ bs)
part_name b [] e = last (part_byte b (both_front (is_part_byte b) true e))
part_name b (c ∷ bs) e = more (part_byte b (both_front (is_part_byte b) (list_all is_part_byte (c ∷ bs)) e))
    (part_name c bs (both_back (is_part_byte b) (list_all is_part_byte (c ∷ bs)) e))

part_of_name : (bs : List ℕ) → is_part bs ≡ true → IsName bs
part_of_name [] e = absurd cc
part_of_name (b ∷ bs) e = part_name b bs (both_back (not (length (b ∷ bs) == 0)) (list_all is_part_byte (b ∷ bs)) e)

-- a name of a class, a slash and a name
within : {front : List ℕ} (part : List ℕ) → IsClassName front → IsName part → IsClassName (front ++ 47 ∷ part)
within part (simple n) p = inside n (simple p)
within part (inside {front = front} {back = back} n rest) p =
    subst IsClassName (sym (append_assoc front (47 ∷ back) (47 ∷ part))) (inside n (within part rest p))

-- behind the package's name
behind : (package_name rest : List ℕ) → IsClassName package_name → is_slash_part rest ≡ true
    → IsClassName (package_name ++ rest)
behind p [] n e = absurd cc
behind p (b ∷ bs) n e =
    let same = eqb-true b 47 (both_front (b == 47) (is_part bs) e) in
    subst (λ k. IsClassName (p ++ k ∷ bs)) (sym same)
    (within bs n (part_of_name bs (both_back (b == 47) (is_part bs) e)))

pub class_name_of : (package_name name : List ℕ) → IsClassName package_name → is_of_package package_name name ≡ true
    → IsClassName name
unfolding is_of_package
class_name_of p name n e =
    let front = take (length p) name in
    let back = drop (length p) name in
    let same : front ≡ p = bytes_true front p (both_front (bytes_eq front p) (is_slash_part back) e) in
    let whole : p ++ back ≡ name = ap (λ xs. xs ++ back) (sym same) ∙ take-append-drop (length p) name in
    subst IsClassName whole (behind p back n (both_back (bytes_eq front p) (is_slash_part back) e))

module _ (files : Files) (list : List ℕ) (listed : length files.classes ≤ class_count files.lines)
    (unbroken : breaks list files ≡ []) (spelt : AreSpelt files) where
  -- 201
  pub own_name : (n : ℕ) (c : ClassTree) → slice_get files.classes n ≡ Some c → IsClassName c.name
  own_name n c at = class_name_of files.package_name c.name spelt.package_name (own_kept files list listed unbroken n c
      at).named

  pub each_name : (name : List ℕ) (c : Class) → class_named (all_classes files) name ≡ Some c → IsClassName name
  each_name name c e = subst IsClassName (class_named-name (all_classes files) name c e) (by c (filed files name c e))
    where
      by : (d : Class) → IsFiled files d → IsClassName d.name
      by d (in_class_file n t at) = own_name n t at
      by d (in_export_file n t at) = spelt.exports n t at
