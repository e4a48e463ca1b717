-- The name of a package, as a list spells it, is one of a class.
use Rattle.std.proofs.Common.{◌≡◌, ℕ, refl, sym, ap, subst, ◌∙◌, Bool, true, false, List, [], ◌∷◌}
use Rattle.std.specs.Prelude.{◌==◌, if◌then◌else◌}
use Rattle.std.specs.List.{join_with_byte, list_all, slice_split}
use Rattle.std.proofs.lemmas.Bool.{eqb-true}
use Rattle.std.proofs.lemmas.List.Splits.{join_with_byte-slice_split}
use Rattle.cjc_bytes.specs.Descriptor.{IsClassName, IsName, inside, last, more, simple}
use Rattle.cjc_bytes.proofs.Bools.{both_front, both_back}
use Rattle.cjc_bytes.proofs.Lists.{never_none}
use Rattle.cjc_bytes.specs.Descriptor as descriptors
use Rattle.cjc_shape.specs.LowerJudge.Spelt.{IsRead}
use Rattle.cjc_classes.specs.List.Grammar.{is_name, is_name_byte, is_name_part}
use Rattle.cjc_classes.specs.List.Listed.{ListTree}

-- a letter, a digit, _ or $ is a byte of a name: the four that are none are no such byte
name_byte : (b : ℕ) → is_name_byte b ≡ true → descriptors.is_name_byte b ≡ true
name_byte b e = dot (b == 46) refl
  where
    slash : (x : Bool) → (b == 47) ≡ x → (if x then false else true) ≡ true
    slash true f = let same = eqb-true b 47 f in let at : is_name_byte 47 ≡ true = ap is_name_byte (sym same) ∙ e in cc
    slash false f = refl

    bracket : (x : Bool) → (b == 91) ≡ x → (if x then false else if b == 47 then false else true) ≡ true
    bracket true f = let same = eqb-true b 91 f in let at : is_name_byte 91 ≡ true = ap is_name_byte (sym same) ∙ e
        in cc
    bracket false f = slash (b == 47) refl

    semicolon : (x : Bool) → (b == 59) ≡ x → (if x then false else if b == 91 then false else if b == 47 then false
        else true) ≡ true
    semicolon true f = let same = eqb-true b 59 f in let at : is_name_byte 59 ≡ true = ap is_name_byte (sym same) ∙ e
        in cc
    semicolon false f = bracket (b == 91) refl

    dot : (x : Bool) → (b == 46) ≡ x → (if x then false else if b == 59 then false else if b == 91 then false
        else if b == 47 then false else true) ≡ true
    dot true f = let same = eqb-true b 46 f in let at : is_name_byte 46 ≡ true = ap is_name_byte (sym same) ∙ e in cc
    dot false f = semicolon (b == 59) refl

part_name : (b : ℕ) (bs : List ℕ) → list_all is_name_byte (b ∷ bs) ≡ true → IsName (b ∷ bs)
part_name b [] e = last (name_byte b (both_front (is_name_byte b) true e))
part_name b (c ∷ bs) e = more (name_byte b (both_front (is_name_byte b) (list_all is_name_byte (c ∷ bs)) e))
    (part_name c bs (both_back (is_name_byte b) (list_all is_name_byte (c ∷ bs)) e))

part_of_name : (bs : List ℕ) → is_name_part bs ≡ true → IsName bs
part_of_name [] e = absurd cc
part_of_name (b ∷ bs) e = part_name b bs e

-- parts joined by /
joined_name : (part : List ℕ) (parts : List (List ℕ)) → list_all is_name_part (part ∷ parts) ≡ true
    → IsClassName (join_with_byte 47 (part ∷ parts))
joined_name part [] e = simple (part_of_name part (both_front (is_name_part part) true e))
joined_name part (next ∷ parts) e =
    inside (part_of_name part (both_front (is_name_part part) (list_all is_name_part (next ∷ parts)) e))
    (joined_name next parts (both_back (is_name_part part) (list_all is_name_part (next ∷ parts)) e))

some_parts : (parts : List (List ℕ)) (bs : List ℕ) → join_with_byte 47 parts ≡ bs → (parts ≡ [] → ⊥)
    → list_all is_name_part parts ≡ true → IsClassName bs
some_parts [] bs e some all = absurd (some refl)
some_parts (part ∷ parts) bs e some all = subst IsClassName e (joined_name part parts all)

pub class_name : (bs : List ℕ) → is_name bs ≡ true → IsClassName bs
unfolding is_name
class_name bs e = some_parts (slice_split (λ b. b == 47) bs) bs (join_with_byte-slice_split 47 bs) (never_none bs) e

pub package_named : (list : ListTree) → IsRead list → IsClassName list.«package»
package_named list read =
    let spelt = read.2 in
    let begins = spelt.0.3.begins in
    let says = begins.2 in
    class_name list.«package» says.3
