-- Scratch.
use Rattle.std.proofs.Common.{◌≡◌, ◌<◌, ◌+◌, ◌*◌, ◌-◌, ◌/◌, ◌%◌, ◌^◌, ℕ, zero, suc, Bool, true, false, List, [], ◌∷◌}
use Rattle.std.proofs.Common.{slice_get, Option, Some, None, refl, sym, ap, subst, ◌∙◌, arith, nat_lt}
use Rattle.std.specs.Prelude.{if◌then◌else◌, is_some, option_and_then, option_map}
use Rattle.std.proofs.lemmas.Bool.Decides.{nat_tests}
use Rattle.cjc_capread.specs.declared.tree.ClassInfo.{ClassInfo}
use Rattle.cjc_capread.specs.declared.tree.ClassRef.{ClassRef}
use Rattle.cjc_capread.specs.declared.tree.ClassRef.TheVariants.{Inside, Outside}
use Rattle.cjc_capread.specs.Parts as parts
use Rattle.cjc_check_rules.specs.ExportFile.declared.tree.ExportTree.{ExportTree}
use Rattle.cjc_check_rules.specs.declared.spot.ComponentPlace.{ComponentPlace}
use Rattle.cjc_check_rules.specs.Described.{all_starts}
use Rattle.cjc_check_rules.specs.Spots.{starts, unless}
use Rattle.cjc_card_semantics.specs.Machine.Loaded.{Loaded, OfFile}
use Rattle.cjc_card_semantics.specs.Machine.Classes.{class_of, info_size}
use Rattle.cjc_zcut.specs.Copies.{class_by, ref_nibbles}
use Rattle.cjc_zcut.specs.PairCopy.{files_from, infos}
use Rattle.cjc_zcut.specs.Ents.{IsRef}
axiom pub starts_of_infos : (c : ClassInfo) → all_starts c ≡ starts info_size 2 (infos c)
pub unless_holds : (b : Bool) (s : ComponentPlace) → unless b s ≡ [] → b ≡ true
unless_holds true s e = refl
unless_holds false s e = cc
-- the number that four nibbles spell
abbrev pub spelt : List ℕ → ℕ
spelt (a ∷ b ∷ c ∷ d ∷ []) = 4096 * a + 256 * b + 16 * c + d
spelt nibbles = 0

spelt_back : (offset : ℕ) → offset < 2 ^ 15 → spelt (ref_nibbles (Inside offset)) ≡ offset
spelt_back offset lt = omega (arith, lt)

-- nibbles of a class_ref name its class
pub ref_read : (l : Loaded) (offset : ℕ) → offset < 2 ^ 15 → class_by l (ref_nibbles (Inside offset))
    ≡ class_of l 0 (Inside offset)
ref_read l offset lt =
    let low : nat_lt offset 0x8000 ≡ true = grind (arith, nat_tests, lt) in
    ap (λ n. class_of l 0 (parts.class_of n)) (spelt_back offset lt)
    ∙ ap (λ b. class_of l 0 (if b then Inside offset else Outside (offset / 256 - 0x80) (offset % 256))) low

pub import_there : (k : ℕ) (trees : List ExportTree) (i : ℕ) (t : ExportTree) → slice_get trees i ≡ Some t
    → slice_get (files_from k trees) i ≡ Some (OfFile (k + i))
import_there k [] i t e = cc
import_there k (x ∷ trees) zero t e = let z : k ≡ k + 0 = omega arith in ap (λ n. Some (OfFile n)) z
import_there k (x ∷ trees) (suc i) t e = import_there (k + 1) trees i t e ∙ (let s : k + 1 + i ≡ k + suc i = omega arith
    in ap (λ n. Some (OfFile n)) s)

outside_back : (import class : ℕ) → import < 2 ^ 7 → class < 2 ^ 8 → spelt (ref_nibbles (Outside import class))
    ≡ 256 * (0x80 + import) + class
outside_back import class lt less = omega (arith, lt, less)

outside_ref : (import class : ℕ) → import < 2 ^ 7 → class < 2 ^ 8 → parts.class_of (256 * (0x80 + import) + class)
    ≡ Outside import class
outside_ref import class lt less =
    let n = 256 * (0x80 + import) + class in
    let high : nat_lt (256 * (0x80 + import) + class) 0x8000 ≡ false = grind (arith, nat_tests, lt) in
    let first : (256 * (0x80 + import) + class) / 256 - 0x80 ≡ import = omega (arith, less) in
    let second : (256 * (0x80 + import) + class) % 256 ≡ class = omega (arith, less) in
    ap (λ b. if b then Inside (256 * (0x80 + import) + class) else Outside ((256 * (0x80 + import) + class) / 256 - 0x80)
    ((256 * (0x80 + import) + class) % 256)) high
    ∙ ap (λ x. Outside x ((256 * (0x80 + import) + class) % 256)) first ∙ ap (Outside import) second

-- nibbles of a class_ref name its class
pub all_read : (l : Loaded) (r : ClassRef) → IsRef r → class_by l (ref_nibbles r) ≡ class_of l 0 r
all_read l (Inside offset) lt = ref_read l offset lt
all_read l (Outside import class) lt = ap (λ n. class_of l 0 (parts.class_of n)) (outside_back import class lt.0 lt.1)
    ∙ ap (class_of l 0) (outside_ref import class lt.0 lt.1)

