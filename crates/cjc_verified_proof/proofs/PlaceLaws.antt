-- Items of components that stand one behind the other, and what class_refs and imports spell.
use Rattle.std.proofs.Common.{◌≡◌, ◌<◌, ◌+◌, ◌*◌, ◌-◌, ◌/◌, ◌%◌, ◌^◌, ◌==◌, ℕ, zero, suc, Bool, true, false, List, []}
use Rattle.std.proofs.Common.{◌∷◌}
use Rattle.std.proofs.Common.{length, slice_get, Some, refl, sym, ap, ◌∙◌, arith, nat_lt}
use Rattle.std.specs.Prelude.{cond, if◌then◌else◌, sum_by}
use Rattle.std.specs.List.{find}
use Rattle.std.proofs.lemmas.Bool.Decides.{nat_tests}
use Rattle.std.proofs.lemmas.List.Sums.{sum_by-cons}
use Rattle.cjc_capread.specs.declared.tree.ClassEntry.{ClassEntry}
use Rattle.cjc_capread.specs.declared.tree.ClassRef.{ClassRef}
use Rattle.cjc_capread.specs.declared.tree.ClassRef.TheVariants.{Inside, Outside}
use Rattle.cjc_capread.specs.declared.tree.ImplementedInterface.{ImplementedInterface}
use Rattle.cjc_capread.specs.Parts as parts
use Rattle.cjc_world.specs.ExportFile.declared.tree.ExportClass.{ExportClass}
use Rattle.cjc_world.specs.ExportFile.declared.tree.ExportTree.{ExportTree}
use Rattle.cjc_check_rules.specs.declared.spot.ComponentPlace.{ComponentPlace}
use Rattle.cjc_check_rules.specs.Spots.{along}
use Rattle.cjc_check_rules.specs.Complete.{class_size, map_size}
use Rattle.cjc_card_semantics.specs.Machine.Loaded.{Import, Loaded, OfFile}
use Rattle.cjc_card_semantics.specs.Machine.Classes.{IsClass, class_of, info_size, map_sizes, with_token}
use Rattle.cjc_components.specs.Paired.Naming.{files_from}
use Rattle.cjc_components.specs.Types.{ref_nibbles}
use Rattle.cjc_card_acts.specs.CardTypes.{class_by}
use Rattle.cjc_verified_proof.specs.Entries.{IsRef}
use Rattle.cjc_bytes.proofs.Lists.{none_left, none_right}

-- ---- items one behind the other

pub along_none : {A : Type 0} (size : A → ℕ) (broken : ℕ → A → List ComponentPlace) (at : ℕ) (xs : List A) (k : ℕ)
    (x : A)
    → along size broken at xs ≡ [] → slice_get xs k ≡ Some x → (place : ℕ) × (broken place x ≡ [])
unfolding along
along_none size broken at [] k x e f = cc
along_none size broken at (y ∷ xs) zero x e f =
    let same : y ≡ x = cc in
    (at, ap (broken at) (sym same) ∙ none_left (broken at y) (along size broken (at + size y) xs) e)
along_none size broken at (y ∷ xs) (suc k) x e f = along_none size broken (at + size y) xs k x
    (none_right (broken at y) (along size broken (at + size y) xs) e) f

map_bytes : (maps : List ImplementedInterface) → sum_by map_size maps ≡ map_sizes maps
map_bytes [] = refl
map_bytes (m ∷ maps) = sum_by-cons map_size m maps ∙ ap (λ n. 3 + length m.index + n) (map_bytes maps)

pub class_bytes : (c : ClassEntry) → class_size c ≡ info_size (IsClass c)
class_bytes c = ap (λ n. 10 + 2 * length c.public_methods + 2 * length c.package_methods + n) (map_bytes c.interfaces)

-- ---- imports

pub import_is : (k : ℕ) (trees : List ExportTree) (i : ℕ) (x : Import) → slice_get (files_from k trees) i ≡ Some x
    → x ≡ OfFile (k + i)
import_is k [] i x e = cc
import_is k (t ∷ trees) zero x e = let z : k ≡ k + 0 = omega arith in let same : OfFile k ≡ x = cc
    in sym same ∙ ap OfFile z
import_is k (t ∷ trees) (suc i) x e = import_is (k + 1) trees i x e ∙ (let s : k + 1 + i ≡ k + suc i = omega arith
    in ap OfFile s)

pub found_token : (classes : List ExportClass) (token : ℕ) → find (λ (c : ExportClass). c.token == token) classes
    ≡ with_token classes token
found_token [] token = refl
found_token (c ∷ classes) token = by (c.token == token) (found_token classes token)
  where
    by : (b : Bool) → find (λ (x : ExportClass). x.token == token) classes ≡ with_token classes token
        → cond b (Some c) (find (λ (x : ExportClass). x.token == token) classes) ≡ (if b then Some c
        else with_token classes token)
    by true e = refl
    by false e = e

pub import_there : (k : ℕ) (trees : List ExportTree) (i : ℕ) (t : ExportTree) → slice_get trees i ≡ Some t
    → slice_get (files_from k trees) i ≡ Some (OfFile (k + i))
import_there k [] i t e = cc
import_there k (x ∷ trees) zero t e = let z : k ≡ k + 0 = omega arith in ap (λ n. Some (OfFile n)) z
import_there k (x ∷ trees) (suc i) t e = import_there (k + 1) trees i t e ∙ (let s : k + 1 + i ≡ k + suc i = omega arith
    in ap (λ n. Some (OfFile n)) s)

-- ---- class_refs

-- the number that four nibbles spell
abbrev pub spelt : List ℕ → ℕ
spelt (a ∷ b ∷ c ∷ d ∷ []) = 4096 * a + 256 * b + 16 * c + d
spelt nibbles = 0

spelt_back : (offset : ℕ) → offset < 2 ^ 15 → spelt (ref_nibbles (Inside offset)) ≡ offset
spelt_back offset lt = omega (arith, lt)

-- nibbles of a class_ref name its class
pub ref_read : (l : Loaded) (offset : ℕ) → offset < 2 ^ 15 → class_by l (ref_nibbles (Inside offset))
    ≡ class_of l 0 (Inside offset)
ref_read l offset lt =
    let low : nat_lt offset 0x8000 ≡ true = grind (arith, nat_tests, lt) in
    ap (λ n. class_of l 0 (parts.class_of n)) (spelt_back offset lt)
    ∙ ap (λ b. class_of l 0 (if b then Inside offset else Outside (offset / 256 - 0x80) (offset % 256))) low

outside_back : (import class : ℕ) → import < 2 ^ 7 → class < 2 ^ 8 → spelt (ref_nibbles (Outside import class))
    ≡ 256 * (0x80 + import) + class
outside_back import class lt less = omega (arith, lt, less)

outside_ref : (import class : ℕ) → import < 2 ^ 7 → class < 2 ^ 8 → parts.class_of (256 * (0x80 + import) + class)
    ≡ Outside import class
outside_ref import class lt less =
    let n = 256 * (0x80 + import) + class in
    let high : nat_lt (256 * (0x80 + import) + class) 0x8000 ≡ false = grind (arith, nat_tests, lt) in
    let first : (256 * (0x80 + import) + class) / 256 - 0x80 ≡ import = omega (arith, less) in
    let second : (256 * (0x80 + import) + class) % 256 ≡ class = omega (arith, less) in
    ap (λ b. if b then Inside (256 * (0x80 + import) + class) else Outside ((256 *
    (0x80 + import) + class) / 256 - 0x80)
    ((256 * (0x80 + import) + class) % 256)) high
    ∙ ap (λ x. Outside x ((256 * (0x80 + import) + class) % 256)) first ∙ ap (Outside import) second

-- nibbles of a class_ref name its class
pub all_read : (l : Loaded) (r : ClassRef) → IsRef r → class_by l (ref_nibbles r) ≡ class_of l 0 r
all_read l (Inside offset) lt = ref_read l offset lt
all_read l (Outside import class) lt = ap (λ n. class_of l 0 (parts.class_of n)) (outside_back import class lt.0 lt.1)
    ∙ ap (class_of l 0) (outside_ref import class lt.0 lt.1)
