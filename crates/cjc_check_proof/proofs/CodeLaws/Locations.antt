-- ReferenceLocation has the distances of the places of indices.
use Rattle.std.proofs.Common.{◌≡◌, ℕ, suc, ◌+◌, ◌<◌, refl, sym, ap, ◌∙◌, List, [], ◌∷◌, ◌++◌, length}
use Rattle.std.specs.Prelude.{flat_map}
use Rattle.cjc_check_rules.specs.Spots.{beside, in_info}
use Rattle.cjc_check_rules.specs.Codes.{Code}
use Rattle.cjc_check_rules.specs.Instructions.{indices}
use Rattle.cjc_check_rules.specs.Locations.{are_listed, differ, places_of}
use Rattle.cjc_ncode.specs.Lowering.Naming.{Naming}
use Rattle.cjc_ncode.specs.Lowering.Placed as Lower
use Rattle.cjc_pool.specs.Emit.Emitted.{code_places}
use Rattle.cjc_components.specs.Package.{LaidMethod}
use Rattle.cjc_components.specs.Methods.{method_size, placed_at, placed_from}
use Rattle.cjc_token_proof.proofs.ComponentsLaws.Tests.{none_in_both, passes}
use Rattle.cjc_check_proof.specs.Code.Codes.{codes_at, laid_code}
use Rattle.cjc_check_proof.specs.Code.Written.{AllWritable}
use Rattle.cjc_check_proof.proofs.CodeLaws.Indices.{code_indexed, places_append}
use Rattle.cjc_check_proof.proofs.CodeLaws.Methods.{spelt}
use Rattle.cjc_bytes.proofs.Numbers.{like_number}

-- the places of indices in a method at its offset
abbrev pub placed_places : Naming → (bytes : ℕ) → Lower.Placed → List ℕ
placed_places n bytes m = let code = m.method in code_places n bytes (m.offset + length m.header) code.insns m.wide

-- the indices of codes stand where the methods say
pub codes_indexed : (k : ℕ) → 0 < k → (n : Naming) (at : ℕ) (ms : List LaidMethod) → AllWritable n ms
    → places_of k (flat_map (λ (c : Code). flat_map indices c.instructions) (codes_at n at ms))
    ≡ flat_map (placed_places n k) (placed_from at ms)
codes_indexed k some n at [] can = refl
codes_indexed k some n at (m ∷ ms) can =
    let c = can 0 m refl in
    let to = Lower.offset_of n (placed_at at m) in
    let start = Lower.first (placed_at at m) in
    let own = laid_code n to start m.code.insns m.wide in
    let rest = flat_map (λ (c : Code). flat_map indices c.instructions) (codes_at n (at + method_size m) ms) in
    places_append k (flat_map indices own) rest
    ∙ ap (λ xs. xs ++ places_of k rest) (code_indexed k some n to start m.code.insns m.wide c.count c.forms
    (spelt n at m c))
    ∙ ap (λ xs. placed_places n k (placed_at at m) ++ xs) (codes_indexed k some n (at + method_size m) ms
    (λ j x e. can (suc j) x e))

-- ---- what is listed

none_differ : (at : ℕ) (bytes : List ℕ) → differ at bytes bytes ≡ []
unfolding beside
none_differ at [] = refl
none_differ at (b ∷ bytes) = none_in_both (passes _ (in_info 9 at) (like_number b)) (none_differ (at + 1) bytes)

-- what is wanted is listed
pub all_listed : (at : ℕ) (listed wanted : List ℕ) → listed ≡ wanted → are_listed at listed wanted ≡ []
all_listed at listed wanted e =
    ap (are_listed at listed) (sym e) ∙ none_in_both (passes _ (in_info 9 at) (like_number (length listed)))
    (none_differ (at + 2) listed)
