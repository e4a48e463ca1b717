-- Methods by the places of their names.
use Rattle.std.proofs.Common.{◌≡◌, ℕ, suc, ◌+◌, List, [], ◌∷◌, length, map, refl, ap, ◌∙◌, arith, Bool, true, false}
use Rattle.std.proofs.Common.{Option, Some, None}
use Rattle.std.specs.Prelude.{nat_lt, not, option_and_then, option_map, position, slice_get, if◌then◌else◌}
use Rattle.std.specs.List.{prefix_len}
use Rattle.std.proofs.lemmas.Bool.Decides.{nat_tests}
use Rattle.cjc_card_semantics.specs.Bytes.declared.fault.MemberId.{MemberId}
use Rattle.cjc_card_semantics.specs.CapRead.declared.tree.MethodDescriptor.{MethodDescriptor}
use Rattle.cjc_card_semantics.specs.Machine.Loaded.{MethodName}
use Rattle.cjc_card_semantics.specs.Machine.Calls.{is_named, named_among, place_named}

moved : (b : Bool) (k : ℕ) → (if b then Some (suc k) else None) ≡ option_map suc (if b then Some k else None)
moved true k = refl
moved false k = refl

shift : (k n : ℕ) → nat_lt (suc k) (suc n) ≡ nat_lt k n
shift k n = grind (arith, nat_tests)

first : (n : ℕ) → nat_lt 0 (suc n) ≡ true
first n = grind (arith, nat_tests)

by_test : (b : Bool) (k n : ℕ) → (if nat_lt (if not b then 1 + k else 0) (suc n) then Some (if not b then 1 + k else 0)
    else None) ≡ (if b then Some 0 else option_map suc (if nat_lt k n then Some k else None))
by_test true k n = ap (λ (c : Bool). if c then Some 0 else None) (first n)
by_test false k n = let e : 1 + k ≡ suc k = omega arith in
    ap (λ (m : ℕ). if nat_lt m (suc n) then Some m else None) e ∙ ap (λ (c : Bool). if c then Some (suc k)
    else None) (shift k n) ∙ moved (nat_lt k n) k

-- the first place where the name fits
pub place_first : {A : Type 0} (f : A → MethodName) (ns : List A) (id : MemberId) → position (λ n. is_named (f n) id) ns
    ≡ place_named (map f ns) id
place_first f [] id = refl
place_first f (n ∷ ns) id =
    by_test (is_named (f n) id) (prefix_len (λ m. not (is_named (f m) id)) ns) (length ns)
    ∙ ap (λ (o : Option ℕ). if is_named (f n) id then Some 0 else option_map suc o) (place_first f ns id)

at_none : (o : Option ℕ) → option_and_then (slice_get {X = MethodDescriptor} []) o ≡ None
at_none None = refl
at_none (Some k) = refl

further : (m : MethodDescriptor) (ms : List MethodDescriptor) (b : Bool) (o : Option ℕ)
    → option_and_then (slice_get (m ∷ ms)) (if b then Some 0 else option_map suc o) ≡ (if b then Some m
    else option_and_then (slice_get ms) o)
further m ms true o = refl
further m ms false None = refl
further m ms false (Some k) = refl

-- the descriptor stands in the place of the name
pub named_by_place : (ns : List MethodName) (ms : List MethodDescriptor) (id : MemberId)
    → option_and_then (slice_get ms) (place_named ns id) ≡ named_among ns ms id
named_by_place [] ms id = refl
named_by_place (n ∷ ns) [] id = at_none (place_named (n ∷ ns) id)
named_by_place (n ∷ ns) (m ∷ ms) id =
    further m ms (is_named n id) (place_named ns id)
    ∙ ap (λ (o : Option MethodDescriptor). if is_named n id then Some m else o) (named_by_place ns ms id)

pub named_found : (ns : List MethodName) (ms : List MethodDescriptor) (id : MemberId) (place : ℕ)
    → Some place ≡ place_named ns id → slice_get ms place ≡ named_among ns ms id
named_found ns ms id place is = ap (option_and_then (slice_get ms)) is ∙ named_by_place ns ms id

pub named_nowhere : (ns : List MethodName) (ms : List MethodDescriptor) (id : MemberId) → None ≡ place_named ns id
    → None ≡ named_among ns ms id
named_nowhere ns ms id is = ap (option_and_then (slice_get ms)) is ∙ named_by_place ns ms id
