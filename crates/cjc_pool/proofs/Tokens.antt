-- The token that is found for a method is that of the methods that code calls.
use Rattle.std.proofs.Common.{◌≡◌, ◌≤◌, arith, ℕ, suc, refl, sym, ap, ◌∙◌, Bool, true, false, ◌||◌, List, [], ◌∷◌, ◌++◌}
use Rattle.std.proofs.Common.{Option, Some, None}
use Rattle.std.specs.Prelude.{if◌then◌else◌, nat_lt, OnOk, Result, Ok, Err, map, option_map, option_and_then, position}
use Rattle.std.specs.Prelude.{slice_get}
use Rattle.std.specs.List.{flat_map, list_any}
use Rattle.std.proofs.lemmas.List.Concat.{flat_map-cons}
use Rattle.std.proofs.lemmas.List.Folds.{list_any-append}
use Rattle.indexmap.specs.IndexSet.{insert_all}
use Rattle.cjc_components.specs.Bytes.declared.fault.MemberId.{MemberId}
use Rattle.cjc_components.specs.Bytes.declared.fault.Fault.{Fault}
use Rattle.cjc_components.specs.Bytes.Breaks.{RulePlace, at}
use Rattle.cjc_components.specs.World.Files.{Files}
use Rattle.cjc_components.specs.LowerTokens.Tokens.{Assigned, joined}
use Rattle.cjc_components.proofs.TokensFacts.{position-cons}
use Rattle.cjc_narrow.specs.LowerNCode.declared.narrow.NInsn.{NInsn}
use Rattle.cjc_narrow.specs.LowerNCode.declared.narrow.NInsn.TheVariants as insns
use Rattle.cjc_narrow.specs.LowerNCode.declared.narrow.NMethod.{NMethod}
use Rattle.cjc_narrow.specs.LowerNCode.declared.narrow.PoolKey.{PoolKey}
use Rattle.cjc_narrow.specs.LowerNCode.declared.narrow.PoolKey.TheVariants as keys
use Rattle.cjc_narrow.specs.LowerNCode.PoolOrder.{same_key, same_member}
use Rattle.cjc_narrow.specs.Keys.Working.Same.{same_key-Decides}
use Rattle.cjc_narrow.proofs.KeysLaws.Indices.{any_once}
use Rattle.cjc_narrow.proofs.KeysLaws.Walks.{all_once}
use Rattle.cjc_pool.specs.Pool.{calls, interface_token, is_called, most_entries, token_in, token_of}
use Rattle.cjc_pool.specs.Working.Calls.{insn_calls, key_token, method_calls}
use Rattle.cjc_components.proofs.ListWholes.{or_none}
use Rattle.cjc_narrow.proofs.BytesBrokenRules.{not_broken}

-- ---- which methods are called

of_insn : (id : MemberId) (insn : NInsn) → list_any (same_key (keys.Virtual id)) (insn_calls insn) ≡ calls id insn
of_insn id (insns.Interface nargs method) = or_none (same_member id method)
of_insn id _ = refl

of_insns : (id : MemberId) (list : List NInsn) → list_any (same_key (keys.Virtual id)) (flat_map insn_calls list)
    ≡ list_any (calls id) list
of_insns id [] = refl
of_insns id (i ∷ list) =
    ap (list_any (same_key (keys.Virtual id))) (flat_map-cons insn_calls i list)
    ∙ list_any-append (same_key (keys.Virtual id)) (insn_calls i) (flat_map insn_calls list)
    ∙ ap (λ b. b || list_any (same_key (keys.Virtual id)) (flat_map insn_calls list)) (of_insn id i)
    ∙ ap (λ b. calls id i || b) (of_insns id list)

of_methods : (id : MemberId) (methods : List NMethod)
    → list_any (same_key (keys.Virtual id)) (flat_map method_calls methods) ≡ is_called methods id
of_methods id [] = refl
of_methods id (m ∷ methods) =
    ap (list_any (same_key (keys.Virtual id))) (flat_map-cons method_calls m methods)
    ∙ list_any-append (same_key (keys.Virtual id)) (method_calls m) (flat_map method_calls methods)
    ∙ ap (λ b. b || list_any (same_key (keys.Virtual id)) (flat_map method_calls methods)) (of_insns id m.insns)
    ∙ ap (λ b. list_any (calls id) m.insns || b) (of_methods id methods)

each_once : (key : PoolKey) (ks : List PoolKey) → list_any (same_key key) (insert_all same_key [] ks)
    ≡ list_any (same_key key) ks
each_once key ks = ap (list_any (same_key key)) (all_once [] [] ks (record { same = λ q. refl })) ∙ any_once key [] ks

-- ---- what stands at a key's number

module _ {A : Type 0} (f : PoolKey → Option A) (key : PoolKey) where
  behind : (k : PoolKey) (ks : List PoolKey) (place : Option ℕ)
      → option_and_then (λ i. joined (slice_get (map f (k ∷ ks)) i)) (option_map suc place)
      ≡ option_and_then (λ i. joined (slice_get (map f ks) i)) place
  behind k ks None = refl
  behind k ks (Some i) = refl

  at_number : (ks : List PoolKey) → option_and_then (λ i. joined (slice_get (map f ks) i)) (position (same_key key) ks)
      ≡ (if list_any (same_key key) ks then f key else None)
  at_number [] = refl
  at_number (k ∷ ks) =
      ap (option_and_then (λ i. joined (slice_get (map f (k ∷ ks)) i))) (position-cons (same_key key) k ks)
      ∙ by (same_key key k) refl (at_number ks)
    where
      by : (b : Bool) → same_key key k ≡ b → option_and_then (λ i. joined (slice_get (map f ks) i))
          (position (same_key key) ks) ≡ (if list_any (same_key key) ks then f key else None)
          → option_and_then (λ i. joined (slice_get (map f (k ∷ ks)) i)) (if b then Some 0
          else option_map suc (position (same_key key) ks)) ≡ (if b || list_any (same_key key) ks then f key
          else None)
      by true e rest = ap f (sym ((same_key-Decides key k).0 e))
      by false e rest = behind k ks (position (same_key key) ks) ∙ rest

-- The token at the number of a method is that of the method, where it is called.
pub token_found : (files : Files) (tokens : Assigned) (methods : List NMethod) (all ks : List PoolKey)
    (row : List (Option ℕ)) → ks ≡ insert_all same_key [] (flat_map method_calls methods)
    → row ≡ map (key_token files tokens) ks
    → (id : MemberId) → token_in (record { keys = all; calls = ks; tokens = row }) id ≡ interface_token files tokens
    methods id
token_found files tokens methods all ks row is_ks is_row id =
    ap (λ r. token_in (record { keys = all; calls = ks; tokens = r }) id) is_row
    ∙ at_number (key_token files tokens) (keys.Virtual id) ks
    ∙ ap (λ b. if b then token_of files tokens id else None)
    (ap (list_any (same_key (keys.Virtual id))) is_ks ∙ each_once (keys.Virtual id) (flat_map method_calls methods)
    ∙ of_methods id methods)

-- few entries, where more would break the rule
pub few_where : (count : ℕ) (result : Result (Unit {0}) Fault) (s : RulePlace)
    → OnOk result (at (nat_lt most_entries count) s 414 ≡ []) → OnOk result (count ≤ most_entries)
few_where count (Ok u) s h = let e = not_broken (nat_lt most_entries count) s 414 h in grind arith
few_where count (Err fault) s h = tt
