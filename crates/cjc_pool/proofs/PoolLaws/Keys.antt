-- What an instruction names is in the pool of its package.
use Rattle.std.proofs.Common.{◌≡◌, ℕ, refl, ap, ◌∙◌, true, false, ◌||◌, List, [], ◌∷◌}
use Rattle.std.specs.Prelude.{Option, Some, None, IsSome, position, if◌then◌else◌}
use Rattle.std.specs.List.{flat_map, list_any}
use Rattle.std.proofs.lemmas.Map.Keys.{any_passes_from_place}
use Rattle.cjc_components.specs.Bytes.declared.fault.MemberId.{MemberId}
use Rattle.cjc_narrow.specs.Keys.Index.{index_of}
use Rattle.cjc_narrow.specs.Keys.Working.Same.{same_key-Decides}
use Rattle.cjc_narrow.proofs.KeysLaws.Indices.{needed}
use Rattle.cjc_narrow.specs.LowerNCode.declared.narrow.NInsn.{NInsn}
use Rattle.cjc_narrow.specs.LowerNCode.declared.narrow.NInsn.TheVariants as insns
use Rattle.cjc_narrow.specs.LowerNCode.declared.narrow.NMethod.{NMethod}
use Rattle.cjc_narrow.specs.LowerNCode.declared.narrow.PoolKey.{PoolKey}
use Rattle.cjc_narrow.specs.LowerNCode.declared.narrow.PoolKey.TheVariants as keys
use Rattle.cjc_narrow.specs.LowerNCode.PoolOrder.{class_key, insn_keys, method_keys, pool_order, same_key}
use Rattle.cjc_components.specs.LowerEmit.Emitted.{HasIndex, HasNames, HasToken}
use Rattle.cjc_pool.specs.Pool.{IsPool, PoolView, calls, is_called, token_in, token_of}
use Rattle.cjc_components.specs.LowerTokens.Tokens.{Assigned}
use Rattle.cjc_components.specs.World.Files.{Files}
use Rattle.cjc_pool.specs.Named.{CallsHaveTokens, IsAmong}
use Rattle.cjc_narrow.proofs.BytesQuantified.{any_front}
use Rattle.cjc_narrow.proofs.BytesGets.{any_flat}

-- ---- among lists

pub same_itself : (key : PoolKey) → same_key key key ≡ true
same_itself key = (same_key-Decides key key).1 refl

pub some_of : {A : Type 0} (o : Option A) → IsSome o → (x : A) × (o ≡ Some x)
some_of None h = absurd cc
some_of (Some x) h = (x, refl)

-- ---- an instruction

module _ (files : Files) (tokens : Assigned) (methods : List NMethod) (pool : PoolView) (is : IsPool files tokens
    methods pool) (calls_have : CallsHaveTokens files tokens methods) where
  -- a key of an instruction has an index
  has_index : (insn : NInsn) (key : PoolKey) → IsAmong methods insn → list_any (same_key key) (insn_keys insn) ≡ true
      → HasIndex pool.keys (token_in pool) key
  has_index insn key there e =
      let method = there.method in
      let in_code : list_any (same_key key) (flat_map insn_keys method.insns) ≡ true =
      any_flat (same_key key) insn_keys method.insns there.place insn there.is_insn e in
      let in_method : list_any (same_key key) (method_keys method) ≡ true =
      any_front (same_key key) (flat_map insn_keys method.insns) (flat_map (λ c. class_key c.class) method.catches)
      in_code in
      let in_all : list_any (same_key key) (flat_map method_keys methods) ≡ true = any_flat (same_key key) method_keys
      methods there.at method there.is_method in_method in
      let found = some_of (index_of (pool_order methods) key) (needed methods key in_all) in
      (found.0, ap (position (same_key key)) is.keys ∙ found.1)

  has_token : (nargs : ℕ) (id : MemberId) → IsAmong methods (insns.Interface nargs id)
      → HasToken pool.keys (token_in pool) id
  has_token nargs id there =
      let method = there.method in
      let one : list_any (calls id) method.insns ≡ true = any_passes_from_place (calls id) method.insns there.place
      (insns.Interface nargs id) there.is_insn (same_itself (keys.Field id)) in
      let called : is_called methods id ≡ true = any_passes_from_place (λ m. list_any
      (calls id) m.insns) methods there.at method
      there.is_method one in
      let found = some_of (token_of files tokens id) (calls_have id called) in
      (found.0, is.token id ∙ ap (λ b. if b then token_of files tokens id else None) called ∙ found.1)

  alone : (key : PoolKey) → list_any (same_key key) (key ∷ []) ≡ true
  alone key = ap (λ b. b || false) (same_itself key)

  pub names_there : (insn : NInsn) → IsAmong methods insn → HasNames pool.keys (token_in pool) insn
  names_there (insns.Named op key) there = has_index (insns.Named op key) key there (alone key)
  names_there (insns.Interface nargs m) there = (
    has_index (insns.Interface nargs m) (keys.Class m.class) there
        (alone (keys.Class m.class)),
    has_token nargs m there,
  )
  names_there (insns.TypeTest op kind (Some class)) there = has_index (insns.TypeTest op kind (Some class))
      (keys.Class class) there (alone (keys.Class class))
  names_there (insns.TypeTest op kind None) there = tt
  names_there (insns.Op op) there = tt
  names_there (insns.Push op value) there = tt
  names_there (insns.Local op index) there = tt
  names_there (insns.Inc op index by) there = tt
  names_there (insns.Words op m n) there = tt
  names_there (insns.Jump op target) there = tt
  names_there (insns.Switch op other low cases) there = tt
  names_there (insns.NewArray kind) there = tt
