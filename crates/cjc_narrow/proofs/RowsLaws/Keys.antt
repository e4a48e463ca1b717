-- Which keys are named, whatever the forms of field instructions and the pairs that are written as one.
use Rattle.std.proofs.Common.{◌≡◌, ℕ, ◌+◌, refl, sym, ap, ◌∙◌, Bool, true, false, List, [], ◌∷◌, ◌++◌}
use Rattle.std.specs.Prelude.{Option, Some, None, flat_map, nat_le, if◌then◌else◌, ℤ, pos}
use Rattle.std.proofs.lemmas.List.Concat.{flat_map-append}
use Rattle.cjc_types.specs.Bytes.declared.fault.MemberId.{MemberId}
use Rattle.cjc_types.specs.Bytecode.declared.insn.JInsn.{JInsn}
use Rattle.cjc_types.specs.Bytecode.declared.insn.JOp.{JOp}
use Rattle.cjc_types.specs.Bytecode.declared.insn.JOp.TheVariants as jop
use Rattle.cjc_ncode.specs.declared.narrow.NCase.{NCase}
use Rattle.cjc_ncode.specs.declared.narrow.NInsn.TheVariants as insns
use Rattle.cjc_jvm_semantics.specs.CapRead.Card as card
use Rattle.cjc_ncode.specs.declared.narrow.PairRole.{PairRole}
use Rattle.cjc_ncode.specs.declared.narrow.PairRole.TheVariants.{Alone, Opens, Closes}
use Rattle.cjc_ncode.specs.PoolOrder.{insn_keys}
use Rattle.cjc_ncode.specs.Written.{Resolution, low_of, pair_cases, static_by, switched, table_cases, written}
use Rattle.cjc_ncode.specs.Written.{written_as}
use Rattle.cjc_ncode.specs.Written.{written_for}

-- ---- switches

switch_names_nothing : (op other : ℕ) (low : ℤ) (cases : List NCase) → flat_map insn_keys (switched op other low cases)
    ≡ []
switch_names_nothing op other low [] = refl
switch_names_nothing op other low (c ∷ cases) = refl

-- ---- an instruction

module _ (r : Resolution) (near : MemberId → Bool) (role_at : ℕ → PairRole) where
  -- the same names with these forms and roles
  abbrev as_formed : Resolution
  as_formed = record r { is_near = near; role = role_at }

  static_keys : (put : Bool) (f : MemberId) (constant : Option ℤ)
      → flat_map insn_keys (static_by as_formed put f constant)
      ≡ flat_map insn_keys (static_by r put f constant)
  static_keys put f (Some z) = refl
  static_keys put f None = refl

  op_keys : (f g : ℕ → ℕ) (op : JOp) → flat_map insn_keys (written as_formed f op)
      ≡ flat_map insn_keys (written r g op)
  op_keys f g jop.Nop = refl
  op_keys f g jop.Null = refl
  op_keys f g (jop.Number z) = refl
  op_keys f g (jop.Load false l) = refl
  op_keys f g (jop.Load true l) = refl
  op_keys f g (jop.Store false l) = refl
  op_keys f g (jop.Store true l) = refl
  op_keys f g (jop.ArrayLoad op) = refl
  op_keys f g (jop.ArrayStore op) = refl
  op_keys f g (jop.Stack op) = refl
  op_keys f g (jop.Arith op) = refl
  op_keys f g (jop.Inc l by) = refl
  op_keys f g (jop.Narrow op) = refl
  op_keys f g (jop.If op target) = refl
  op_keys f g (jop.Goto target) = refl
  op_keys f g (jop.TableSwitch other low targets) =
      switch_names_nothing 0x73 (f other) (low_of (table_cases f low targets)) (table_cases f low targets)
      ∙ sym (switch_names_nothing 0x73 (g other) (low_of (table_cases g low targets)) (table_cases g low targets))
  op_keys f g (jop.LookupSwitch other cases) =
      switch_names_nothing 0x75 (f other) (pos 0) (pair_cases f cases)
      ∙ sym (switch_names_nothing 0x75 (g other) (pos 0) (pair_cases g cases))
  op_keys f g (jop.Return op) = refl
  op_keys f g (jop.Static put field) = static_keys put field (r.constant field)
  op_keys f g (jop.Field put field) = refl
  op_keys f g (jop.Call op m) = refl
  op_keys f g (jop.New class) = refl
  op_keys f g (jop.NewArray kind) = refl
  op_keys f g (jop.ANewArray class) = refl
  op_keys f g jop.ArrayLength = refl
  op_keys f g jop.Throw = refl
  op_keys f g (jop.CheckCast class) = refl
  op_keys f g (jop.InstanceOf class) = refl

  load_keys : (b : Bool) (short long l : ℕ) → flat_map insn_keys ((if b then insns.Op
      (short + l) else insns.Local long l) ∷ [])
      ≡ []
  load_keys true short long l = refl
  load_keys false short long l = refl

  -- in any role
  keys_as : (f g : ℕ → ℕ) (role : PairRole) (op : JOp) → flat_map insn_keys (written_as role as_formed f op)
      ≡ flat_map insn_keys (written r g op)
  keys_as f g Alone op = op_keys f g op
  keys_as f g Closes (jop.Field put field) = refl
  keys_as f g Closes op = op_keys f g op
  keys_as f g Opens (jop.Load false l) = sym (load_keys (nat_le l 3) card.sload_0 card.sload l)
  keys_as f g Opens (jop.Load true l) = sym (load_keys (nat_le l 3) card.aload_0 card.aload l)
  keys_as f g Opens op = op_keys f g op

  -- of a list
  pub keys_of : (f : ℕ → ℕ) (insns : List JInsn) → flat_map insn_keys (flat_map (written_for as_formed f) insns)
      ≡ flat_map insn_keys (flat_map (λ i. written r (λ o. 0) i.op) insns)
  keys_of f [] = refl
  keys_of f (i ∷ insns) =
      flat_map-append insn_keys (written_for as_formed f i) (flat_map (written_for as_formed f) insns)
      ∙ ap (λ ks. ks ++ flat_map insn_keys (flat_map (written_for as_formed f) insns))
      (keys_as f (λ o. 0) (role_at i.at) i.op)
      ∙ ap (λ ks. flat_map insn_keys (written r (λ o. 0) i.op) ++ ks) (keys_of f insns)
      ∙ sym (flat_map-append insn_keys (written r (λ o. 0) i.op) (flat_map (λ i. written r (λ o. 0) i.op) insns))
