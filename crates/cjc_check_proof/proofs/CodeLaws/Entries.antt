-- Each index of laid code names an entry of the tag that its opcode needs.
use Rattle.std.proofs.Common.{◌≡◌, ℕ, zero, suc, ◌+◌, ◌*◌, refl, sym, ap, subst, ◌∙◌, arith, Bool, true, false, List}
use Rattle.std.proofs.Common.{[], ◌∷◌, length, map, Option, Some, None, pos}
use Rattle.std.specs.Prelude.{slice_get, flat_map, ◌==◌, ◌||◌}
use Rattle.std.specs.List.{AllByRecursion}
use Rattle.std.proofs.lemmas.Bool.Decides.{nat_tests}
use Rattle.cjc_capread.specs.declared.tree.ClassRef.TheVariants.{Inside}
use Rattle.cjc_capread.specs.declared.tree.PoolEntry.{PoolEntry}
use Rattle.cjc_capread.specs.declared.tree.PoolEntry.TheVariants.{Classref}
use Rattle.cjc_capread.specs.Opcodes.{Form, Fields, Table, Lookup, Operand, Byte, Signed1, Signed2, Signed4, Index1}
use Rattle.cjc_capread.specs.Opcodes.{Index2, info}
use Rattle.cjc_capread.specs.Decode.{AllFit, before_table, more}
use Rattle.cjc_token_proof.specs.CardSemantics.Bytecode.Meanings.{Use, Uses, meaning}
use Rattle.cjc_check_rules.specs.Spots.{in_info, lies_between, unless}
use Rattle.cjc_check_rules.specs.Codes.{Code}
use Rattle.cjc_check_rules.specs.Instructions.{IndexOperand, index_among, index_by, index_in, indices, is_entry_for}
use Rattle.cjc_check_rules.specs.Instructions.{is_needed_by}
use Rattle.cjc_check_rules.specs.Handlers.{is_classref}
use Rattle.cjc_ncode.specs.declared.narrow.NCatch.{NCatch}
use Rattle.cjc_ncode.specs.declared.narrow.NInsn.{NInsn}
use Rattle.cjc_ncode.specs.declared.narrow.NInsn.TheVariants as insns
use Rattle.cjc_ncode.specs.declared.narrow.PoolKey.{PoolKey}
use Rattle.cjc_ncode.specs.declared.narrow.PoolKey.TheVariants as keys
use Rattle.cjc_ncode.specs.PoolOrder.{class_key, insn_keys, method_keys}
use Rattle.cjc_ncode.specs.Lowering.Naming.{Naming, entry_of}
use Rattle.cjc_ncode.specs.Lowering.Laid.{class_index, distance, laid, untabled, wide_jump}
use Rattle.cjc_ncode.specs.Lowering.Placed.{first, insn_size, IsSpellable, offset_of}
use Rattle.cjc_pool.specs.Layout.Forms.{a_class, asks, casts, HasForm, increase, IsTest, jump, local, lookup}
use Rattle.cjc_pool.specs.Layout.Forms.{named, numbers}
use Rattle.cjc_pool.specs.Layout.Forms.{push, range, references, words}
use Rattle.cjc_components.specs.Package.{LaidMethod}
use Rattle.cjc_components.specs.Methods.{method_size, placed_at}
use Rattle.cjc_token_proof.proofs.ComponentsLaws.Tests.{none_in_both, passes}
use Rattle.cjc_check_proof.specs.Code.Codes.{codes_at, laid_code}
use Rattle.cjc_check_proof.specs.Code.Kinds.{AllHaveKinds, HasKind, is_for}
use Rattle.cjc_check_proof.specs.Code.Written.{AllWritable}
use Rattle.cjc_check_proof.proofs.CodeLaws.Handlers.{AllTold, IsTold}
use Rattle.cjc_check_proof.proofs.CodeLaws.Indices.{array_none, bare_none, here, interface_one, named_by, pairs_none}
use Rattle.cjc_check_proof.proofs.CodeLaws.Indices.{plain_none, range_none, test_none, test_one}
use Rattle.cjc_check_proof.proofs.CodeLaws.Instructions.{AllSpelt, first_spelt, next_spelt}
use Rattle.cjc_check_proof.proofs.CodeLaws.Lists.{each_split}
use Rattle.cjc_check_proof.proofs.CodeLaws.Methods.{spelt}
use Rattle.cjc_check_proof.proofs.CodeLaws.Opcodes.{is_test, is_use, names_nothing, needs, tests}
use Rattle.cjc_bytes.proofs.Quantified.{all_both}

module _ (n : Naming) (entries : List PoolEntry) where
  -- the pool has the key's entry at its index
  abbrev pub IsHeld : PoolKey → Type 0
  IsHeld key = slice_get entries (n.index key) ≡ Some (entry_of n key)

  -- an index names an entry that its opcode needs
  abbrev pub IsRight : IndexOperand → Type 0
  IsRight x = is_entry_for (slice_get entries x.index) x.opcode ≡ true

  class_right : (class : List ℕ) (op : ℕ) → IsHeld (keys.Class class) → is_needed_by (Classref (Inside 0)) op ≡ true
      → is_entry_for (slice_get entries (n.index (keys.Class class))) op ≡ true
  class_right class op held e = ap (λ x. is_entry_for x op) held ∙ e

  test_opcode : (op : ℕ) → lies_between 0x94 0x95 op ≡ true → is_needed_by (Classref (Inside 0)) op ≡ true
  test_opcode op e = grind (arith, nat_tests, e)

  module _ (to : ℕ → ℕ) (at : ℕ) where
    none_right : (xs : List IndexOperand) → xs ≡ [] → AllByRecursion IsRight xs
    none_right xs e = subst (AllByRecursion IsRight) (sym e) tt

    one_kind : (op : ℕ) (key : PoolKey) (kind : Operand) → is_entry_for (slice_get entries (n.index key)) op ≡ true
        → AllByRecursion IsRight (index_in (here at (untabled op (pos (n.index key) ∷ []))) (info (Fields (kind ∷ [])))
        (index_among (kind ∷ []) (pos (n.index key) ∷ [])))
    one_kind op key Byte e = tt
    one_kind op key Signed1 e = tt
    one_kind op key Signed2 e = tt
    one_kind op key Signed4 e = tt
    one_kind op key Index1 e = (e, tt)
    one_kind op key Index2 e = (e, tt)

    one_by : (op : ℕ) (key : PoolKey) (f : Form) → AllFit (before_table f) (pos (n.index key) ∷ [])
        → is_entry_for (slice_get entries (n.index key)) op ≡ true
        → AllByRecursion IsRight (index_by (here at (untabled op (pos (n.index key) ∷ []))) (Some f))
    one_by op key (Fields (kind ∷ [])) h e = one_kind op key kind e
    one_by op key (Fields []) h e = elim h [ ]
    one_by op key (Fields (kind ∷ other ∷ kinds)) (more a h) e = elim h [ ]
    one_by op key (Table m) (more a h) e = elim h [ ]
    one_by op key (Lookup m) (more a h) e = elim h [ ]

    named_right : (op : ℕ) (key : PoolKey) (how : Use) → meaning op ≡ Uses how → is_for how key ≡ true → IsHeld key
        → IsSpellable (untabled op (pos (n.index key) ∷ []))
        → AllByRecursion IsRight (indices (here at (untabled op (pos (n.index key) ∷ []))))
    named_right op key how e kind held s =
        subst (AllByRecursion IsRight) (sym (named_by n to at op (n.index key) (ap is_use e) s))
        (one_by op key s.form s.writable.operands (ap (λ x. is_entry_for x op) held ∙ needs n op how key e kind))

    test_right : (op kind : ℕ) (class : Option (List ℕ)) (w : Bool) → is_test (meaning op) ≡ true → IsTest kind class
        → AllByRecursion IsHeld (class_key class)
        → AllByRecursion IsRight (indices (here at (laid n to at w (insns.TypeTest op kind class))))
    test_right op kind class w e (a_class {c = c}) held =
        subst (AllByRecursion IsRight) (sym (test_one n to at op 0 (n.index (keys.Class c)) e refl))
        (class_right c op held.0 (test_opcode op (tests op e).0), tt)
    test_right op kind class w e (references {c = c}) held =
        subst (AllByRecursion IsRight) (sym (test_one n to at op 14 (n.index (keys.Class c)) e refl))
        (class_right c op held.0 (test_opcode op (tests op e).0), tt)
    test_right op kind class w e (numbers element) held = none_right _ (test_none n to at op 0 element e)

    insn_right : (w : Bool) (i : NInsn) → HasForm i → IsSpellable (laid n to at w i) → HasKind i
        → AllByRecursion IsHeld (insn_keys i) → AllByRecursion IsRight (indices (here at (laid n to at w i)))
    insn_right w (insns.Op op) f s kind held = none_right _ (bare_none n to at op)
    insn_right w (insns.Push op value) (push e) s kind held =
        none_right _ (plain_none n to at op (value ∷ []) (ap names_nothing e))
    insn_right w (insns.Local op index) (local e) s kind held =
        none_right _ (plain_none n to at op (pos index ∷ []) (ap names_nothing e))
    insn_right w (insns.Inc op index by) (increase e) s kind held = none_right _ (plain_none n to at op (pos index ∷ by
        ∷ []) (ap names_nothing e))
    insn_right w (insns.Words op high low) (words e) s kind held =
        none_right _ (plain_none n to at op (pos (16 * high + low) ∷ []) (ap names_nothing e))
    insn_right true (insns.Jump op target) (jump e f) s kind held =
        none_right _ (plain_none n to at (wide_jump op) (distance at (to target) ∷ []) (ap names_nothing f))
    insn_right false (insns.Jump op target) (jump e f) s kind held =
        none_right _ (plain_none n to at op (distance at (to target) ∷ []) (ap names_nothing e))
    insn_right w (insns.Switch op other low cases) (range {is_int = is_int} e) s kind held =
        none_right _ (range_none n to at op other low cases is_int e)
    insn_right w (insns.Switch op other low cases) (lookup {is_int = is_int} e) s kind held =
        none_right _ (pairs_none n to at op other low cases is_int e)
    insn_right w (insns.Named op key) (named {how = how} e) s kind held = named_right op key how e (kind how e) held.0 s
    insn_right w (insns.Interface nargs m) f s kind held =
        subst (AllByRecursion IsRight) (sym (interface_one n to at nargs (n.index (keys.Class m.class))
        (n.interface_token m))) (class_right m.class 0x8E held.0 refl, tt)
    insn_right w (insns.NewArray kind) f s k held = none_right _ (array_none n to at kind)
    insn_right w (insns.TypeTest op kind class) (casts e t) s k held = test_right op kind class w (ap is_test e) t held
    insn_right w (insns.TypeTest op kind class) (asks e t) s k held = test_right op kind class w (ap is_test e) t held

  -- ---- code

  code_right : (to : ℕ → ℕ) (at : ℕ) (insns : List NInsn) (wide : List Bool) → length wide ≡ length insns
      → ((j : ℕ) (i : NInsn) → slice_get insns j ≡ Some i → HasForm i) → AllSpelt n to at insns wide
      → ((j : ℕ) (i : NInsn) → slice_get insns j ≡ Some i → HasKind i)
      → AllByRecursion IsHeld (flat_map insn_keys insns)
      → AllByRecursion IsRight (flat_map indices (laid_code n to at insns wide))
  code_right to at [] wide same forms said kinds held = tt
  code_right to at (i ∷ insns) [] same forms said kinds held = tt
  code_right to at (i ∷ insns) (w ∷ wide) same forms said kinds held =
      let h = each_split IsHeld (insn_keys i) (flat_map insn_keys insns) held in
      all_both IsRight (indices (here at (laid n to at w i)))
      (flat_map indices (laid_code n to (at + insn_size n w i) insns wide))
      (insn_right to at w i (forms 0 i refl) (first_spelt n to at i insns w wide said) (kinds 0 i refl) h.0)
      (code_right to (at + insn_size n w i) insns wide (omega (arith, same)) (λ j x e. forms (suc j) x e)
      (next_spelt n to at i insns w wide said) (λ j x e. kinds (suc j) x e) h.1)

  -- the keys of all methods
  abbrev pub all_keys : List LaidMethod → List PoolKey
  all_keys ms = flat_map method_keys (map (λ (m : LaidMethod). m.code) ms)

  pub codes_right : (at : ℕ) (ms : List LaidMethod) → AllWritable n ms → AllHaveKinds ms
      → AllByRecursion IsHeld (all_keys ms)
      → AllByRecursion IsRight (flat_map (λ (c : Code). flat_map indices c.instructions) (codes_at n at ms))
  codes_right at [] can kinds held = tt
  codes_right at (m ∷ ms) can kinds held =
      let c = can 0 m refl in
      let code = m.code in
      let h = each_split IsHeld (method_keys code) (all_keys ms) held in
      let own = each_split IsHeld (flat_map insn_keys code.insns) (flat_map (λ (x : NCatch). class_key x.class)
      code.catches) h.0 in
      let start = first (placed_at at m) in
      all_both IsRight (flat_map indices (laid_code n (offset_of n (placed_at at m)) start m.code.insns m.wide))
      (flat_map (λ (c : Code). flat_map indices c.instructions) (codes_at n (at + method_size m) ms))
      (code_right (offset_of n (placed_at at m)) start m.code.insns m.wide c.count c.forms (spelt n at m c)
      (kinds 0 m refl) own.0)
      (codes_right (at + method_size m) ms (λ k x e. can (suc k) x e) (λ k x e. kinds (suc k) x e) h.1)

  -- nothing is broken where all are right
  pub none_wrong : (xs : List IndexOperand) → AllByRecursion IsRight xs
      → flat_map (λ (i : IndexOperand). unless (is_entry_for (slice_get entries i.index) i.opcode) (in_info 7 i.at)) xs
      ≡ []
  none_wrong [] all = refl
  none_wrong (x ∷ xs) all = none_in_both (passes _ (in_info 7 x.at) all.0) (none_wrong xs all.1)

  -- ---- catch types

  or_second : (a b : Bool) → b ≡ true → (a || b) ≡ true
  or_second true b e = refl
  or_second false b e = e

  catch_told : (x : NCatch) (class : Option (List ℕ)) → AllByRecursion IsHeld (class_key class)
      → (class_index n class == 0 || is_classref (slice_get entries (class_index n class))) ≡ true
  catch_told x None held = refl
  catch_told x (Some c) held = or_second (n.index (keys.Class c) == 0)
      (is_classref (slice_get entries (n.index (keys.Class c)))) (ap is_classref held.0)

  catches_told : (cs : List NCatch) → AllByRecursion IsHeld (flat_map (λ (x : NCatch). class_key x.class) cs)
      → AllByRecursion (IsTold n entries) cs
  catches_told [] held = tt
  catches_told (x ∷ cs) held =
      let h = each_split IsHeld (class_key x.class) (flat_map (λ (y : NCatch). class_key y.class) cs) held in
      (catch_told x x.class h.0, catches_told cs h.1)

  pub all_told : (ms : List LaidMethod) → AllByRecursion IsHeld (all_keys ms) → AllTold n entries ms
  all_told [] held zero m e = absurd cc
  all_told [] held (suc k) m e = absurd cc
  all_told (x ∷ ms) held zero m e =
      let code = x.code in
      let h = each_split IsHeld (method_keys code) (all_keys ms) held in
      let own = each_split IsHeld (flat_map insn_keys code.insns) (flat_map (λ (x : NCatch). class_key x.class)
      code.catches) h.0 in
      let same : x ≡ m = cc in
      subst (λ (y : LaidMethod). AllByRecursion (IsTold n entries) y.code.catches) same (catches_told code.catches
      own.1)
  all_told (x ∷ ms) held (suc k) m e = let code = x.code
      in all_told ms (each_split IsHeld (method_keys code) (all_keys ms) held).1 k m e
