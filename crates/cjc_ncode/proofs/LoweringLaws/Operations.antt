-- What a laid instruction does is what the narrow one does, by token and offset.
use Rattle.std.proofs.Common.{◌≡◌, ℕ, refl, sym, ap, ◌∙◌, Bool, true, false, List, [], ◌∷◌, ℤ, pos}
use Rattle.std.specs.Prelude.{Option, Some, None, option_and_then, option_map, slice_get, map, ◌+ℤ◌}
use Rattle.cjc_code.specs.Bytes.declared.fault.MemberId.{MemberId}
use Rattle.cjc_card_semantics.specs.CapRead.Decode.{Instruction}
use Rattle.cjc_card_semantics.specs.Script.Sorts.{Element, Booleans, Bytes, Shorts, Ints}
use Rattle.cjc_card_semantics.specs.Bytecode.Calculations.{Calculation, Test}
use Rattle.cjc_card_semantics.specs.Bytecode.Effects.{Operation, Branch, Pick, Get, Put, GetStatic, PutStatic, Call}
use Rattle.cjc_card_semantics.specs.Bytecode.Effects.{New, NewNumbers, NewReferences, Cast, Ask}
use Rattle.cjc_card_semantics.specs.Bytecode.Meanings.{Meaning, Plain, Branches, Ranged, Paired, Touches, Uses}
use Rattle.cjc_card_semantics.specs.Bytecode.Meanings.{CallsInterface, MakesNumbers, Casts, Asks, Nothing, Use, meaning}
use Rattle.cjc_card_semantics.specs.Bytecode.Renaming.{arm_as}
use Rattle.cjc_card_semantics.specs.Machine.Classes.{Class, Field}
use Rattle.cjc_card_semantics.specs.Machine.Statics.{StaticCell}
use Rattle.cjc_card_semantics.specs.Machine.Operations.{Callee, OnObject, OnSuper, OnInterface, operation, using}
use Rattle.cjc_card_semantics.specs.Machine.Operations.{or_undone, ranged, paired, class_at, token_of, type_by}
use Rattle.cjc_card_semantics.specs.Machine.Operations.{element_type}
use Rattle.cjc_ncode.specs.declared.narrow.NCase.{NCase}
use Rattle.cjc_ncode.specs.declared.narrow.NInsn.{NInsn}
use Rattle.cjc_ncode.specs.declared.narrow.NInsn.TheVariants as insns
use Rattle.cjc_ncode.specs.declared.narrow.PoolKey.{PoolKey}
use Rattle.cjc_ncode.specs.declared.narrow.PoolKey.TheVariants as keys
use Rattle.cjc_ncode.specs.ByLabel
use Rattle.cjc_ncode.specs.Lowering.Naming.{Naming, on_card, entry_of, Holds, IsClass, Fit, gets, puts, gets_static}
use Rattle.cjc_ncode.specs.Lowering.Naming.{puts_static, calls_virtual, calls_super, calls_special, calls_static, makes}
use Rattle.cjc_ncode.specs.Lowering.Naming.{makes_references}
use Rattle.cjc_ncode.specs.Lowering.Laid.{distance, class_index, matches, offsets, switch_as, laid, wide_jump, Tests}
use Rattle.cjc_ncode.specs.Lowering.Laid.{a_class, numbers, references, IsFormed, bare, push, local, increase, words}
use Rattle.cjc_ncode.specs.Lowering.Laid.{jump, range, lookup, named, by_interface, new_array, casts, asks}
use Rattle.cjc_ncode.proofs.LoweringLaws.Distances.{moved_distance}

module _ (n : Naming) (to : ℕ → ℕ) (at : ℕ) where
  abbrev Done : Type 0
  Done = Operation Class Field StaticCell Callee

  abbrev doing : Meaning → List ℤ → List ℤ → Done
  doing m operands table = operation n.loaded n.part n.pool at m operands table

  abbrev carded : ByLabel.Resolved → Done
  carded = on_card n to

  -- ---- switches

  ranged_same : (low : ℤ) (cases : List NCase) → ranged at low (offsets n to at cases)
      ≡ map (arm_as to) (ByLabel.ranged low cases)
  ranged_same low [] = refl
  ranged_same low (c ∷ cases) =
      ap (λ x. record { value = low; to = x } ∷ ranged at (low +ℤ pos 1) (offsets n to at cases))
      (moved_distance at (to c.target))
      ∙ ap (λ xs. record { value = low; to = to c.target } ∷ xs) (ranged_same (low +ℤ pos 1) cases)

  paired_same : (cases : List NCase) → paired at (matches n to at cases) ≡ map (arm_as to) (map ByLabel.arm_of cases)
  paired_same [] = refl
  paired_same (c ∷ cases) =
      ap (λ x. record { value = c.value; to = x } ∷ paired at (matches n to at cases)) (moved_distance at (to c.target))
      ∙ ap (λ xs. record { value = c.value; to = to c.target } ∷ xs) (paired_same cases)

  -- ---- entries of the pool

  using_same : (how : Use) (key : PoolKey) → Fit n how key → or_undone (using n.loaded n.part how (entry_of n key))
      ≡ carded (ByLabel.using how key)
  using_same _ _ (gets {this = this} {letter = letter} {f = f} is) =
      ap (λ o. or_undone (option_map (λ class. Get this letter (record { class = class; token = n.field_token f })) o))
      is
  using_same _ _ (puts {this = this} {letter = letter} {f = f} is) =
      ap (λ o. or_undone (option_map (λ class. Put this letter (record { class = class; token = n.field_token f })) o))
      is
  using_same _ _ (gets_static {letter = letter} is) = ap (λ o. or_undone (option_map (GetStatic letter) o)) is
  using_same _ _ (puts_static {letter = letter} is) = ap (λ o. or_undone (option_map (PutStatic letter) o)) is
  using_same _ _ (calls_virtual {m = m} is token) =
      ap (λ o. or_undone (option_map Call (option_and_then (λ class. option_map (OnObject class)
      (token_of class (n.virtual_token m))) o))) is
      ∙ ap (λ o. or_undone (option_map Call (option_map (OnObject (n.class m.class)) o))) token
  using_same _ _ (calls_super {m = m} is token) =
      ap (λ o. or_undone (option_map Call (option_and_then (λ class. option_map (OnSuper class)
      (token_of class (n.virtual_token m))) o))) is
      ∙ ap (λ o. or_undone (option_map Call (option_map (OnSuper (n.class m.class)) o))) token
  using_same _ _ (calls_special is) = ap (λ o. or_undone (option_map Call o)) is
  using_same _ _ (calls_static is) = ap (λ o. or_undone (option_map Call o)) is
  using_same _ _ (makes is) = ap (λ o. or_undone (option_map New o)) is
  using_same _ _ (makes_references is) = ap (λ o. or_undone (option_map NewReferences o)) is

  class_there : (c : List ℕ) → Holds n (keys.Class c) → IsClass n c
      → class_at n.loaded n.part (slice_get n.pool (n.index (keys.Class c))) ≡ Some (n.class c)
  class_there c holds is = ap (class_at n.loaded n.part) holds.there ∙ is

  -- ---- types

  array_same : (o : Option Element) → or_undone (option_map NewNumbers o) ≡ carded (ByLabel.making o)
  array_same None = refl
  array_same (Some element) = refl

  cast_same : (kind : ℕ) (class : Option (List ℕ)) → Tests n kind class
      → doing Casts (pos kind ∷ pos (class_index n class) ∷ []) []
      ≡ carded (ByLabel.testing Casts (ByLabel.type_by kind class))
  cast_same _ _ (a_class {c = c} holds is) = ap (λ o. or_undone (option_map Cast (type_by 0 o)))
      (class_there c holds is)
  cast_same _ _ (numbers Booleans) = refl
  cast_same _ _ (numbers Bytes) = refl
  cast_same _ _ (numbers Shorts) = refl
  cast_same _ _ (numbers Ints) = refl
  cast_same _ _ (references {c = c} holds is) = ap (λ o. or_undone (option_map Cast (type_by 14 o)))
      (class_there c holds is)

  ask_same : (kind : ℕ) (class : Option (List ℕ)) → Tests n kind class
      → doing Asks (pos kind ∷ pos (class_index n class) ∷ []) []
      ≡ carded (ByLabel.testing Asks (ByLabel.type_by kind class))
  ask_same _ _ (a_class {c = c} holds is) = ap (λ o. or_undone (option_map Ask (type_by 0 o))) (class_there c holds is)
  ask_same _ _ (numbers Booleans) = refl
  ask_same _ _ (numbers Bytes) = refl
  ask_same _ _ (numbers Shorts) = refl
  ask_same _ _ (numbers Ints) = refl
  ask_same _ _ (references {c = c} holds is) = ap (λ o. or_undone (option_map Ask (type_by 14 o)))
      (class_there c holds is)

  -- ---- each form

  bare_same : (m : Meaning) → doing m [] [] ≡ carded (ByLabel.plain m [])
  bare_same (Plain calculation) = refl
  bare_same (Branches test) = refl
  bare_same (Ranged is_int) = refl
  bare_same (Paired is_int) = refl
  bare_same (Touches access) = refl
  bare_same (Uses how) = refl
  bare_same CallsInterface = refl
  bare_same MakesNumbers = refl
  bare_same Casts = refl
  bare_same Asks = refl
  bare_same Nothing = refl

  plain_same : (op : ℕ) (operands : List ℤ) {calculation : List ℤ → Calculation} → meaning op ≡ Plain calculation
      → doing (meaning op) operands [] ≡ carded (ByLabel.plain (meaning op) operands)
  plain_same op operands e = ap (λ m. doing m operands []) e ∙ sym (ap (λ m. carded (ByLabel.plain m operands)) e)

  interface_same : (nargs : ℕ) (m : MemberId) → Holds n (keys.Class m.class) → IsClass n m.class
      → doing (meaning 0x8E) (pos nargs ∷ pos (n.index (keys.Class m.class)) ∷ pos (n.interface_token m) ∷ []) []
      ≡ Call (OnInterface nargs (n.class m.class) (n.interface_token m))
  unfolding meaning
  interface_same nargs m holds is =
      ap (λ o. or_undone (option_map (λ c. Call (OnInterface nargs c (n.interface_token m))) o))
      (class_there m.class holds is)

  new_array_same : (kind : ℕ) → doing (meaning 0x90) (pos kind ∷ []) []
      ≡ carded (ByLabel.making (ByLabel.element_type kind))
  unfolding meaning
  new_array_same kind = array_same (element_type kind)

  jump_same : (op target : ℕ) (k : ℕ) {test : Test} → meaning k ≡ Branches test → meaning op ≡ Branches test
      → doing (meaning k) (distance at (to target) ∷ []) [] ≡ carded (ByLabel.jumping (meaning op) target)
  jump_same op target k {test = test} f e =
      ap (λ m. doing m (distance at (to target) ∷ []) []) f
      ∙ ap (λ x. Branch test x) (moved_distance at (to target))
      ∙ sym (ap (λ m. carded (ByLabel.jumping m target)) e)

  range_same : (op other : ℕ) (low : ℤ) (cases : List NCase) (is_int : Bool) → meaning op ≡ Ranged is_int
      → let i = switch_as n to (meaning op) at op other low cases in doing (meaning i.opcode) i.operands i.table
      ≡ carded (ByLabel.switching (meaning op) other low cases)
  range_same op other low cases is_int e =
      let i : Meaning → Instruction = λ m. switch_as n to m at op other low cases in
      let same : (i (meaning op)).opcode ≡ op = ap (λ m. (i m).opcode) e in
      ap (λ k. doing (meaning k) (i (meaning op)).operands (i (meaning op)).table) same
      ∙ ap (λ m. doing m (i m).operands (i m).table) e
      ∙ ap (λ x. Pick is_int x (ranged at low (offsets n to at cases))) (moved_distance at (to other))
      ∙ ap (Pick is_int (to other)) (ranged_same low cases)
      ∙ sym (ap (λ m. carded (ByLabel.switching m other low cases)) e)

  lookup_same : (op other : ℕ) (low : ℤ) (cases : List NCase) (is_int : Bool) → meaning op ≡ Paired is_int
      → let i = switch_as n to (meaning op) at op other low cases in doing (meaning i.opcode) i.operands i.table
      ≡ carded (ByLabel.switching (meaning op) other low cases)
  lookup_same op other low cases is_int e =
      let i : Meaning → Instruction = λ m. switch_as n to m at op other low cases in
      let same : (i (meaning op)).opcode ≡ op = ap (λ m. (i m).opcode) e in
      ap (λ k. doing (meaning k) (i (meaning op)).operands (i (meaning op)).table) same
      ∙ ap (λ m. doing m (i m).operands (i m).table) e
      ∙ ap (λ x. Pick is_int x (paired at (matches n to at cases))) (moved_distance at (to other))
      ∙ ap (Pick is_int (to other)) (paired_same cases)
      ∙ sym (ap (λ m. carded (ByLabel.switching m other low cases)) e)

  -- ---- at the place of a laid instruction the same is done

  pub operation_laid : (wide : Bool) (insn : NInsn) → IsFormed n insn → let i = laid n to at wide insn
      in doing (meaning i.opcode) i.operands i.table ≡ carded (ByLabel.operation insn)
  operation_laid wide (insns.Op op) bare = bare_same (meaning op)
  operation_laid wide (insns.Push op value) (push e) = plain_same op (value ∷ []) e
  operation_laid wide (insns.Local op index) (local e) = plain_same op (pos index ∷ []) e
  operation_laid wide (insns.Inc op index by) (increase e) = plain_same op (pos index ∷ by ∷ []) e
  operation_laid wide (insns.Words op high low) (words e) = plain_same op _ e
  operation_laid false (insns.Jump op target) (jump e f) = jump_same op target op e e
  operation_laid true (insns.Jump op target) (jump e f) = jump_same op target (wide_jump op) f e
  operation_laid wide (insns.Switch op other low cases) (range {is_int = is_int} e) =
      range_same op other low cases is_int e
  operation_laid wide (insns.Switch op other low cases) (lookup {is_int = is_int} e) =
      lookup_same op other low cases is_int e
  operation_laid wide (insns.Named op key) (named {how = how} e holds fit) =
      ap (λ m. doing m (pos (n.index key) ∷ []) []) e
      ∙ ap (λ o. or_undone (option_and_then (using n.loaded n.part how) o)) holds.there
      ∙ using_same how key fit
      ∙ sym (ap (λ m. carded (ByLabel.naming m key)) e)
  operation_laid wide (insns.Interface nargs m) (by_interface holds is) = interface_same nargs m holds is
  operation_laid wide (insns.NewArray kind) new_array = new_array_same kind
  operation_laid wide (insns.TypeTest op kind class) (casts e tests) =
      ap (λ m. doing m (pos kind ∷ pos (class_index n class) ∷ []) []) e
      ∙ cast_same kind class tests
      ∙ sym (ap (λ m. carded (ByLabel.testing m (ByLabel.type_by kind class))) e)
  operation_laid wide (insns.TypeTest op kind class) (asks e tests) =
      ap (λ m. doing m (pos kind ∷ pos (class_index n class) ∷ []) []) e
      ∙ ask_same kind class tests
      ∙ sym (ap (λ m. carded (ByLabel.testing m (ByLabel.type_by kind class))) e)
