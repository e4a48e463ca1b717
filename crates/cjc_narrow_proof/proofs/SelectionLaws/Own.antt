-- While a pair is open the narrow stack leaves out a reference that the first local has: it is left out, one cell is
-- pushed over it, and a field instruction takes it from there.
use Rattle.std.proofs.Common.{◌≡◌, ℕ, ◌+◌, refl, sym, ap, subst, ◌∙◌, Bool, true, false, List, [], ◌∷◌, ◌++◌, length, ℤ}
use Rattle.std.specs.Prelude.{Option, Some, None, nat_le, nat_lt, slice_get, if◌then◌else◌}
use Rattle.cjc_bytes.specs.declared.fault.MemberId.{MemberId}
use Rattle.cjc_range.specs.Words.{low_word}
use Rattle.cjc_code.specs.declared.insn.JOp.{JOp}
use Rattle.cjc_code.specs.declared.insn.JOp.TheVariants as jop
use Rattle.cjc_script.specs.declared.value.Value.{Value}
use Rattle.cjc_script.specs.declared.value.Value.TheVariants.{Num, Null, Obj}
use Rattle.cjc_script.specs.Sorts.{Shape, Sort, Boolean, Byte, Short, Int, Reference, NoValue, field_sort}
use Rattle.cjc_card_semantics.specs.Bytecode.Calculations.{Calculation, Result, is_reference, load_reference}
use Rattle.cjc_card_semantics.specs.Bytecode.Calculations.{load_word, pushed}
use Rattle.cjc_card_semantics.specs.Bytecode.Calculations
use Rattle.cjc_card_semantics.specs.Bytecode.Meanings.{meaning, Gets, Puts, Uses}
use Rattle.cjc_card_semantics.specs.Bytecode.Effects.{Do, Object, operand, slot_of, slots_with, words_of}
use Rattle.cjc_card_semantics.specs.Bytecode.Effects as narrow
use Rattle.cjc_ncode.specs.declared.narrow.NInsn.{NInsn}
use Rattle.cjc_ncode.specs.declared.narrow.NInsn.TheVariants as insns
use Rattle.cjc_ncode.specs.declared.narrow.PoolKey.TheVariants as pool
use Rattle.cjc_ncode.specs.PoolOrder.{same_member}
use Rattle.cjc_ncode.specs.Written.{Resolution, field_access, pushed_word, static_by, this_access, written}
use Rattle.cjc_ncode.specs.ByLabel.{Callee, Named, classes, naming, operation}
use Rattle.cjc_jvm_semantics.specs.Linked.{Method, Linked}
use Rattle.cjc_jvm_semantics.specs.Effects.{Store, effect}
use Rattle.cjc_jvm_semantics.specs.Effects as by_name
use Rattle.cjc_narrow_proof.specs.Selection.Relation.{Kind, Refers, Away, Heap, NMemory, Agrees, null, object, Stacks}
use Rattle.cjc_narrow_proof.specs.Selection.Relation.{cell}
use Rattle.cjc_narrow_proof.specs.Selection.Relation.{left_out, Locals, a_range, a_reference, an_unused, Owns}
use Rattle.cjc_narrow_proof.specs.Selection.Relation.{all_there, on_top, below_top, Stores}
use Rattle.cjc_narrow_proof.specs.Selection.Rows.{HasRoom, NEffect, Same, RowAgrees, is_word_sort}
use Rattle.cjc_narrow_proof.specs.Selection.Cells.{IsConstant}
use Rattle.cjc_narrow_proof.proofs.SelectionLaws.Fields.{get_means, letter_of}
use Rattle.cjc_narrow_proof.proofs.SelectionLaws.Puts.{put_means}
use Rattle.cjc_narrow_proof.proofs.SelectionLaws.Pushes.{number_load_is, one_insn, reference_load_is, word_is}

-- ---- the object of the first local

this_gets : (sort : Sort) → meaning (this_access false sort) ≡ Uses (Gets true (letter_of sort))
unfolding meaning
this_gets Boolean = refl
this_gets Byte = refl
this_gets Short = refl
this_gets Int = refl
this_gets (Reference kind) = refl
this_gets NoValue = refl

this_puts : (sort : Sort) → meaning (this_access true sort) ≡ Uses (Puts true (letter_of sort))
unfolding meaning
this_puts Boolean = refl
this_puts Byte = refl
this_puts Short = refl
this_puts Int = refl
this_puts (Reference kind) = refl
this_puts NoValue = refl

module _ (l : Named) (f : MemberId) (near : Bool) (room next : ℕ) (words : List (Option Value)) (memory : NMemory)
    (ws : List Value) (v : Value) (held : slice_get words 0 ≡ Some (Some v)) where
  abbrev does : ℕ → List Value → NEffect
  does op stack = narrow.effect (classes l) (operation (insns.Named op (pool.Field f))) room next words memory stack

  from_local : (go : Value → List Value → NEffect) (below : List Value) → narrow.receiver true words below go
      ≡ narrow.receiver false words (v ∷ below) go
  from_local go below = ap (λ o. narrow.with_some narrow.Stick o (λ o. narrow.with_some narrow.Stick o (λ v. go v
      below))) held

  -- getfield of the object of the first local is getfield of that object
  pub gets_own : (sort : Sort) → does (this_access false sort) ws ≡ does (field_access false near sort) (v ∷ ws)
  gets_own sort =
      ap (λ x. narrow.effect (classes l) (naming x (pool.Field f)) room next words memory ws) (this_gets sort)
      ∙ from_local (λ r rest. narrow.thing_of memory.heap r (λ k. narrow.object_in (λ class slots. narrow.with_some
      narrow.Stick (slot_of same_member slots f) (λ x. words_of (letter_of sort) x narrow.Stick
      (λ new. narrow.onward new room next words memory rest))))) ws
      ∙ ap (λ x. narrow.effect (classes l) (naming x (pool.Field f)) room next words memory (v ∷ ws))
      (sym (get_means near sort))

  abbrev put : (this : Bool) → Value → List Value → NEffect
  put this new below = narrow.receiver this words below (λ r rest. narrow.thing_of
      memory.heap r (λ k. narrow.object_in (λ class slots. narrow.put_slot (classes l) (slot_of same_member slots f)
      new (narrow.Go next rest words (narrow.with_thing memory k (Object class (slots_with same_member slots f
      new)))))))

  put_same : (new : Value) → put true new ws ≡ put false new (v ∷ ws)
  put_same new = from_local (λ r rest. narrow.thing_of memory.heap r (λ k. narrow.object_in (λ class slots.
      narrow.put_slot (classes l) (slot_of same_member slots f) new (narrow.Go next rest words
      (narrow.with_thing memory k (Object class (slots_with same_member slots f new))))))) ws

  takes : (sort : Sort) → is_word_sort sort ≡ true → (y : Value)
      → operand (letter_of sort) narrow.Stick (y ∷ ws) (put true)
      ≡ operand (letter_of sort) narrow.Stick (y ∷ v ∷ ws) (put false)
  takes Boolean one (Num x) = put_same _
  takes Boolean one Null = refl
  takes Boolean one (Obj k) = refl
  takes Byte one (Num x) = put_same _
  takes Byte one Null = refl
  takes Byte one (Obj k) = refl
  takes Short one (Num x) = put_same _
  takes Short one Null = refl
  takes Short one (Obj k) = refl
  takes Int one y = absurd cc
  takes (Reference kind) one (Num x) = refl
  takes (Reference kind) one Null = put_same _
  takes (Reference kind) one (Obj k) = put_same _
  takes NoValue one y = absurd cc

  -- so is putfield
  pub puts_own : (sort : Sort) → is_word_sort sort ≡ true → (y : Value) → does (this_access true sort) (y ∷ ws)
      ≡ does (field_access true near sort) (y ∷ v ∷ ws)
  puts_own sort one y =
      ap (λ x. narrow.effect (classes l) (naming x (pool.Field f)) room next words memory (y ∷ ws)) (this_puts sort)
      ∙ takes sort one y
      ∙ ap (λ x. narrow.effect (classes l) (naming x (pool.Field f)) room next words memory (y ∷ v ∷ ws))
      (sym (put_means near sort))

-- ---- the field instruction that closes a pair

-- a reference is the same on both sides
pub same_reference : {heap : Heap} {within : Shape (List ℕ) → Bool} {v w : Value} → Agrees heap (Refers within) v w
    → v ≡ w
same_reference null = refl
same_reference (object thing is e) = refl

with_itself : {heap : Heap} {within : Shape (List ℕ) → Bool} {v w : Value} → Agrees heap (Refers within) v w
    → Agrees heap (Refers within) v v
with_itself null = null
with_itself (object thing is e) = object thing is e

own_top : {words : List (Option Value)} {j : Kind} {ks : List Kind} {v : Value} {vs : List Value}
    → Owns words (Away j ∷ ks) (v ∷ vs) → slice_get words 0 ≡ Some (Some v)
own_top (all_there b) = elim b [ ]
own_top (on_top is e b) = e
own_top (below_top is e b) = elim b [ ]

own_below : {words : List (Option Value)} {k j : Kind} {ks : List Kind} {x v : Value} {vs : List Value}
    → Owns words (k ∷ Away j ∷ ks) (x ∷ v ∷ vs) → slice_get words 0 ≡ Some (Some v)
own_below (all_there (a_range b)) = elim b [ ]
own_below (all_there (a_reference b)) = elim b [ ]
own_below (all_there (an_unused b)) = elim b [ ]
own_below (on_top is e b) = elim b [ ]
own_below (below_top is e b) = e

never_owned : {words : List (Option Value)} {k j : Kind} {ks : List Kind} {vs : List Value}
    → Owns words (Away k ∷ Away j ∷ ks) vs → ⊥
never_owned (all_there b) = elim b [ ]
never_owned (on_top is e b) = elim b [ ]
never_owned (below_top is e b) = elim b [ ]

module _ (by : Linked) (l : Named) (r : Resolution) (m : Method) (named : MemberId) (within : Shape (List ℕ)
    → Bool) where
  abbrev Closes : (put : Bool) → (before after : List Kind) → Type 0
  Closes put before after = (room at next : ℕ) (ks ls : List Kind) (vs ws : List Value)
      (locals words : List (Option Value)) (store : Store) (memory : NMemory) → HasRoom (after ++ ks) m.max_stack room
      → Stores l store memory → Locals memory.heap ls locals words → Stacks memory.heap (before ++ ks) vs ws
      → Owns words (before ++ ks) vs
      → Same l (after ++ ks) ls (at + 1) next (by_name.effect by m at locals store (jop.Field put named) vs)
      (narrow.effect (classes l) (operation (insns.Named (this_access put (field_sort named.desc))
      (pool.Field (r.field named)))) room next words memory ws)

  pub get_closes : (after : List Kind) → RowAgrees by l r m (jop.Field false named) (Refers within ∷ []) after
      → Closes false (Away (Refers within) ∷ []) after
  get_closes after row room at next ks ls _ _ locals words store memory roomy stores held (cell a rest) owns =
      elim a [ ]
  get_closes after row room at next ks ls _ _ locals words store memory roomy stores held
      (left_out {v = v} {vs = vs} {ws = ws} a rest) owns =
      subst (Same l (after ++ ks) ls (at + 1) next (by_name.effect by m at locals store (jop.Field false named) (v
      ∷ vs))) (sym (gets_own l (r.field named) (r.is_near named) room next words memory ws v (own_top owns)
      (field_sort named.desc)))
      (row (λ o. 0) (insns.Named (field_access false (r.is_near named) (field_sort named.desc))
      (pool.Field (r.field named))) refl room at next ks ls (v ∷ vs) (v ∷ ws) locals words store memory roomy stores
      held (cell (with_itself a) rest))

  pub put_closes : (k : Kind) → is_word_sort (field_sort named.desc) ≡ true
      → RowAgrees by l r m (jop.Field true named) (k ∷ Refers within ∷ []) []
      → Closes true (k ∷ Away (Refers within) ∷ []) []
  put_closes _ one row room at next ks ls _ _ locals words store memory roomy stores held (left_out a rest) owns =
      absurd (never_owned owns)
  put_closes k one row room at next ks ls _ _ locals words store memory roomy stores held (cell a (cell c rest)) owns =
      elim c [ ]
  put_closes k one row room at next ks ls _ _ locals words store memory roomy stores held
      (cell {v = x} {w = y} a (left_out {v = v} {vs = vs} {ws = ws} c rest)) owns =
      subst (Same l ks ls (at + 1) next (by_name.effect by m at locals store (jop.Field true named) (x ∷ v ∷ vs)))
      (sym (puts_own l (r.field named) (r.is_near named) room next words memory ws v (own_below owns)
      (field_sort named.desc) one y))
      (row (λ o. 0) (insns.Named (field_access true (r.is_near named) (field_sort named.desc))
      (pool.Field (r.field named))) refl room at next ks ls (x ∷ v ∷ vs) (y ∷ v ∷ ws) locals words store memory
      roomy stores held (cell a (cell (with_itself c) rest)))

-- ---- what is pushed over it

-- constants and locals
pub data IsPush (by : Linked) (r : Resolution) (m : Method) : JOp → Type 0 where
  pushes_null : IsPush by r m jop.Null
  pushes_number : {z : ℤ} → IsPush by r m (jop.Number z)
  pushes_local : {refs : Bool} {k : ℕ} → IsPush by r m (jop.Load refs k)
  pushes_constant : {named : MemberId} {z : ℤ} → IsConstant by r m named z → IsPush by r m (jop.Static false named)

module _ (by : Linked) (m : Method) (at : ℕ) (locals after : List (Option Value)) (store new : Store)
    (vs stack : List Value) where
  abbrev Goes : by_name.Effect → Type 0
  Goes e = e ≡ by_name.Go (at + 1) stack after new

  pushed_one : (v : Value) → Goes (by_name.push by m at locals store v vs) → stack ≡ v ∷ vs
  pushed_one v = by_room (nat_lt (length vs) m.max_stack)
    where
      by_room : (b : Bool) → Goes (by_name.only_if b (by_name.onward by m at locals store (v ∷ vs))) → stack ≡ v ∷ vs
      by_room true e = cc
      by_room false e = absurd cc

  -- one cell is over what was there
  pub one_over : (r : Resolution) (op : JOp) → IsPush by r m op → Goes (by_name.effect by m at locals store op vs)
      → (v : Value) × (stack ≡ v ∷ vs)
  unfolding effect
  one_over r _ pushes_null e = (Null, pushed_one Null e)
  one_over r _ (pushes_number {z = z}) e = (Num z, pushed_one (Num z) e)
  one_over r _ (pushes_local {refs = refs} {k = k}) e = by_local (slice_get locals k) e
    where
      by_local : (o : Option (Option Value)) → Goes (by_name.local_value o (λ v. by_name.only_if
          (by_name.is_kind refs v) (by_name.push by m at locals store v vs))) → (v : Value) × (stack ≡ v ∷ vs)
      by_local None e = absurd cc
      by_local (Some None) e = absurd cc
      by_local (Some (Some v)) e = by_kind (by_name.is_kind refs v) e
        where
          by_kind : (b : Bool) → Goes (by_name.only_if b (by_name.push by m at locals store v vs)) → (v : Value)
              × (stack ≡ v ∷ vs)
          by_kind true e = (v, pushed_one v e)
          by_kind false e = absurd cc
  one_over r _ (pushes_constant {z = z} is) e =
      (Num z, pushed_one (Num z) (sym (ap (λ o. by_name.static_get by m at locals store o vs) is.by_name) ∙ e))

module _ (l : Named) (room next : ℕ) (words wafter : List (Option Value)) (memory grown : NMemory)
    (ws wstack : List Value) where
  abbrev Leaves : Result → Type 0
  Leaves result = narrow.effect_of_result {M = Callee} result next memory ≡ narrow.Go next wstack wafter grown
      → wafter ≡ words

  pushes_words : (new : List Value) → Leaves (pushed new room words ws)
  pushes_words new = by_room (nat_le (length (new ++ ws)) room)
    where
      by_room : (b : Bool) → Leaves (if b then Calculations.Fine (new ++ ws) words else Calculations.Wrong)
      by_room true e = cc
      by_room false e = absurd cc

  loads_words : (b : Bool) (v : Value) → Leaves (Calculations.if_so b (pushed (v ∷ []) room words ws))
  loads_words true v = pushes_words (v ∷ [])
  loads_words false v = λ e. absurd cc

  local_words : (test : Value → Bool) (o : Option (Option Value)) → Leaves (Calculations.set_local o
      (λ v. Calculations.if_so (test v) (pushed (v ∷ []) room words ws)))
  local_words test None = λ e. absurd cc
  local_words test (Some None) = λ e. absurd cc
  local_words test (Some (Some v)) = loads_words (test v) v

  abbrev Keeps : NInsn → Type 0
  Keeps insn = narrow.effect (classes l) (operation insn) room next words memory ws ≡ narrow.Go next wstack wafter grown
      → wafter ≡ words

  as_operation : (insn : NInsn) (calculation : Calculation) → operation insn ≡ Do calculation
      → Leaves (calculation room words ws) → Keeps insn
  as_operation insn calculation is leaves e =
      leaves (sym (ap (λ o. narrow.effect (classes l) o room next words memory ws) is) ∙ e)

  -- the locals of narrow code stay
  pub words_stay : (by : Linked) (r : Resolution) (m : Method) (place : ℕ → ℕ) (op : JOp) (insn : NInsn)
      → IsPush by r m op → written r place op ≡ insn ∷ [] → Keeps insn
  unfolding meaning
  words_stay by r m place _ insn pushes_null is = subst Keeps (one_insn is) (pushes_words (Null ∷ []))
  words_stay by r m place _ insn (pushes_number {z = z}) is = subst Keeps (one_insn is)
      (as_operation (pushed_word (low_word z)) (pushed (Num (low_word z) ∷ [])) (word_is (low_word z))
      (pushes_words (Num (low_word z) ∷ [])))
  words_stay by r m place _ insn (pushes_local {refs = false} {k = k}) is = subst Keeps (one_insn is)
      (as_operation (if nat_le k 3 then insns.Op (0x1C + k) else insns.Local 0x16 k) (load_word k) (number_load_is k)
      (local_words Calculations.is_number (slice_get words k)))
  words_stay by r m place _ insn (pushes_local {refs = true} {k = k}) is = subst Keeps (one_insn is)
      (as_operation (if nat_le k 3 then insns.Op (0x18 + k) else insns.Local 0x15 k) (load_reference k)
      (reference_load_is k) (local_words is_reference (slice_get words k)))
  words_stay by r m place _ insn (pushes_constant {named = named} {z = z} constant) is = subst Keeps
      (one_insn (sym (ap (static_by r false named) constant.narrow) ∙ is))
      (as_operation (pushed_word (low_word z)) (pushed (Num (low_word z) ∷ [])) (word_is (low_word z))
      (pushes_words (Num (low_word z) ∷ [])))
