-- getstatic: of a static cell, and of a constant.
use Rattle.std.proofs.Common.{◌≡◌, ℕ, ◌+◌, ◌<◌, ◌≤◌, List, ◌∷◌, [], ◌++◌, length, refl, sym, ap}
use Rattle.std.proofs.Common.{subst, ◌∙◌, arith, true, false, ℤ}
use Rattle.std.specs.Prelude.{Option, Some, nat_le, if◌then◌else◌}
use Rattle.std.proofs.lemmas.Bool.Decides.{nat_tests}
use Rattle.std.proofs.lemmas.List.{length-append}
use Rattle.cjc_script.specs.Bytes.declared.fault.MemberId.{MemberId}
use Rattle.cjc_range.specs.Span.{Span, Holds, full}
use Rattle.cjc_range.proofs.Spans.{fits_word}
use Rattle.cjc_int_proof.specs.Bytecode.declared.insn.JOp.TheVariants as jop
use Rattle.cjc_script.specs.declared.value.Value.{Value}
use Rattle.cjc_script.specs.declared.value.Value.TheVariants.{Num}
use Rattle.cjc_script.specs.Sorts.{Sort, Boolean, Byte, Short, Int, Reference, NoValue, field_sort}
use Rattle.cjc_card_semantics.specs.Bytecode.Calculations.{int_words}
use Rattle.cjc_card_semantics.specs.Bytecode.Meanings.{meaning, Uses, GetsStatic}
use Rattle.cjc_card_semantics.specs.Bytecode.Effects.{slot_of, words_of}
use Rattle.cjc_card_semantics.specs.Bytecode.Effects as narrow
use Rattle.cjc_card_semantics.specs.Bytecode.Renaming.{keys}
use Rattle.cjc_ncode.specs.declared.narrow.NInsn.TheVariants as insns
use Rattle.cjc_ncode.specs.declared.narrow.NMethod.{NMethod}
use Rattle.cjc_ncode.specs.declared.narrow.PoolKey.TheVariants as pool
use Rattle.cjc_ncode.specs.PoolOrder.{same_member}
use Rattle.cjc_ncode.specs.ByLabel.{Named, by_label, classes, naming}
use Rattle.cjc_ncode.specs.Written.{Resolution, static_access}
use Rattle.cjc_ncode.specs.IntCode.IntCode.{Before, Frame, pushed, static_get, widened}
use Rattle.cjc_jvm_semantics.specs.Linked.{Method, Static, Linked}
use Rattle.cjc_jvm_semantics.specs.Effects.{Store, effect, value_in}
use Rattle.cjc_jvm_semantics.specs.Effects as by_name
use Rattle.cjc_int_proof.specs.Walks.{walk}
use Rattle.cjc_narrow_proof.specs.Selection.Cells.{IsConstant}
use Rattle.cjc_narrow_proof.specs.Selection.Relation.{Kind, Range, NMemory, Stores}
use Rattle.cjc_narrow_proof.specs.Selection.Rows.{NEffect, kind_of, lists}
use Rattle.cjc_narrow_proof.proofs.SelectionLaws.Fields.{value_shown, found, letter_of}
use Rattle.cjc_int_runs.specs.Fields.{has_values, IntCellIsThere}
use Rattle.cjc_int_runs.specs.Relation.{IntLocals, IntStacks, number}
use Rattle.cjc_int_runs.specs.Steps.{IntRow, InStep, HasIntRoom, StandAt, behind, spot}
use Rattle.cjc_int_runs.proofs.Spelling.{spelt_number}
use Rattle.cjc_int_runs.proofs.Stepping.{heights, push_named}
use Rattle.cjc_int_runs.proofs.Constants.{pushes, number_is}
use Rattle.cjc_int_runs.proofs.ItemsRead.{Reads, reads}
use Rattle.cjc_int_runs.proofs.FieldsRead.{ReadOf, cell_read, by_sort}

-- ---- a static cell

get_static_means : (sort : Sort) → meaning (static_access false sort) ≡ Uses (GetsStatic (letter_of sort))
unfolding meaning
get_static_means Boolean = refl
get_static_means Byte = refl
get_static_means Short = refl
get_static_means Int = refl
get_static_means (Reference kind) = refl
get_static_means NoValue = refl

module _ (by : Linked) (l : Named) (m : Method) (f : MemberId) (room at next : ℕ) (vs ws : List Value)
    (locals words : List (Option Value)) (store : Store) (memory : NMemory) (roomy : length ws + 2 ≤ room)
    (less : length vs < m.max_stack) (stores : Stores l store memory) where
  abbrev narrow_cell : Value → NEffect
  narrow_cell v = words_of (letter_of (field_sort f.desc)) v narrow.Stick (λ new. narrow.onward new room next words
      memory
      ws)

  cell_pushed : lists (keys (let n = l.memory in n.statics)) f ≡ true
      → Reads (ReadOf l memory.heap (field_sort f.desc)) at next vs ws locals words store memory
      (by_name.static_get by m at locals store (Some (Static f)) vs) (narrow.with_some narrow.Stick
      (slot_of same_member memory.statics f) narrow_cell)
  cell_pushed has =
      let Meets = Reads (ReadOf l memory.heap (field_sort f.desc)) at next vs ws locals words store memory in
      let r = found l memory.heap f stores.statics_fit (ap (λ fs. lists fs f) stores.cells ∙ has) in
      let c = cell_read l memory.heap r.fits in
      let few = c.few in let long = length-append c.new ws in
      let fits : nat_le (length (c.new ++ ws)) room ≡ true = grind (arith, nat_tests, few, long, roomy) in
      let push : Value → by_name.Effect = λ v. by_name.push by m at locals store v vs in
      let onto : List Value → NEffect = λ new. narrow.onward new room next words memory ws in
      subst (λ o. Meets (by_name.with_some o push) (narrow.with_some narrow.Stick (slot_of same_member memory.statics f)
      narrow_cell)) (sym (ap (λ s. value_in s f) stores.statics ∙ value_shown memory.statics f ∙ r.is))
      (subst (λ o. Meets (push r.value) (narrow.with_some narrow.Stick o narrow_cell)) (sym r.is)
      (subst (Meets (push r.value)) (sym (c.words onto))
      (subst (λ e. Meets e (onto c.new)) (sym (push_named by m at locals store r.value vs less))
      (subst (λ t. Meets (by_name.Go (at + 1) (r.value ∷ vs) locals store) (if t
      then narrow.Go next (c.new ++ ws) words memory else narrow.Stick)) (sym fits) (reads r.value c.new c.pushed)))))

-- ---- the rows

module _ (by : Linked) (l : Named) (f : Frame) (pairs : ℕ) (r : Resolution) (m : Method) (b : Before) (ls : List Kind)
    (named : MemberId) where
  -- a row of getstatic, by whether the field is a constant
  abbrev GetRow : Option ℤ → (after : List Kind) → Type 0
  GetRow o after =
      (code : NMethod) (here : ℕ) → StandAt code here (static_get r named o) →
      (at : ℕ) (ks : List Kind) (vs ws : List Value) (locals words : List (Option Value)) (store : Store)
      (memory : NMemory) → HasIntRoom (length (after ++ ks)) m.max_stack code.max_stack → Stores l store memory
      → IntLocals memory.heap f pairs ls locals words → IntStacks memory.heap ks vs ws →
      InStep l f pairs (after ++ ks) ls here (behind here (static_get r named o)) words memory (at + 1)
      (effect by m at locals store (jop.Static false named) vs) (λ n. walk (by_label l) code n (spot here ws words
      memory)) (length (static_get r named o))

  cell_row : IntCellIsThere by l r m named → (sort : Sort) → field_sort named.desc ≡ sort → (code : NMethod) (here : ℕ)
      → StandAt code here (insns.Named (static_access false sort) (pool.StaticField (r.field named)) ∷ widened sort)
      → (at : ℕ) (ks : List Kind) (vs ws : List Value) (locals words : List (Option Value)) (store : Store)
      (memory : NMemory) → HasIntRoom (length (kind_of l sort ∷ ks)) m.max_stack code.max_stack
      → Stores l store memory → IntLocals memory.heap f pairs ls locals words → IntStacks memory.heap ks vs ws
      → InStep l f pairs (kind_of l sort ∷ ks) ls here (behind here (insns.Named (static_access false sort)
      (pool.StaticField (r.field named)) ∷ widened sort)) words memory (at + 1)
      (effect by m at locals store (jop.Static false named) vs) (λ n. walk (by_label l) code n (spot here ws words
      memory)) (length (insns.Named (static_access false sort) (pool.StaticField (r.field named)) ∷ widened sort))
  unfolding effect
  cell_row there sort is_sort code here is at ks vs ws locals words store memory after stores held rest =
      let h = heights rest in
      let tall = h.words in let long = h.by_name in let p = after.by_name in let q = after.words in
      let g = r.field named in
      let same : field_sort g.desc ≡ sort = there.type ∙ is_sort in
      let i = insns.Named (static_access false sort) (pool.StaticField g) in
      let roomy : length ws + 2 ≤ code.max_stack = omega (arith, tall, p, q) in
      let less : length vs < m.max_stack = omega (arith, long, p) in
      subst (λ o. InStep l f pairs (kind_of l sort ∷ ks) ls here (behind here (i ∷ widened sort)) words memory (at + 1)
      (by_name.static_get by m at locals store o vs) (λ k. walk (by_label l) code k (spot here ws words memory))
      (length (i ∷ widened sort))) (sym there.is_found)
      (by_sort l f pairs m ls code here at ws vs ws locals words store memory stores held ks rest sort i _ _
      (ap has_values (sym is_sort) ∙ there.some_value) after is
      (ap (λ x. narrow.effect (classes l) (naming x (pool.StaticField g)) code.max_stack (here + 1) words memory ws)
      (get_static_means sort)
      ∙ ap (λ d. narrow.effect (classes l) (narrow.GetStatic (letter_of d) g) code.max_stack (here + 1) words memory ws)
      (sym same))
      (subst (λ d. Reads (ReadOf l memory.heap d) at (here + 1) vs ws locals words store memory
      (by_name.static_get by m at locals store (Some (Static g)) vs) (narrow.with_some narrow.Stick
      (slot_of same_member memory.statics g) (narrow_cell by l m g code.max_stack at (here + 1) vs ws locals words store
      memory roomy less stores))) same
      (cell_pushed by l m g code.max_stack at (here + 1) vs ws locals words store memory roomy less stores there.has)))

  pub getstatic : IntCellIsThere by l r m named → IntRow by l f pairs r m b (jop.Static false named) []
      (kind_of l (field_sort named.desc) ∷ []) ls ls
  getstatic there place code here is at ks vs ws locals words store memory before after stores held rest =
      subst (λ o. GetRow o (kind_of l (field_sort named.desc) ∷ [])) (sym there.is_no_constant)
      (cell_row there (field_sort named.desc) refl) code here is at ks vs ws locals words store memory after stores held
      rest

  constant_row : (z : ℤ) (s : Span) → IsConstant by r m named z → Holds full z → Holds s z
      → GetRow (Some z) (Range s ∷ [])
  unfolding effect
  constant_row z s is_constant small inside code here is at ks vs ws locals words store memory after stores held rest =
      pushes by l f pairs m ls code here at (Range s) ks (Num z) (int_words z) vs ws locals words store memory (pushed
      z)
      _ is.0 (ap (λ o. narrow.effect (classes l) o code.max_stack (here + 1) words memory ws) (number_is z))
      (ap (λ o. by_name.static_get by m at locals store o vs) is_constant.by_name) after stores held rest
      (number (spelt_number z z refl (fits_word z small)) inside rest) (omega arith)

  pub getconstant : (z : ℤ) (s : Span) → IsConstant by r m named z → Holds full z → Holds s z
      → IntRow by l f pairs r m b (jop.Static false named) [] (Range s ∷ []) ls ls
  getconstant z s is_constant small inside place code here is at ks vs ws locals words store memory before after stores
      held rest =
      subst (λ o. GetRow o (Range s ∷ [])) (sym is_constant.narrow) (constant_row z s is_constant small inside) code
      here
      is at ks vs ws locals words store memory after stores held rest
