-- bastore, sastore and iastore.
use Rattle.std.proofs.Common.{◌≡◌, ℕ, suc, ◌+◌, ◌<◌, ◌≤◌, List, ◌∷◌, [], ◌++◌, length, refl, sym, ap}
use Rattle.std.proofs.Common.{subst, ◌∙◌, arith}
use Rattle.std.proofs.Common.{Bool, true, ℤ, pos, ◌+ℤ◌, ◌*ℤ◌}
use Rattle.std.specs.Prelude.{Option, Some, slice_get, slice_set, ◌&&◌}
use Rattle.std.specs.Int.{w16, cast_unsigned}
use Rattle.std.proofs.lemmas.List.{length-append}
use Rattle.cjc_range.specs.Words.{low_word, low_byte}
use Rattle.cjc_range.specs.Span.{Span, Holds, Within, full}
use Rattle.cjc_range.proofs.Order.{held_wider}
use Rattle.cjc_range.proofs.WordsLaws.Words.{low_byte-low_word, low_word_fits, low_word_fixed, wide_ends}
use Rattle.cjc_int_proof.specs.Bytecode.declared.insn.JOp.TheVariants as jop
use Rattle.cjc_script.specs.declared.value.Value.{Value}
use Rattle.cjc_script.specs.declared.value.Value.TheVariants.{Num}
use Rattle.cjc_script.specs.Sorts.{Shape, OfNumbers, Booleans}
use Rattle.cjc_card_semantics.specs.Bytecode.Calculations
use Rattle.cjc_card_semantics.specs.Bytecode.Numbers.{spelt_by}
use Rattle.cjc_card_semantics.specs.Bytecode.Meanings.{meaning}
use Rattle.cjc_card_semantics.specs.Bytecode.Effects.{Do, Letter, Numbers}
use Rattle.cjc_card_semantics.specs.Bytecode.Effects as narrow
use Rattle.cjc_ncode.specs.declared.narrow.NInsn.{NInsn}
use Rattle.cjc_ncode.specs.declared.narrow.NInsn.TheVariants as insns
use Rattle.cjc_ncode.specs.declared.narrow.NMethod.{NMethod}
use Rattle.cjc_ncode.specs.ByLabel.{Named, by_label, classes, operation}
use Rattle.cjc_ncode.specs.Written.{Resolution}
use Rattle.cjc_ncode.specs.IntCode.IntCode.{Frame, guard, index_of_one, index_of_two}
use Rattle.cjc_jvm_semantics.specs.Linked.{Method, Linked}
use Rattle.cjc_jvm_semantics.specs.Effects.{AByte, AShort, AnInt, effect}
use Rattle.cjc_jvm_semantics.specs.Effects as by_name
use Rattle.cjc_int_proof.specs.Walks.{Within as Inside, walk}
use Rattle.cjc_narrow_proof.specs.Selection.Relation.{Kind, Range, Refers, NMemory, boolean_range}
use Rattle.cjc_narrow_proof.specs.Selection.Rows.{NEffect}
use Rattle.cjc_narrow_proof.specs.Selection.Elements.{index_range, IsBytes, IsShorts, AreAll}
use Rattle.cjc_int_runs.specs.Guards.{GuardedIndex}
use Rattle.cjc_int_runs.specs.Elements.{IsInts}
use Rattle.cjc_int_runs.specs.Relation.{IntLocals, IntStacks, number, reference}
use Rattle.cjc_int_runs.specs.Steps.{IntRow, InStep, StandAt, behind, goes, raises, spot, known}
use Rattle.cjc_int_runs.proofs.Stepping.{onward, asked, raised, heights}
use Rattle.cjc_int_runs.proofs.Stacks.{words_exchanged}
use Rattle.cjc_int_runs.proofs.Guard.{behind_is, behind_both, stand_front, stand_back, and_onward, guard_leads}
use Rattle.cjc_int_runs.proofs.Kept.{int_stacks_kept, int_locals_kept}
use Rattle.cjc_int_runs.proofs.ItemsWritten.{Writes, writes, fails, write_at, bytes_taken, shorts_taken, ints_taken}

-- An index below the words of a value becomes one word, by which the same item is found, or none.
pub record Placed (l : Named) (code : NMethod) (here : ℕ) (written : List NInsn) (i : ℤ) (ys from ws : List Value)
    (words : List (Option Value)) (memory : NMemory) : Type 0 where
  pub j : ℤ
  pub index : GuardedIndex i j
  pub steps : ℕ
  pub few : steps ≤ length written
  pub some : 0 < steps
  pub leads : walk (by_label l) code steps (spot here from words memory)
      ≡ Inside (spot (behind here written) (ys ++ (Num j ∷ ws)) words memory)

module _ (l : Named) (code : NMethod) (here : ℕ) (i high low : ℤ) (ys ws : List Value) (words : List (Option Value))
    (memory : NMemory) (spelt : i ≡ spelt_by high low) (inside : Bool) (range : inside ≡ true → Holds index_range i)
    (room : length ys + length ws + 6 ≤ code.max_stack) (m : ℕ) (is_long : m ≡ length ys)
    (means : operation (insns.Words 0x40 m 2) ≡ Do (Calculations.swap_x m 2))
    (means' : operation (insns.Words 0x40 1 m) ≡ Do (Calculations.swap_x 1 m))
    (fits : (Calculations.is_swap m && Calculations.is_swap 2) ≡ true)
    (fits' : (Calculations.is_swap 1 && Calculations.is_swap m) ≡ true) where
  abbrev insns_of : List NInsn
  insns_of = insns.Words 0x40 m 2 ∷ (guard inside (here + 1) ++ insns.Words 0x40 1 m ∷ [])

  pub placed : StandAt code here insns_of
      → Placed l code here insns_of i ys (ys ++ (Num low ∷ Num high ∷ ws)) ws words memory
  placed is =
      let first = guard inside (here + 1) in
      let long = length-append ys ws in
      let g = guard_leads l code (here + 1) i high low (ys ++ ws) words memory spelt inside range
      (stand_front code (here + 1) first (insns.Words 0x40 1 m ∷ []) is.1) (omega (arith, room, long)) in
      let last = stand_back code (here + 1) first (insns.Words 0x40 1 m ∷ []) is.1 in
      let p = behind (here + 1) first in
      let next : behind (here + 1) (first ++ insns.Words 0x40 1 m ∷ []) ≡ p + 1 =
      behind_both (here + 1) first (insns.Words 0x40 1 m ∷ []) in
      let size = length-append first (insns.Words 0x40 1 m ∷ []) in
      let few = g.few in let some = g.some in
      let onto = ys ++ (Num low ∷ Num high ∷ ws) in
      let turned = Num low ∷ Num high ∷ (ys ++ ws) in
      record {
        j = g.j;
        index = g.index;
        steps = suc (g.steps + 1);
        few = omega (arith, few, size);
        some = omega arith;
        leads = onward l code (g.steps + 1) here (here + 1) (insns.Words 0x40 m 2) onto turned words words memory memory
            _ is.0 (ap (λ o. narrow.effect (classes l) o code.max_stack (here + 1) words memory onto) means
            ∙ words_exchanged m 2 code.max_stack (here + 1) ys (Num low ∷ Num high ∷ []) ws words memory is_long refl
            fits)
            (and_onward l code g.steps 1 (spot (here + 1) turned words memory) (spot p (Num g.j ∷ (ys ++ ws)) words
            memory) _ g.leads (onward l code 0 p (p + 1) (insns.Words 0x40 1 m) (Num g.j ∷ (ys ++ ws))
            (ys ++ (Num g.j ∷ ws)) words words memory memory _ last.0
            (ap (λ o. narrow.effect (classes l) o code.max_stack (p + 1) words memory (Num g.j ∷ (ys ++ ws))) means'
            ∙ words_exchanged 1 m code.max_stack (p + 1) (Num g.j ∷ []) ys ws words memory refl is_long fits')
            (ap (λ q. walk (by_label l) code 0 (spot q (ys ++ (Num g.j ∷ ws)) words memory)) (sym next))));
      }

-- ---- the last instruction

module _ (l : Named) (f : Frame) (pairs : ℕ) (ls : List Kind) (code : NMethod) (start here at : ℕ)
    (before first : List NInsn) (op : ℕ) (i : ℤ) (ys onto from ws vs : List Value) (v : Value)
    (locals words : List (Option Value)) (memory : NMemory) (held : IntLocals memory.heap f pairs ls locals words)
    (g : Placed l code here first i ys from (v ∷ ws) words memory) (ks : List Kind)
    (rest : IntStacks memory.heap ks vs ws) (is_here : here ≡ behind start before)
    (leads : walk (by_label l) code (length before) (spot start onto words memory) ≡ Inside (spot here from words
    memory))
    (there : slice_get code.insns (behind here first) ≡ Some (insns.Op op)) where
  abbrev all : List NInsn
  all = before ++ (first ++ insns.Op op ∷ [])

  pub stored : (e : by_name.Effect) (n : NEffect) → asked l code (insns.Op op) (behind here first) (ys ++ (Num g.j ∷ v
      ∷ ws))
      words memory ≡ n → Writes l at (behind here first + 1) vs ws locals words memory e n
      → InStep l f pairs ks ls start (behind start all) words memory (at + 1) e
      (λ k. walk (by_label l) code k (spot start onto words memory)) (length all)
  stored _ _ does (writes {store = store} {written = memory'} keeps stores) =
      let long = length-append before (first ++ insns.Op op ∷ []) in
      let long' = length-append first (insns.Op op ∷ []) in let few = g.few in
      let next : behind start all ≡ behind here first + 1 = behind_both start before (first ++ insns.Op op ∷ [])
      ∙ ap (λ p. behind p (first ++ insns.Op op ∷ [])) (sym is_here) ∙ behind_both here first (insns.Op op ∷ []) in
      goes (record {
        stack = vs;
        locals = locals;
        store = store;
        nstack = ws;
        nlocals = words;
        nmemory = memory';
        steps = length before + (g.steps + 1);
        few = omega (arith, long, long', few);
        some = λ h. omega arith;
        by_name = refl;
        by_label = and_onward l code (length before) (g.steps + 1) (spot start onto words memory) (spot here from words
            memory) _ leads (and_onward l code g.steps 1 (spot here from words memory) (spot (behind here first)
            (ys ++ (Num g.j ∷ v ∷ ws)) words memory) _ g.leads (onward l code 0 (behind here first)
            (behind here first + 1) (insns.Op op) (ys ++ (Num g.j ∷ v ∷ ws)) ws words words memory memory' _ there does
            (ap (λ p. walk (by_label l) code 0 (spot p ws words memory')) (sym next))));
        stacks_agree = int_stacks_kept keeps rest;
        locals_agree = int_locals_kept keeps held;
        stores_agree = stores;
      })
  stored _ _ does (fails {fault = fault}) =
      let long = length-append before (first ++ insns.Op op ∷ []) in
      let long' = length-append first (insns.Op op ∷ []) in let few = g.few in
      let a = behind_is start before in let c = behind_is here first in let d = behind_is start all in
      raises (record {
        fault = fault;
        at = behind here first;
        behind = behind here first + 1;
        nstack = ys ++ (Num g.j ∷ v ∷ ws);
        steps = length before + (g.steps + 1);
        few = omega (arith, long, long', few);
        by_name = refl;
        by_label = and_onward l code (length before) (g.steps + 1) (spot start onto words memory) (spot here from words
            memory) _ leads (and_onward l code g.steps 1 (spot here from words memory) (spot (behind here first)
            (ys ++ (Num g.j ∷ v ∷ ws)) words memory) _ g.leads (raised l code 0 (behind here first) (insns.Op op)
            (ys ++ (Num g.j ∷ v ∷ ws)) words memory _ there does));
        from = omega (arith, is_here, a, c);
        before = omega (arith, is_here, a, c, d, long, long');
      })

module _ (by : Linked) (l : Named) (f : Frame) (pairs : ℕ) (r : Resolution) (m : Method) (ls : List Kind)
    (below : List Bool) (inside : Bool) (s t : Span) (within : Shape (List ℕ) → Bool) (near : inside ≡ true
    → Within s index_range) where
  -- a row of an instruction that writes an element
  abbrev StoresItem : (op : ℕ) → Type 0
  StoresItem op = IntRow by l f pairs r m (known (Range t ∷ Range s ∷ Refers within ∷ []) below inside) (jop.ArrayStore
      op)
      (Range t ∷ Range s ∷ Refers within ∷ []) [] ls ls

  -- what is put into an array of a letter, of one word or two
  abbrev put : Letter → (next : ℕ) → List (Option Value) → NMemory → Value → List Value → NEffect
  put letter next words memory v under = Calculations.one_number narrow.Stick under
      (λ i below. Calculations.one_value narrow.Stick below (λ r rest. narrow.thing_of memory.heap r
      (λ k. narrow.numbers_in letter (λ element items. narrow.item_at (narrow.Raise Calculations.IndexOutside) items i
      (λ n old. narrow.Go next rest words (narrow.with_thing memory k
      (Numbers element (slice_set items n (narrow.item_of v)))))))))

  pub bastore : AreAll l IsBytes within → (within (OfNumbers Booleans) ≡ true → Within t boolean_range) → StoresItem
      0x54
  unfolding effect meaning
  bastore all small place code here is at ks _ _ locals words store memory before after stores held (number {x = z}
      {high = hz} {low = lz} {ws = _} ez hz' (number {x = x} {high = high} {low = low} {ws = _} e h (reference {v = v}
      {vs = vs} {ws = ws} a rest))) =
      let tall = (heights rest).words in let p = before.by_name in let q = before.words in
      let y = low_word (spelt_by hz lz) in
      let first = index_of_one inside (here + 1) in
      let g = placed l code (here + 1) x high low (Num y ∷ []) (v ∷ ws) words memory e inside
      (λ o. held_wider s index_range x (near o) h) (omega (arith, tall, p, q)) 1 refl refl refl refl refl
      (stand_front code (here + 1) first (insns.Op 0x38 ∷ []) is.1) in
      let then = stand_back code (here + 1) first (insns.Op 0x38 ∷ []) is.1 in
      let cut_same : low_byte y ≡ low_byte z = ap (λ c. low_byte (low_word c)) (sym ez) ∙ low_byte-low_word z in
      stored l f pairs ls code here (here + 1) at (insns.Op 0x5E ∷ []) first 0x38 x (Num y ∷ []) (Num lz ∷ Num hz
      ∷ Num low ∷ Num high ∷ v ∷ ws) (Num y ∷ Num low ∷ Num high ∷ v ∷ ws) ws vs v locals words memory held g ks rest
      refl
      (onward l code 0 here (here + 1) (insns.Op 0x5E) (Num lz ∷ Num hz ∷ Num low ∷ Num high ∷ v ∷ ws) (Num y ∷ Num low
      ∷ Num high ∷ v ∷ ws) words words memory memory _ is.0 refl refl) then.0 _ _
      (ap (λ c. put narrow.Byte (behind (here + 1) first + 1) words memory (Num c) (Num g.j ∷ v ∷ ws)) cut_same)
      (write_at by l m at (behind (here + 1) first + 1) vs ws locals words store memory stores narrow.Byte AByte x g.j z
      g.index within (λ kind o made. bytes_taken within t z small hz' kind o (all kind o made)) v a)

  pub sastore : AreAll l IsShorts within → StoresItem 0x56
  unfolding effect meaning
  sastore all place code here is at ks _ _ locals words store memory before after stores held (number {x = z}
      {high = hz} {low = lz} {ws = _} ez hz' (number {x = x} {high = high} {low = low} {ws = _} e h (reference {v = v}
      {vs = vs} {ws = ws} a rest))) =
      let tall = (heights rest).words in let p = before.by_name in let q = before.words in
      let y = low_word (spelt_by hz lz) in
      let first = index_of_one inside (here + 1) in
      let g = placed l code (here + 1) x high low (Num y ∷ []) (v ∷ ws) words memory e inside
      (λ o. held_wider s index_range x (near o) h) (omega (arith, tall, p, q)) 1 refl refl refl refl refl
      (stand_front code (here + 1) first (insns.Op 0x39 ∷ []) is.1) in
      let then = stand_back code (here + 1) first (insns.Op 0x39 ∷ []) is.1 in
      let cut_same : low_word y ≡ low_word z = low_word_fixed y (low_word_fits (spelt_by hz lz)) ∙ ap low_word (sym ez)
      in
      stored l f pairs ls code here (here + 1) at (insns.Op 0x5E ∷ []) first 0x39 x (Num y ∷ []) (Num lz ∷ Num hz
      ∷ Num low ∷ Num high ∷ v ∷ ws) (Num y ∷ Num low ∷ Num high ∷ v ∷ ws) ws vs v locals words memory held g ks rest
      refl
      (onward l code 0 here (here + 1) (insns.Op 0x5E) (Num lz ∷ Num hz ∷ Num low ∷ Num high ∷ v ∷ ws) (Num y ∷ Num low
      ∷ Num high ∷ v ∷ ws) words words memory memory _ is.0 refl refl) then.0 _ _
      (ap (λ c. put narrow.Short (behind (here + 1) first + 1) words memory (Num c) (Num g.j ∷ v ∷ ws)) cut_same)
      (write_at by l m at (behind (here + 1) first + 1) vs ws locals words store memory stores narrow.Short AShort x g.j
      z g.index within (λ kind o made. shorts_taken z kind (all kind o made)) v a)

  pub iastore : AreAll l IsInts within → StoresItem 0x4F
  unfolding effect meaning
  iastore all place code here is at ks _ _ locals words store memory before after stores held (number {x = z}
      {high = hz} {low = lz} {ws = _} ez hz' (number {x = x} {high = high} {low = low} {ws = _} e h (reference {v = v}
      {vs = vs} {ws = ws} a rest))) =
      let tall = (heights rest).words in let p = before.by_name in let q = before.words in
      let first = index_of_two inside here in
      let g = placed l code here x high low (Num lz ∷ Num hz ∷ []) (v ∷ ws) words memory e inside
      (λ o. held_wider s index_range x (near o) h) (omega (arith, tall, p, q)) 2 refl refl refl refl refl
      (stand_front code here first (insns.Op 0x3A ∷ []) is) in
      let then = stand_back code here first (insns.Op 0x3A ∷ []) is in
      let ends = wide_ends ((hz *ℤ pos 65536) +ℤ pos (cast_unsigned w16 lz)) in
      let whole = subst (Holds full) (sym ez) (record { above = ends.0; below = ends.1 }) in
      let onto = Num lz ∷ Num hz ∷ Num low ∷ Num high ∷ v ∷ ws in
      stored l f pairs ls code here here at [] first 0x3A x (Num lz ∷ Num hz ∷ []) onto onto ws vs v locals words memory
      held g ks rest refl refl then.0 _ _
      (ap (λ c. put narrow.Int (behind here first + 1) words memory (Num c) (Num g.j ∷ v ∷ ws)) (sym ez))
      (write_at by l m at (behind here first + 1) vs ws locals words store memory stores narrow.Int AnInt x g.j z
      g.index
      within (λ kind o made. ints_taken z kind whole (all kind o made)) v a)
