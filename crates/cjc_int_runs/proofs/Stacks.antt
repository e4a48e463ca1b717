-- Cells are copied, dropped and exchanged alike, whatever each of them is.
use Rattle.std.proofs.Common.{◌≡◌, ℕ, ◌+◌, ◌-◌, List, ◌∷◌, [], ◌++◌, length, refl, sym, ap}
use Rattle.std.proofs.Common.{◌∙◌, arith}
use Rattle.std.proofs.Common.{Bool, true, false, take, drop, append_assoc}
use Rattle.std.specs.Prelude.{Option, Some, slice_get, nat_le, ◌&&◌}
use Rattle.std.proofs.lemmas.Bool.Decides.{nat_tests}
use Rattle.std.proofs.lemmas.List.{length-append}
use Rattle.cjc_int_proof.specs.Bytecode.declared.insn.JOp.TheVariants as jop
use Rattle.cjc_script.specs.declared.value.Value.{Value}
use Rattle.cjc_script.specs.declared.value.Value.TheVariants.{Num}
use Rattle.cjc_card_semantics.specs.Bytecode.Calculations.{Fine}
use Rattle.cjc_card_semantics.specs.Bytecode.Calculations
use Rattle.cjc_card_semantics.specs.Bytecode.Meanings.{meaning}
use Rattle.cjc_card_semantics.specs.Bytecode.Effects.{Do}
use Rattle.cjc_card_semantics.specs.Bytecode.Effects as narrow
use Rattle.cjc_ncode.specs.declared.narrow.NInsn.{NInsn}
use Rattle.cjc_ncode.specs.declared.narrow.NInsn.TheVariants as insns
use Rattle.cjc_ncode.specs.declared.narrow.NMethod.{NMethod}
use Rattle.cjc_ncode.specs.ByLabel.{Named, by_label, classes, operation}
use Rattle.cjc_ncode.specs.Written.{Resolution}
use Rattle.cjc_ncode.specs.IntCode.IntCode.{Frame, words, copied, dropped}
use Rattle.cjc_jvm_semantics.specs.Linked.{Method, Linked}
use Rattle.cjc_jvm_semantics.specs.Effects.{Store, effect}
use Rattle.cjc_jvm_semantics.specs.Effects as by_name
use Rattle.cjc_int_proof.specs.Walks.{walk}
use Rattle.cjc_narrow_proof.specs.Selection.Relation.{Kind, Range, Refers, Heap, NMemory, Stores}
use Rattle.cjc_narrow_proof.specs.Selection.Rows.{NEffect}
use Rattle.cjc_int_runs.specs.Relation.{IntLocals, IntStacks, bottom, number, reference}
use Rattle.cjc_int_runs.specs.Steps.{IntRow, InStep, HasIntRoom, goes, spot, refers, known}
use Rattle.cjc_int_runs.proofs.Stepping.{onward, heights}

-- ---- lists

front : {A : Type 0} (xs ys : List A) → take (length xs) (xs ++ ys) ≡ xs
front [] ys = refl
front (x ∷ xs) ys = ap (λ l. x ∷ l) (front xs ys)

back : {A : Type 0} (xs ys : List A) → drop (length xs) (xs ++ ys) ≡ ys
back [] ys = refl
back (x ∷ xs) ys = back xs ys

take_front : {A : Type 0} (xs ys : List A) (n : ℕ) → n ≡ length xs → take n (xs ++ ys) ≡ xs
take_front xs ys n e = ap (λ k. take k (xs ++ ys)) e ∙ front xs ys

drop_front : {A : Type 0} (xs ys : List A) (n : ℕ) → n ≡ length xs → drop n (xs ++ ys) ≡ ys
drop_front xs ys n e = ap (λ k. drop k (xs ++ ys)) e ∙ back xs ys

-- the first items are copied below those that follow
copied_below : {A : Type 0} (xs ys zs : List A) (n below : ℕ) → n ≡ length xs → below ≡ length xs + length ys
    → take below (xs ++ (ys ++ zs)) ++ (take n (xs ++ (ys ++ zs)) ++ drop below (xs ++ (ys ++ zs)))
    ≡ xs ++ (ys ++ (xs ++ zs))
copied_below xs ys zs n below e g =
    let both : below ≡ length (xs ++ ys) = g ∙ sym (length-append xs ys) in
    let as_two : xs ++ (ys ++ zs) ≡ (xs ++ ys) ++ zs = sym (append_assoc xs ys zs) in
    let taken : take below (xs ++ (ys ++ zs)) ≡ xs ++ ys = ap (take below) as_two ∙ take_front (xs ++ ys) zs below both
    in
    let left : drop below (xs ++ (ys ++ zs)) ≡ zs = ap (drop below) as_two ∙ drop_front (xs ++ ys) zs below both in
    ap (λ l. l ++ (take n (xs ++ (ys ++ zs)) ++ drop below (xs ++ (ys ++ zs)))) taken
    ∙ ap (λ l. (xs ++ ys) ++ (l ++ drop below (xs ++ (ys ++ zs)))) (take_front xs (ys ++ zs) n e)
    ∙ ap (λ l. (xs ++ ys) ++ (xs ++ l)) left ∙ append_assoc xs ys (xs ++ zs)

-- ---- the words of cells

-- one of a reference, two of a number
abbrev pub width : Bool → ℕ
width true = 1
width false = 2

abbrev pub widths : List Kind → ℕ
widths [] = 0
widths (k ∷ ks) = width (refers k) + widths ks

-- stacks in two parts
data Parts (heap : Heap) (xs ys : List Kind) : List Value → List Value → Type 0 where
  parts : {vs vs' ws ws' : List Value} → IntStacks heap xs vs ws → IntStacks heap ys vs' ws'
      → Parts heap xs ys (vs ++ vs') (ws ++ ws')

more_number : {heap : Heap} {xs ys : List Kind} {vs ws : List Value} {k : Kind} {v a b : Value}
    → ((us zs : List Value) → IntStacks heap xs us zs → IntStacks heap (k ∷ xs) (v ∷ us) (a ∷ b ∷ zs))
    → Parts heap xs ys vs ws → Parts heap (k ∷ xs) ys (v ∷ vs) (a ∷ b ∷ ws)
more_number more (parts top rest) = parts (more _ _ top) rest

more_reference : {heap : Heap} {xs ys : List Kind} {vs ws : List Value} {k : Kind} {v a : Value}
    → ((us zs : List Value) → IntStacks heap xs us zs → IntStacks heap (k ∷ xs) (v ∷ us) (a ∷ zs))
    → Parts heap xs ys vs ws → Parts heap (k ∷ xs) ys (v ∷ vs) (a ∷ ws)
more_reference more (parts top rest) = parts (more _ _ top) rest

split : {heap : Heap} (xs : List Kind) {ys : List Kind} {vs ws : List Value} → IntStacks heap (xs ++ ys) vs ws
    → Parts heap xs ys vs ws
split [] stacks = parts bottom stacks
split (k ∷ xs) (number e h rest) = more_number (λ us zs s. number e h s) (split xs rest)
split (k ∷ xs) (reference a rest) = more_reference (λ us zs s. reference a s) (split xs rest)

join : {heap : Heap} {xs ys : List Kind} {vs ws vs' ws' : List Value} → IntStacks heap xs vs ws
    → IntStacks heap ys vs' ws' → IntStacks heap (xs ++ ys) (vs ++ vs') (ws ++ ws')
join bottom rest = rest
join (number e h top) rest = number e h (join top rest)
join (reference a top) rest = reference a (join top rest)

words_of_cells : {heap : Heap} {xs : List Kind} {vs ws : List Value} → IntStacks heap xs vs ws → length ws ≡ widths xs
words_of_cells bottom = refl
words_of_cells (number e h rest) = let a = words_of_cells rest in omega (arith, a)
words_of_cells (reference r rest) = let a = words_of_cells rest in omega (arith, a)

-- ---- copies

module _ (by : Linked) (l : Named) (f : Frame) (pairs : ℕ) (m : Method) (ls : List Kind) (code : NMethod) (here at : ℕ)
    (i : NInsn) (locals words' : List (Option Value)) (store : Store) (memory : NMemory)
    (there : slice_get code.insns here ≡ Some i) (stores : Stores l store memory)
    (held : IntLocals memory.heap f pairs ls locals words') where
  abbrev OneStep : List Kind → by_name.Effect → List Value → Type 0
  OneStep js e ws = InStep l f pairs js ls here (here + 1) words' memory (at + 1) e
      (λ n. walk (by_label l) code n (spot here ws words' memory)) 1

  copied_parts : (cs bs ks : List Kind) (n below mw nw : ℕ) (vs vs' vs'' ws ws' ws'' : List Value)
      → HasIntRoom (length (cs ++ (bs ++ (cs ++ ks)))) m.max_stack code.max_stack
      → operation i ≡ Do (Calculations.copied mw nw) → n ≡ length cs → below ≡ length cs + length bs → mw ≡ widths cs
      → nw ≡ widths cs + widths bs → IntStacks memory.heap cs vs ws → IntStacks memory.heap bs vs' ws'
      → IntStacks memory.heap ks vs'' ws''
      → OneStep (cs ++ (bs ++ (cs ++ ks))) (by_name.after_copy by m at locals store n below (vs ++ (vs' ++ vs'')))
      (ws ++ (ws' ++ ws''))
  copied_parts cs bs ks n below mw nw vs vs' vs'' ws ws' ws'' room means en eb em ew top next rest =
      let t = heights top in let u = heights next in let v = heights rest in
      let t1 = t.by_name in let t2 = t.words in let u1 = u.by_name in let u2 = u.words in let v1 = v.by_name in
      let v2 = v.words in let p = room.by_name in let q = room.words in
      let c = words_of_cells top in let d = words_of_cells next in
      let stack = vs ++ (vs' ++ vs'') in let onto = ws ++ (ws' ++ ws'') in
      let a1 = length-append vs (vs' ++ vs'') in let a2 = length-append vs' vs'' in
      let b1 = length-append ws (ws' ++ ws'') in let b2 = length-append ws' ws'' in
      let k1 = length-append cs (bs ++ (cs ++ ks)) in let k2 = length-append bs (cs ++ ks) in
      let k3 = length-append cs ks in
      let taken : take mw onto ≡ ws = take_front ws (ws' ++ ws'') mw (omega (arith, em, c)) in
      let grown : length (take mw onto ++ onto) ≡ length ws + length onto = ap (λ s. length (s ++ onto)) taken
      ∙ length-append ws onto in
      let fits : nat_le below (length stack) ≡ true = grind (arith, nat_tests, eb, t1, u1, a1, a2) in
      let fits' : nat_le (n + length stack) m.max_stack ≡ true =
      grind (arith, nat_tests, en, t1, u1, v1, a1, a2, p, k1, k2, k3) in
      let has : nat_le nw (length onto) ≡ true = grind (arith, nat_tests, ew, c, d, b1, b2) in
      let has' : nat_le (length (take mw onto ++ onto)) code.max_stack ≡ true =
      grind (arith, nat_tests, grown, t2, u2, v2, b1, b2, p, q, k1, k2, k3) in
      let is = copied_below vs vs' vs'' n below (omega (arith, en, t1)) (omega (arith, eb, t1, u1)) in
      let is' = copied_below ws ws' ws'' mw nw (omega (arith, em, c)) (omega (arith, ew, c, d)) in
      let onto' = ws ++ (ws' ++ (ws ++ ws'')) in
      goes (record {
        stack = vs ++ (vs' ++ (vs ++ vs''));
        locals = locals;
        store = store;
        nstack = onto';
        nlocals = words';
        nmemory = memory;
        by_name = ap (λ b. by_name.only_if (b && nat_le (n + length stack) m.max_stack) (by_name.onward by m at locals
            store (take below stack ++ (take n stack ++ drop below stack)))) fits
            ∙ ap (λ b. by_name.only_if b (by_name.onward by m at locals store (take below stack ++ (take n stack
            ++ drop below stack)))) fits' ∙ ap (by_name.onward by m at locals store) is;
        steps = 1;
        few = omega arith;
        some = λ h. omega arith;
        by_label = onward l code 0 here (here + 1) i onto onto' words' words' memory memory _ there
            (ap (λ o. narrow.effect (classes l) o code.max_stack (here + 1) words' memory onto) means
            ∙ ap (λ b. let e : NEffect = narrow.effect_of_result (Calculations.if_so b (Calculations.if_so
            (nat_le (length (take mw onto ++ onto)) code.max_stack) (Fine (take nw onto ++ (take mw onto ++ drop nw
            onto))
            words'))) (here + 1) memory in e) has
            ∙ ap (λ b. let e : NEffect = narrow.effect_of_result (Calculations.if_so b (Fine (take nw onto
            ++ (take mw onto ++ drop nw onto)) words')) (here + 1) memory in e) has'
            ∙ ap (λ s. let e : NEffect = narrow.Go (here + 1) s words' memory in e) is') refl;
        stacks_agree = join top (join next (join top rest));
        locals_agree = held;
        stores_agree = stores;
      })

  copied_next : (cs bs ks : List Kind) (n below mw nw : ℕ) (vs vs' ws ws' : List Value)
      → HasIntRoom (length (cs ++ (bs ++ (cs ++ ks)))) m.max_stack code.max_stack
      → operation i ≡ Do (Calculations.copied mw nw) → n ≡ length cs → below ≡ length cs + length bs → mw ≡ widths cs
      → nw ≡ widths cs + widths bs → IntStacks memory.heap cs vs ws → Parts memory.heap bs ks vs' ws'
      → OneStep (cs ++ (bs ++ (cs ++ ks))) (by_name.after_copy by m at locals store n below (vs ++ vs')) (ws ++ ws')
  copied_next cs bs ks n below mw nw vs _ ws _ room means en eb em ew top (parts {vs = vs'} {vs' = vs''} {ws = ws'}
      {ws' = ws''} next rest) = copied_parts cs bs ks n below mw nw vs vs' vs'' ws ws' ws'' room means en eb em ew top
      next rest

  copied_first : (cs bs ks : List Kind) (n below mw nw : ℕ) (vs ws : List Value)
      → HasIntRoom (length (cs ++ (bs ++ (cs ++ ks)))) m.max_stack code.max_stack
      → operation i ≡ Do (Calculations.copied mw nw) → n ≡ length cs → below ≡ length cs + length bs → mw ≡ widths cs
      → nw ≡ widths cs + widths bs → Parts memory.heap cs (bs ++ ks) vs ws
      → OneStep (cs ++ (bs ++ (cs ++ ks))) (by_name.after_copy by m at locals store n below vs) ws
  copied_first cs bs ks n below mw nw _ _ room means en eb em ew (parts {vs = vs} {vs' = vs'} {ws = ws} {ws' = ws'} top
      rest) = copied_next cs bs ks n below mw nw vs vs' ws ws' room means en eb em ew top (split bs rest)

-- ---- drops and the exchange

-- values leave the stack by name
named_pop : (by : Linked) (m : Method) (at : ℕ) (locals : List (Option Value)) (store : Store) (n : ℕ) (vs vs' :
    List Value) → n ≡ length vs → by_name.after_pop by m at locals store n (vs ++ vs')
    ≡ by_name.onward by m at locals store vs'
named_pop by m at locals store n vs vs' e =
    let a = length-append vs vs' in
    let has : nat_le n (length (vs ++ vs')) ≡ true = grind (arith, nat_tests, e, a) in
    ap (λ b. by_name.only_if b (by_name.onward by m at locals store (drop n (vs ++ vs')))) has
    ∙ ap (by_name.onward by m at locals store) (drop_front vs vs' n e)

-- and words by label
pub words_popped : (n room next : ℕ) (ws ws' : List Value) (words' : List (Option Value)) (memory : NMemory) → n
    ≡ length ws
    → (let e : NEffect = narrow.effect_of_result (Calculations.popped n room words' (ws ++ ws')) next memory in e)
    ≡ narrow.Go next ws' words' memory
words_popped n room next ws ws' words' memory e =
    let a = length-append ws ws' in
    let has : nat_le n (length (ws ++ ws')) ≡ true = grind (arith, nat_tests, e, a) in
    ap (λ b. let e : NEffect = narrow.effect_of_result (Calculations.if_so b (Fine (drop n (ws ++ ws')) words')) next
    memory in e) has ∙ ap (λ s. let e : NEffect = narrow.Go next s words' memory in e) (drop_front ws ws' n e)

-- the first items and those behind them change places
exchanged : {A : Type 0} (xs ys zs : List A) (m n : ℕ) → m ≡ length xs → n ≡ length ys
    → take n (drop m (xs ++ (ys ++ zs))) ++ (take m (xs ++ (ys ++ zs)) ++ drop (m + n) (xs ++ (ys ++ zs)))
    ≡ ys ++ (xs ++ zs)
exchanged xs ys zs m n e g =
    let a = length-append xs ys in
    let both : m + n ≡ length (xs ++ ys) = omega (arith, e, g, a) in
    let as_two : xs ++ (ys ++ zs) ≡ (xs ++ ys) ++ zs = sym (append_assoc xs ys zs) in
    let left : drop (m + n) (xs ++ (ys ++ zs)) ≡ zs = ap (drop (m + n)) as_two
    ∙ drop_front (xs ++ ys) zs (m + n) both in
    let beneath : take n (drop m (xs ++ (ys ++ zs))) ≡ ys = ap (take n) (drop_front xs (ys ++ zs) m e)
    ∙ take_front ys zs n g in
    ap (λ s. s ++ (take m (xs ++ (ys ++ zs)) ++ drop (m + n) (xs ++ (ys ++ zs)))) beneath
    ∙ ap (λ s. ys ++ (s ++ drop (m + n) (xs ++ (ys ++ zs)))) (take_front xs (ys ++ zs) m e)
    ∙ ap (λ s. ys ++ (xs ++ s)) left

pub words_exchanged : (m n room next : ℕ) (xs ys ws : List Value) (words' : List (Option Value)) (memory : NMemory)
    → m ≡ length xs → n ≡ length ys → (Calculations.is_swap m && Calculations.is_swap n) ≡ true
    → (let e : NEffect = narrow.effect_of_result (Calculations.swap_x m n room words' (xs ++ (ys ++ ws))) next memory
    in e) ≡ narrow.Go next (ys ++ (xs ++ ws)) words' memory
words_exchanged m n room next xs ys ws words' memory e g fits =
    let onto = xs ++ (ys ++ ws) in
    let a = length-append xs (ys ++ ws) in let b = length-append ys ws in
    let has : nat_le (m + n) (length onto) ≡ true = grind (arith, nat_tests, e, g, a, b) in
    ap (λ t. let e : NEffect = narrow.effect_of_result (Calculations.if_so t (Calculations.if_so
    (nat_le (m + n) (length onto)) (Fine (take n (drop m onto) ++ (take m onto ++ drop (m + n) onto)) words'))) next
    memory in e) fits
    ∙ ap (λ t. let e : NEffect = narrow.effect_of_result (Calculations.if_so t (Fine (take n (drop m onto)
    ++ (take m onto ++ drop (m + n) onto)) words')) next memory in e) has
    ∙ ap (λ s. let e : NEffect = narrow.Go next s words' memory in e) (exchanged xs ys ws m n e g)

swaps : (p q : Bool) → (Calculations.is_swap (width p) && Calculations.is_swap (width q)) ≡ true
swaps true true = refl
swaps true false = refl
swaps false true = refl
swaps false false = refl

-- ---- what is written

one_copied : (p : Bool) (below : List Bool) → operation (copied (words 1 (p ∷ below)))
    ≡ Do (Calculations.copied (width p) (width p))
unfolding meaning
one_copied true below = refl
one_copied false below = refl

two_copied : (p q : Bool) (below : List Bool) → operation (copied (words 2 (p ∷ q ∷ below)))
    ≡ Do (Calculations.copied (width p + width q) (width p + width q))
unfolding meaning
two_copied true true below = refl
two_copied true false below = refl
two_copied false true below = refl
two_copied false false below = refl

below_one : (p q : Bool) (below : List Bool) → operation (insns.Words 0x3F (words 1 (p ∷ q ∷ below))
    (words 2 (p ∷ q ∷ below))) ≡ Do (Calculations.copied (width p) (width p + width q))
unfolding meaning
below_one true true below = refl
below_one true false below = refl
below_one false true below = refl
below_one false false below = refl

below_two : (p q t : Bool) (below : List Bool) → operation (insns.Words 0x3F (words 1 (p ∷ q ∷ t ∷ below))
    (words 3 (p ∷ q ∷ t ∷ below))) ≡ Do (Calculations.copied (width p) (width p + (width q + width t)))
unfolding meaning
below_two true true true below = refl
below_two true true false below = refl
below_two true false true below = refl
below_two true false false below = refl
below_two false true true below = refl
below_two false true false below = refl
below_two false false true below = refl
below_two false false false below = refl

two_below_one : (p q t : Bool) (below : List Bool) → operation (insns.Words 0x3F (words 2 (p ∷ q ∷ t ∷ below))
    (words 3 (p ∷ q ∷ t ∷ below))) ≡ Do (Calculations.copied (width p + width q) (width p + width q + width t))
unfolding meaning
two_below_one true true true below = refl
two_below_one true true false below = refl
two_below_one true false true below = refl
two_below_one true false false below = refl
two_below_one false true true below = refl
two_below_one false true false below = refl
two_below_one false false true below = refl
two_below_one false false false below = refl

two_below_two : (p q t u : Bool) (below : List Bool) → operation (insns.Words 0x3F (words 2 (p ∷ q ∷ t ∷ u ∷ below))
    (words 4 (p ∷ q ∷ t ∷ u ∷ below)))
    ≡ Do (Calculations.copied (width p + width q) (width p + width q + (width t + width u)))
unfolding meaning
two_below_two true true true true below = refl
two_below_two true true true false below = refl
two_below_two true true false true below = refl
two_below_two true true false false below = refl
two_below_two true false true true below = refl
two_below_two true false true false below = refl
two_below_two true false false true below = refl
two_below_two true false false false below = refl
two_below_two false true true true below = refl
two_below_two false true true false below = refl
two_below_two false true false true below = refl
two_below_two false true false false below = refl
two_below_two false false true true below = refl
two_below_two false false true false below = refl
two_below_two false false false true below = refl
two_below_two false false false false below = refl

one_dropped : (p : Bool) → operation (dropped p) ≡ Do (Calculations.popped (width p))
unfolding meaning
one_dropped true = refl
one_dropped false = refl

two_exchanged : (p q : Bool) (below : List Bool) → operation (insns.Words 0x40 (words 1 (p ∷ q ∷ below))
    (words 2 (p ∷ q ∷ below) - words 1 (p ∷ q ∷ below))) ≡ Do (Calculations.swap_x (width p) (width q))
unfolding meaning
two_exchanged true true below = refl
two_exchanged true false below = refl
two_exchanged false true below = refl
two_exchanged false false below = refl

module _ (by : Linked) (l : Named) (f : Frame) (pairs : ℕ) (r : Resolution) (m : Method) (ls : List Kind)
    (below : List Bool) (inside : Bool) where
  -- a row of an instruction that sees the stack alone, by the cells on top
  abbrev OnCells : (op : ℕ) → (before after : List Kind) → Type 0
  OnCells op before after = IntRow by l f pairs r m (known before below inside) (jop.Stack op) before after ls ls

  pub dup : (a : Kind) → OnCells 0x59 (a ∷ []) (a ∷ a ∷ [])
  unfolding effect
  dup a place code here is at ks vs ws locals words' store memory before after stores held stacks =
      copied_first by l f pairs m ls code here at _ locals words' store memory is.0 stores held (a ∷ []) ([]) ks
      1 1 (width (refers a)) (width (refers a)) vs ws after (one_copied (refers a) below)
      (omega arith) (omega arith) (omega arith) (omega arith) (split (a ∷ []) stacks)

  pub dup_x1 : (a b : Kind) → OnCells 0x5A (a ∷ b ∷ []) (a ∷ b ∷ a ∷ [])
  unfolding effect
  dup_x1 a b place code here is at ks vs ws locals words' store memory before after stores held stacks =
      copied_first by l f pairs m ls code here at _ locals words' store memory is.0 stores held (a ∷ []) (b ∷ []) ks
      1 2 (width (refers a)) (width (refers a) + width (refers b)) vs ws after (below_one (refers a) (refers b) below)
      (omega arith) (omega arith) (omega arith) (omega arith) (split (a ∷ []) stacks)

  pub dup_x2 : (a b c : Kind) → OnCells 0x5B (a ∷ b ∷ c ∷ []) (a ∷ b ∷ c ∷ a ∷ [])
  unfolding effect
  dup_x2 a b c place code here is at ks vs ws locals words' store memory before after stores held stacks =
      copied_first by l f pairs m ls code here at _ locals words' store memory is.0 stores held (a ∷ []) (b ∷ c ∷ []) ks
      1 3 (width (refers a)) (width (refers a) + (width (refers b) + width (refers c))) vs ws after (below_two (refers
      a) (refers b) (refers c) below)
      (omega arith) (omega arith) (omega arith) (omega arith) (split (a ∷ []) stacks)

  pub dup2 : (a b : Kind) → OnCells 0x5C (a ∷ b ∷ []) (a ∷ b ∷ a ∷ b ∷ [])
  unfolding effect
  dup2 a b place code here is at ks vs ws locals words' store memory before after stores held stacks =
      copied_first by l f pairs m ls code here at _ locals words' store memory is.0 stores held (a ∷ b ∷ []) ([]) ks
      2 2 (width (refers a) + width (refers b)) (width (refers a) + width (refers b)) vs ws after (two_copied (refers
      a) (refers b) below)
      (omega arith) (omega arith) (omega arith) (omega arith) (split (a ∷ b ∷ []) stacks)

  pub dup2_x1 : (a b c : Kind) → OnCells 0x5D (a ∷ b ∷ c ∷ []) (a ∷ b ∷ c ∷ a ∷ b ∷ [])
  unfolding effect
  dup2_x1 a b c place code here is at ks vs ws locals words' store memory before after stores held stacks =
      copied_first by l f pairs m ls code here at _ locals words' store memory is.0 stores held (a ∷ b ∷ []) (c ∷ []) ks
      2 3 (width (refers a) + width (refers b)) (width (refers a) + width (refers b) + width (refers c)) vs ws after
      (two_below_one (refers a) (refers b) (refers c) below)
      (omega arith) (omega arith) (omega arith) (omega arith) (split (a ∷ b ∷ []) stacks)

  pub dup2_x2 : (a b c d : Kind) → OnCells 0x5E (a ∷ b ∷ c ∷ d ∷ []) (a ∷ b ∷ c ∷ d ∷ a ∷ b ∷ [])
  unfolding effect
  dup2_x2 a b c d place code here is at ks vs ws locals words' store memory before after stores held stacks =
      copied_first by l f pairs m ls code here at _ locals words' store memory is.0 stores held (a ∷ b ∷ []) (c ∷ d
      ∷ []) ks
      2 4 (width (refers a) + width (refers b)) (width (refers a) + width (refers b) + (width (refers c) + width
      (refers d))) vs ws after (two_below_two (refers a) (refers b) (refers c) (refers d) below)
      (omega arith) (omega arith) (omega arith) (omega arith) (split (a ∷ b ∷ []) stacks)

  -- ---- drops

  pop_on : (a : Kind) (code : NMethod) (here at : ℕ) (ks : List Kind) (vs ws : List Value)
      (locals words' : List (Option Value)) (store : Store) (memory : NMemory) → slice_get code.insns here
      ≡ Some (dropped (refers a)) → Stores l store memory → IntLocals memory.heap f pairs ls locals words'
      → Parts memory.heap (a ∷ []) ks vs ws → InStep l f pairs ks ls here (here + 1) words' memory (at + 1)
      (by_name.after_pop by m at locals store 1 vs) (λ n. walk (by_label l) code n (spot here ws words' memory)) 1
  pop_on a code here at ks _ _ locals words' store memory there stores held (parts {vs = vs} {vs' = vs'} {ws = ws}
      {ws' = ws'} top rest) =
      let h = heights top in let c = h.by_name in let d = words_of_cells top in
      goes (record {
        stack = vs';
        locals = locals;
        store = store;
        nstack = ws';
        nlocals = words';
        nmemory = memory;
        by_name = named_pop by m at locals store 1 vs vs' (omega (arith, c));
        steps = 1;
        few = omega arith;
        some = λ h. omega arith;
        by_label = onward l code 0 here (here + 1) (dropped (refers a)) (ws ++ ws') ws' words' words' memory memory _
            there (ap (λ o. narrow.effect (classes l) o code.max_stack (here + 1) words' memory (ws ++ ws'))
            (one_dropped (refers a)) ∙ words_popped (width (refers a)) code.max_stack (here + 1) ws ws' words' memory
            (omega (arith, d))) refl;
        stacks_agree = rest;
        locals_agree = held;
        stores_agree = stores;
      })

  pub pop : (a : Kind) → OnCells 0x57 (a ∷ []) []
  unfolding effect
  pop a place code here is at ks vs ws locals words' store memory before after stores held stacks =
      pop_on a code here at ks vs ws locals words' store memory is.0 stores held (split (a ∷ []) stacks)

  -- what two drops find
  pop2_next : (a b : Kind) (code : NMethod) (here at : ℕ) (ks : List Kind) (vs vs' ws ws' : List Value)
      (locals words' : List (Option Value)) (store : Store) (memory : NMemory) → slice_get code.insns here
      ≡ Some (dropped (refers a)) → slice_get code.insns (here + 1) ≡ Some (dropped (refers b)) → Stores l store memory
      → IntLocals memory.heap f pairs ls locals words' → IntStacks memory.heap (a ∷ []) vs ws
      → Parts memory.heap (b ∷ []) ks vs' ws' → InStep l f pairs ks ls here (here + 1 + 1) words' memory (at + 1)
      (by_name.after_pop by m at locals store 2 (vs ++ vs')) (λ n. walk (by_label l) code n (spot here (ws ++ ws')
      words' memory)) 2
  pop2_next a b code here at ks vs _ ws _ locals words' store memory there then_there stores held top
      (parts {vs = us} {vs' = vs'} {ws = ys} {ws' = ws'} next rest) =
      let h = heights top in let c = h.by_name in let d = words_of_cells top in
      let g = heights next in let i = g.by_name in let j = words_of_cells next in
      let e = length-append vs us in
      goes (record {
        stack = vs';
        locals = locals;
        store = store;
        nstack = ws';
        nlocals = words';
        nmemory = memory;
        by_name = ap (by_name.after_pop by m at locals store 2) (sym (append_assoc vs us vs'))
            ∙ named_pop by m at locals store 2 (vs ++ us) vs' (omega (arith, c, e, i));
        steps = 2;
        few = omega arith;
        some = λ h. omega arith;
        by_label = onward l code 1 here (here + 1) (dropped (refers a)) (ws ++ (ys ++ ws')) (ys ++ ws') words' words'
            memory memory _ there (ap (λ o. narrow.effect (classes l) o code.max_stack (here + 1) words' memory (ws
            ++ (ys ++ ws'))) (one_dropped (refers a)) ∙ words_popped (width (refers a)) code.max_stack (here + 1) ws
            (ys ++ ws') words' memory (omega (arith, d)))
            (onward l code 0 (here + 1) (here + 1 + 1) (dropped (refers b)) (ys ++ ws') ws' words' words' memory memory
            _ then_there (ap (λ o. narrow.effect (classes l) o code.max_stack (here + 1 + 1) words' memory (ys ++ ws'))
            (one_dropped (refers b)) ∙ words_popped (width (refers b)) code.max_stack (here + 1 + 1) ys ws' words'
            memory (omega (arith, j))) refl);
        stacks_agree = rest;
        locals_agree = held;
        stores_agree = stores;
      })

  pop2_on : (a b : Kind) (code : NMethod) (here at : ℕ) (ks : List Kind) (vs ws : List Value)
      (locals words' : List (Option Value)) (store : Store) (memory : NMemory) → slice_get code.insns here
      ≡ Some (dropped (refers a)) → slice_get code.insns (here + 1) ≡ Some (dropped (refers b)) → Stores l store memory
      → IntLocals memory.heap f pairs ls locals words' → Parts memory.heap (a ∷ []) (b ∷ ks) vs ws
      → InStep l f pairs ks ls here (here + 1 + 1) words' memory (at + 1) (by_name.after_pop by m at locals store 2 vs)
      (λ n. walk (by_label l) code n (spot here ws words' memory)) 2
  pop2_on a b code here at ks _ _ locals words' store memory there then_there stores held (parts {vs = vs} {vs' = vs'}
      {ws = ws} {ws' = ws'} top rest) = pop2_next a b code here at ks vs vs' ws ws' locals words' store memory there
      then_there stores held top (split (b ∷ []) rest)

  pub pop2 : (a b : Kind) → OnCells 0x58 (a ∷ b ∷ []) []
  unfolding effect
  pop2 a b place code here is at ks vs ws locals words' store memory before after stores held stacks =
      pop2_on a b code here at ks vs ws locals words' store memory is.0 is.1.0 stores held (split (a ∷ []) stacks)

  -- ---- the exchange

  swapped : (a b : Kind) (code : NMethod) (here at : ℕ) (ks : List Kind) (x y : Value) (xs ys vs ws : List Value)
      (locals words' : List (Option Value)) (store : Store) (memory : NMemory) → slice_get code.insns here
      ≡ Some (insns.Words 0x40 (words 1 (refers a ∷ refers b ∷ below)) (words 2 (refers a ∷ refers b ∷ below)
      - words 1 (refers a ∷ refers b ∷ below))) → Stores l store memory
      → IntLocals memory.heap f pairs ls locals words' → width (refers a) ≡ length xs → width (refers b) ≡ length ys
      → IntStacks memory.heap (b ∷ a ∷ ks) (y ∷ x ∷ vs) (ys ++ (xs ++ ws))
      → InStep l f pairs (b ∷ a ∷ ks) ls here (here + 1) words' memory (at + 1)
      (by_name.after_swap by m at locals store (x ∷ y ∷ vs))
      (λ n. walk (by_label l) code n (spot here (xs ++ (ys ++ ws)) words' memory)) 1
  swapped a b code here at ks x y xs ys vs ws locals words' store memory there stores held ex ey all = goes (record {
    stack = y ∷ x ∷ vs;
    locals = locals;
    store = store;
    nstack = ys ++ (xs ++ ws);
    nlocals = words';
    nmemory = memory;
    by_name = refl;
    steps = 1;
    few = omega arith;
    some = λ h. omega arith;
    by_label = onward l code 0 here (here + 1) _ (xs ++ (ys ++ ws)) (ys ++ (xs ++ ws)) words' words' memory memory _
        there
        (ap (λ o. narrow.effect (classes l) o code.max_stack (here + 1) words' memory (xs ++ (ys ++ ws)))
        (two_exchanged (refers a) (refers b) below) ∙ words_exchanged (width (refers a)) (width (refers b))
        code.max_stack (here + 1) xs ys ws words' memory ex ey (swaps (refers a) (refers b))) refl;
    stacks_agree = all;
    locals_agree = held;
    stores_agree = stores;
  })

  pub swap : (a b : Kind) → OnCells 0x5F (a ∷ b ∷ []) (b ∷ a ∷ [])
  unfolding effect
  swap _ _ place code here is at ks _ _ locals words' store memory before after stores held (number {s = s} {x = x}
      {high = h1} {low = l1} {ws = _} e h (number {s = t} {x = y} {high = h2} {low = l2} {vs = vs} {ws = ws} e' h'
      rest)) =
      swapped (Range s) (Range t) code here at ks (Num x) (Num y) (Num l1 ∷ Num h1 ∷ []) (Num l2 ∷ Num h2 ∷ []) vs ws
      locals words' store memory is.0 stores held refl refl (number e' h' (number e h rest))
  swap _ _ place code here is at ks _ _ locals words' store memory before after stores held (number {s = s} {x = x}
      {high = h1} {low = l1} {ws = _} e h (reference {within = t} {v = y} {vs = vs} {ws = ws} a rest)) =
      swapped (Range s) (Refers t) code here at ks (Num x) y (Num l1 ∷ Num h1 ∷ []) (y ∷ []) vs ws locals words' store
      memory is.0 stores held refl refl (reference a (number e h rest))
  swap _ _ place code here is at ks _ _ locals words' store memory before after stores held (reference {within = s}
      {v = x} {ws = _} a (number {s = t} {x = y} {high = h2} {low = l2} {vs = vs} {ws = ws} e' h' rest)) =
      swapped (Refers s) (Range t) code here at ks x (Num y) (x ∷ []) (Num l2 ∷ Num h2 ∷ []) vs ws locals words' store
      memory is.0 stores held refl refl (number e' h' (reference a rest))
  swap _ _ place code here is at ks _ _ locals words' store memory before after stores held (reference {within = s}
      {v = x} {ws = _} a (reference {within = t} {v = y} {vs = vs} {ws = ws} a' rest)) =
      swapped (Refers s) (Refers t) code here at ks x y (x ∷ []) (y ∷ []) vs ws locals words' store memory is.0 stores
      held refl refl (reference a' (reference a rest))
