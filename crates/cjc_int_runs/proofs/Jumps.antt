-- Jumps with and without a condition lead to one place on both sides.
use Rattle.std.proofs.Common.{◌≡◌, ℕ, ◌+◌, ◌<◌, ◌≤◌, List, ◌∷◌, [], ◌++◌, length, refl, sym, ap, ◌∙◌}
use Rattle.std.proofs.Common.{arith}
use Rattle.std.proofs.Common.{Bool, true, false, ℤ, pos, negsuc}
use Rattle.std.specs.Prelude.{Option, Some, slice_get, not, ◌==◌, ◌&&◌, int_le, int_lt, if◌then◌else◌}
use Rattle.std.specs.List.{Contains}
use Rattle.std.proofs.lemmas.Int.{ints}
use Rattle.cjc_range.specs.Span.{Span}
use Rattle.cjc_int_proof.specs.Bytecode.declared.insn.JOp.TheVariants as jop
use Rattle.cjc_script.specs.declared.value.Value.{Value}
use Rattle.cjc_script.specs.declared.value.Value.TheVariants.{Num, Null, Obj}
use Rattle.cjc_script.specs.Sorts.{Shape}
use Rattle.cjc_card_semantics.specs.Bytecode.Calculations.{Takes, int_words}
use Rattle.cjc_card_semantics.specs.Bytecode.Calculations
use Rattle.cjc_card_semantics.specs.Bytecode.Numbers.{spelt_by, compared, is_zero, high_word}
use Rattle.cjc_range.specs.Words.{low_word}
use Rattle.cjc_card_semantics.specs.Bytecode.Meanings.{meaning}
use Rattle.cjc_card_semantics.specs.Bytecode.Effects as narrow
use Rattle.cjc_ncode.specs.declared.narrow.NInsn.{NInsn}
use Rattle.cjc_ncode.specs.declared.narrow.NInsn.TheVariants as insns
use Rattle.cjc_ncode.specs.declared.narrow.NMethod.{NMethod}
use Rattle.cjc_ncode.specs.ByLabel.{Named, by_label, classes, operation}
use Rattle.cjc_ncode.specs.Written.{Resolution}
use Rattle.cjc_ncode.specs.IntCode.IntCode.{Before, Frame}
use Rattle.cjc_jvm_semantics.specs.Arithmetic.{is_same, relation, AreSame}
use Rattle.cjc_jvm_semantics.specs.Linked.{Method, Linked}
use Rattle.cjc_jvm_semantics.specs.Effects.{Store, effect, agree}
use Rattle.cjc_jvm_semantics.specs.Effects as by_name
use Rattle.cjc_int_proof.specs.Walks.{Within, walk}
use Rattle.cjc_narrow_proof.specs.Selection.Relation.{Kind, Range, Refers, NMemory, Stores}
use Rattle.cjc_narrow_proof.proofs.SelectionLaws.Branches.{alike_is, eq_turned, flipped_is, flips, truth_is}
use Rattle.cjc_int_runs.specs.Relation.{IntLocals, IntStacks, to_null, to_object, number, reference}
use Rattle.cjc_int_runs.specs.Steps.{IntJump, JumpInStep, HasIntRoom, NWalked, jumps, falls, spot}
use Rattle.cjc_int_runs.proofs.Spelling.{spelt_words}
use Rattle.cjc_int_runs.proofs.Stepping.{onward, heights, push_words}

-- the one offset of a jump
one_offset : (target : ℕ) → Contains (target ∷ []) target
one_offset target = (0, omega arith, refl)

-- ---- what is compared

pub flat : (b : Bool) → (b ≡ true → ⊥) → b ≡ false
flat true f = absurd (f refl)
flat false f = refl

pub solid : (b : Bool) → (b ≡ false → ⊥) → b ≡ true
solid true f = refl
solid false f = absurd (f refl)

-- a test of -1, 1 and 0 is a condition of the two numbers that give it
by_order : (test : ℤ → Bool) (holds : Bool) (x y : ℤ) → (int_lt x y ≡ true → test (negsuc 0) ≡ holds)
    → (int_lt x y ≡ false → int_lt y x ≡ true → test (pos 1) ≡ holds)
    → (int_lt x y ≡ false → int_lt y x ≡ false → test (pos 0) ≡ holds) → test (compared x y) ≡ holds
by_order test holds x y less more same = go (int_lt x y) refl (int_lt y x) refl
  where
    go : (b : Bool) → int_lt x y ≡ b → (c : Bool) → int_lt y x ≡ c → test (if int_lt x y then negsuc 0
        else (if int_lt y x then pos 1 else pos 0)) ≡ holds
    go true e c g = ap (λ t. test (if t then negsuc 0 else (if int_lt y x then pos 1 else pos 0))) e ∙ less e
    go false e true g = ap (λ t. test (if t then negsuc 0 else (if int_lt y x then pos 1 else pos 0))) e
        ∙ ap (λ t. test (if t then pos 1 else pos 0)) g ∙ more e g
    go false e false g = ap (λ t. test (if t then negsuc 0 else (if int_lt y x then pos 1 else pos 0))) e
        ∙ ap (λ t. test (if t then pos 1 else pos 0)) g ∙ same e g

and_false : (b : Bool) → (b && false) ≡ false
and_false true = refl
and_false false = refl

pub equals : (x y : ℤ) → is_zero (compared x y) ≡ is_same x y
equals x y = by_order is_zero (is_same x y) x y
    (λ e. sym (ap (λ t. int_le x y && t) (flat (int_le y x) (λ g. grind (arith, ints, e, g))) ∙ and_false (int_le x y)))
    (λ e g. sym (ap (λ t. t && int_le y x) (flat (int_le x y) (λ h. grind (arith, ints, g, h)))))
    (λ e g. sym (ap (λ t. t && int_le y x) (solid (int_le x y) (λ h. grind (arith, ints, e, g, h)))
    ∙ solid (int_le y x) (λ h. grind (arith, ints, e, g, h))))

differs : (x y : ℤ) → Calculations.flipped (is_zero (compared x y)) ≡ not (is_same x y)
differs x y = flips (is_zero (compared x y)) ∙ ap not (equals x y)

less : (x y : ℤ) → int_lt (compared x y) (pos 0) ≡ int_lt x y
less x y = by_order (λ z. int_lt z (pos 0)) (int_lt x y) x y (λ e. sym e) (λ e g. sym e) (λ e g. sym e)

no_less : (x y : ℤ) → int_le (pos 0) (compared x y) ≡ int_le y x
no_less x y = by_order (λ z. int_le (pos 0) z) (int_le y x) x y
    (λ e. sym (flat (int_le y x) (λ h. grind (arith, ints, e, h))))
    (λ e g. sym (solid (int_le y x) (λ h. grind (arith, ints, e, h))))
    (λ e g. sym (solid (int_le y x) (λ h. grind (arith, ints, e, h))))

more : (x y : ℤ) → int_lt (pos 0) (compared x y) ≡ int_lt y x
more x y = by_order (λ z. int_lt (pos 0) z) (int_lt y x) x y
    (λ e. sym (flat (int_lt y x) (λ h. grind (arith, ints, e, h)))) (λ e g. sym g) (λ e g. sym g)

no_more : (x y : ℤ) → int_le (compared x y) (pos 0) ≡ int_le x y
no_more x y = by_order (λ z. int_le z (pos 0)) (int_le x y) x y
    (λ e. sym (solid (int_le x y) (λ h. grind (arith, ints, e, h))))
    (λ e g. sym (flat (int_le x y) (λ h. grind (arith, ints, g, h))))
    (λ e g. sym (solid (int_le x y) (λ h. grind (arith, ints, g, h))))

-- ---- where it leads

module _ (by : Linked) (l : Named) (f : Frame) (pairs : ℕ) (m : Method) (code : NMethod) (here next to target at : ℕ)
    (place : ℕ → ℕ) (ks ls : List Kind) (vs ws : List Value) (locals words : List (Option Value)) (store : Store)
    (memory : NMemory) (stores : Stores l store memory) (held : IntLocals memory.heap f pairs ls locals words)
    (rest : IntStacks memory.heap ks vs ws) where
  abbrev pub Leads : by_name.Effect → (ℕ → NWalked) → ℕ → Type 0
  Leads = JumpInStep l f pairs ks ls here next words memory (target ∷ []) (by_name.place m.insns) place (at + 1)

  pub by_truth : (holds : Bool) (named : by_name.Effect) (run : ℕ → NWalked) (most steps : ℕ) → steps ≤ most
      → 0 < steps → named ≡ by_name.jump_if by m at locals store holds target vs
      → run steps ≡ Within (spot (if holds then place target else next) ws words memory) → Leads named run most
  by_truth true named run most steps few some e g = jumps target (one_offset target) (record {
    stack = vs;
    locals = locals;
    store = store;
    nstack = ws;
    nlocals = words;
    nmemory = memory;
    steps = steps;
    few = few;
    some = λ h. some;
    by_name = e;
    by_label = g;
    stacks_agree = rest;
    locals_agree = held;
    stores_agree = stores;
  })
  by_truth false named run most steps few some e g = falls (record {
    stack = vs;
    locals = locals;
    store = store;
    nstack = ws;
    nlocals = words;
    nmemory = memory;
    steps = steps;
    few = few;
    some = λ h. some;
    by_name = e;
    by_label = g;
    stacks_agree = rest;
    locals_agree = held;
    stores_agree = stores;
  })

-- the last of the written instructions, with a condition
last_jump : (l : Named) (code : NMethod) (at to : ℕ) (i : NInsn) (onto ws : List Value) (words : List (Option Value))
    (memory : NMemory) (holds t : Bool) → slice_get code.insns at ≡ Some i
    → narrow.effect (classes l) (operation i) code.max_stack (at + 1) words memory onto
    ≡ narrow.chosen (Takes t ws) to (at + 1) words memory → t ≡ holds
    → walk (by_label l) code 1 (spot at onto words memory)
    ≡ Within (spot (if holds then to else at + 1) ws words memory)
last_jump l code at to i onto ws words memory true t there does e = onward l code 0 at to i onto ws words words memory
    memory _ there (does ∙ ap (λ c. narrow.chosen (Takes c ws) to (at + 1) words memory) e) refl
last_jump l code at to i onto ws words memory false t there does e = onward l code 0 at (at + 1) i onto ws words words
    memory memory _ there (does ∙ ap (λ c. narrow.chosen (Takes c ws) to (at + 1) words memory) e) refl

-- what a jump on a word asks
abbrev Tests : (l : Named) (nop : ℕ) (test : ℤ → Bool) → Type 0
Tests l nop test = (to room next : ℕ) (words : List (Option Value)) (memory : NMemory) (c : ℤ) (ws : List Value)
    → narrow.effect (classes l) (operation (insns.Jump nop to)) room next words memory (Num c ∷ ws)
    ≡ narrow.chosen (Takes (test c) ws) to next words memory

-- icmp and a jump on what it gives
two_compared : (l : Named) (code : NMethod) (at to nop : ℕ) (test : ℤ → Bool) (holds : Bool) (x y high low high' low' :
    ℤ) (ws : List Value) (words : List (Option Value)) (memory : NMemory) → slice_get code.insns at ≡ Some (insns.Op
    0x5F)
    → slice_get code.insns (at + 1) ≡ Some (insns.Jump nop to) → Tests l nop test → x ≡ spelt_by high low
    → y ≡ spelt_by high' low' → test (compared x y) ≡ holds
    → walk (by_label l) code 2 (spot at (Num low' ∷ Num high' ∷ Num low ∷ Num high ∷ ws) words memory)
    ≡ Within (spot (if holds then to else at + 1 + 1) ws words memory)
unfolding meaning
two_compared l code at to nop test holds x y high low high' low' ws words memory there then_there tests ex ey e =
    let c = compared (spelt_by high low) (spelt_by high' low') in
    onward l code 1 at (at + 1) (insns.Op 0x5F) (Num low' ∷ Num high' ∷ Num low ∷ Num high ∷ ws) (Num c ∷ ws) words
    words
    memory memory _ there refl
    (last_jump l code (at + 1) to (insns.Jump nop to) (Num c ∷ ws) ws words memory holds (test c) then_there
    (tests to code.max_stack (at + 1 + 1) words memory c ws)
    (ap (λ a. test (compared a (spelt_by high' low'))) (sym ex) ∙ ap (λ a. test (compared x a)) (sym ey) ∙ e))

module _ (by : Linked) (l : Named) (f : Frame) (pairs : ℕ) (r : Resolution) (m : Method) (b : Before) (target : ℕ) where
  pub goto : IntJump by l f pairs r m b (jop.Goto target) [] (target ∷ [])
  unfolding effect meaning
  goto place code here is at ks ls vs ws locals words store memory before stores held rest =
      by_truth by l f pairs m code here (here + 1) (place target) target at place ks ls vs ws locals words store memory
      stores held rest true _ _ _ 1 (omega arith) (omega arith) refl (onward l code 0 here (place target) (insns.Jump
      0x70 (place target)) ws ws words
      words memory memory _ is.0 refl refl)

  -- ---- a number and zero

  abbrev pub OneNumber : (op : ℕ) → Span → Type 0
  OneNumber op s = IntJump by l f pairs r m b (jop.If op target) (Range s ∷ []) (target ∷ [])

  one_tested : (op nop : ℕ) (s : Span) (holds : ℤ → ℤ → Bool) (test : ℤ → Bool) → ((x y : ℤ) → test (compared x y)
      ≡ holds x y)
      → ((at : ℕ) (locals : List (Option Value)) (store : Store) (x : ℤ) (vs : List Value)
      → effect by m at locals store (jop.If op target) (Num x ∷ vs) ≡ by_name.jump_if by m at locals store
      (holds x (pos 0)) target vs) → Tests l nop test
      → (place : ℕ → ℕ) (code : NMethod) (here : ℕ) → slice_get code.insns here ≡ Some (insns.Op 0x0A)
      → slice_get code.insns (here + 1) ≡ Some (insns.Op 0x5F)
      → slice_get code.insns (here + 1 + 1) ≡ Some (insns.Jump nop (place target))
      → (at : ℕ) (ks ls : List Kind) (vs ws : List Value) (locals words : List (Option Value)) (store : Store)
      (memory : NMemory) → HasIntRoom (length (Range s ∷ ks)) m.max_stack code.max_stack → Stores l store memory
      → IntLocals memory.heap f pairs ls locals words → IntStacks memory.heap (Range s ∷ ks) vs ws
      → JumpInStep l f pairs ks ls here (here + 1 + 1 + 1) words memory (target ∷ []) (by_name.place m.insns) place
      (at + 1) (effect by m at locals store (jop.If op target) vs)
      (λ n. walk (by_label l) code n (spot here ws words memory)) 3
  unfolding meaning
  one_tested op nop s holds test same named tests place code here there second third at ks ls _ _ locals words store
      memory before stores held (number {x = x} {high = high} {low = low} {vs = vs} {ws = ws} ex hx rest) =
      let h = (heights rest).words in let p = before.words in let q = before.by_name in
      by_truth by l f pairs m code here (here + 1 + 1 + 1) (place target) target at place ks ls vs ws locals words store
      memory stores held rest (holds x (pos 0)) _ _ _ 3 (omega arith) (omega arith) (named at locals store x vs)
      (onward l code 2 here (here + 1) (insns.Op 0x0A) (Num low ∷ Num high ∷ ws) (int_words (pos 0)
      ++ (Num low ∷ Num high ∷ ws)) words words memory memory _ there (push_words (int_words (pos 0)) code.max_stack
      (here + 1) (Num low ∷ Num high ∷ ws) words memory (omega (arith, h, p, q)))
      (two_compared l code (here + 1) (place target) nop test (holds x (pos 0)) x (pos 0) high low (high_word (pos 0))
      (low_word (pos 0)) ws words memory second third tests ex
      (sym (spelt_words (pos 0) (record { sfits = omega arith }))) (same x (pos 0))))

  -- ---- two numbers

  abbrev pub TwoNumbers : (op : ℕ) → Span → Span → Type 0
  TwoNumbers op s t = IntJump by l f pairs r m b (jop.If op target) (Range t ∷ Range s ∷ []) (target ∷ [])

  two_tested : (op nop : ℕ) (s t : Span) (holds : ℤ → ℤ → Bool) (test : ℤ → Bool) → ((x y : ℤ) → test (compared x y)
      ≡ holds x y)
      → ((at : ℕ) (locals : List (Option Value)) (store : Store) (x y : ℤ) (vs : List Value)
      → effect by m at locals store (jop.If op target) (Num y ∷ Num x ∷ vs) ≡ by_name.jump_if by m at locals store
      (holds x y) target vs) → Tests l nop test
      → (place : ℕ → ℕ) (code : NMethod) (here : ℕ) → slice_get code.insns here ≡ Some (insns.Op 0x5F)
      → slice_get code.insns (here + 1) ≡ Some (insns.Jump nop (place target))
      → (at : ℕ) (ks ls : List Kind) (vs ws : List Value) (locals words : List (Option Value)) (store : Store)
      (memory : NMemory) → Stores l store memory
      → IntLocals memory.heap f pairs ls locals words → IntStacks memory.heap (Range t ∷ Range s ∷ ks) vs ws
      → JumpInStep l f pairs ks ls here (here + 1 + 1) words memory (target ∷ []) (by_name.place m.insns) place
      (at + 1) (effect by m at locals store (jop.If op target) vs)
      (λ n. walk (by_label l) code n (spot here ws words memory)) 2
  two_tested op nop s t holds test same named tests place code here there second at ks ls _ _ locals words store
      memory stores held (number {x = y} {high = high'} {low = low'} {ws = _} ey hy (number {x = x} {high = high}
      {low = low} {vs = vs} {ws = ws} ex hx rest)) =
      by_truth by l f pairs m code here (here + 1 + 1) (place target) target at place ks ls vs ws locals words store
      memory stores held rest (holds x y) _ _ _ 2 (omega arith) (omega arith) (named at locals store x y vs)
      (two_compared l code here (place target) nop test (holds x y) x y high low high' low' ws words memory there second
      tests ex ey (same x y))

  pub ifeq : (s : Span) → OneNumber 0x99 s
  unfolding effect meaning
  ifeq s place code here is at ks ls vs ws locals words store memory before stores held stacks =
      one_tested 0x99 0x60 s is_same is_zero equals (λ at locals store x vs. refl)
      (λ to room next words memory c ws. refl) place code here is.0 is.1.0 is.1.1.0 at ks ls vs ws locals words store
      memory before stores held stacks

  pub ifne : (s : Span) → OneNumber 0x9A s
  unfolding effect meaning
  ifne s place code here is at ks ls vs ws locals words store memory before stores held stacks =
      one_tested 0x9A 0x61 s (λ x y. not (is_same x y)) (λ z. Calculations.flipped (is_zero z)) differs (λ at locals
      store x vs. refl)
      (λ to room next words memory c ws. refl) place code here is.0 is.1.0 is.1.1.0 at ks ls vs ws locals words store
      memory before stores held stacks

  pub iflt : (s : Span) → OneNumber 0x9B s
  unfolding effect meaning
  iflt s place code here is at ks ls vs ws locals words store memory before stores held stacks =
      one_tested 0x9B 0x62 s (relation 2) (λ z. int_lt z (pos 0)) less (λ at locals store x vs. refl)
      (λ to room next words memory c ws. refl) place code here is.0 is.1.0 is.1.1.0 at ks ls vs ws locals words store
      memory before stores held stacks

  pub ifge : (s : Span) → OneNumber 0x9C s
  unfolding effect meaning
  ifge s place code here is at ks ls vs ws locals words store memory before stores held stacks =
      one_tested 0x9C 0x63 s (relation 3) (λ z. int_le (pos 0) z) no_less (λ at locals store x vs. refl)
      (λ to room next words memory c ws. refl) place code here is.0 is.1.0 is.1.1.0 at ks ls vs ws locals words store
      memory before stores held stacks

  pub ifgt : (s : Span) → OneNumber 0x9D s
  unfolding effect meaning
  ifgt s place code here is at ks ls vs ws locals words store memory before stores held stacks =
      one_tested 0x9D 0x64 s (relation 4) (λ z. int_lt (pos 0) z) more (λ at locals store x vs. refl)
      (λ to room next words memory c ws. refl) place code here is.0 is.1.0 is.1.1.0 at ks ls vs ws locals words store
      memory before stores held stacks

  pub ifle : (s : Span) → OneNumber 0x9E s
  unfolding effect meaning
  ifle s place code here is at ks ls vs ws locals words store memory before stores held stacks =
      one_tested 0x9E 0x65 s (relation 5) (λ z. int_le z (pos 0)) no_more (λ at locals store x vs. refl)
      (λ to room next words memory c ws. refl) place code here is.0 is.1.0 is.1.1.0 at ks ls vs ws locals words store
      memory before stores held stacks

  pub if_icmpeq : (s t : Span) → TwoNumbers 0x9F s t
  unfolding effect meaning
  if_icmpeq s t place code here is at ks ls vs ws locals words store memory before stores held stacks =
      two_tested 0x9F 0x60 s t is_same is_zero equals (λ at locals store x y vs. refl)
      (λ to room next words memory c ws. refl) place code here is.0 is.1.0 at ks ls vs ws locals words store memory
      stores held stacks

  pub if_icmpne : (s t : Span) → TwoNumbers 0xA0 s t
  unfolding effect meaning
  if_icmpne s t place code here is at ks ls vs ws locals words store memory before stores held stacks =
      two_tested 0xA0 0x61 s t (λ x y. not (is_same x y)) (λ z. Calculations.flipped (is_zero z)) differs (λ at locals
      store x y vs. refl)
      (λ to room next words memory c ws. refl) place code here is.0 is.1.0 at ks ls vs ws locals words store memory
      stores held stacks

  pub if_icmplt : (s t : Span) → TwoNumbers 0xA1 s t
  unfolding effect meaning
  if_icmplt s t place code here is at ks ls vs ws locals words store memory before stores held stacks =
      two_tested 0xA1 0x62 s t (relation 2) (λ z. int_lt z (pos 0)) less (λ at locals store x y vs. refl)
      (λ to room next words memory c ws. refl) place code here is.0 is.1.0 at ks ls vs ws locals words store memory
      stores held stacks

  pub if_icmpge : (s t : Span) → TwoNumbers 0xA2 s t
  unfolding effect meaning
  if_icmpge s t place code here is at ks ls vs ws locals words store memory before stores held stacks =
      two_tested 0xA2 0x63 s t (relation 3) (λ z. int_le (pos 0) z) no_less (λ at locals store x y vs. refl)
      (λ to room next words memory c ws. refl) place code here is.0 is.1.0 at ks ls vs ws locals words store memory
      stores held stacks

  pub if_icmpgt : (s t : Span) → TwoNumbers 0xA3 s t
  unfolding effect meaning
  if_icmpgt s t place code here is at ks ls vs ws locals words store memory before stores held stacks =
      two_tested 0xA3 0x64 s t (relation 4) (λ z. int_lt (pos 0) z) more (λ at locals store x y vs. refl)
      (λ to room next words memory c ws. refl) place code here is.0 is.1.0 at ks ls vs ws locals words store memory
      stores held stacks

  pub if_icmple : (s t : Span) → TwoNumbers 0xA4 s t
  unfolding effect meaning
  if_icmple s t place code here is at ks ls vs ws locals words store memory before stores held stacks =
      two_tested 0xA4 0x65 s t (relation 5) (λ z. int_le z (pos 0)) no_more (λ at locals store x y vs. refl)
      (λ to room next words memory c ws. refl) place code here is.0 is.1.0 at ks ls vs ws locals words store memory
      stores held stacks

-- ---- references

module _ (by : Linked) (l : Named) (f : Frame) (pairs : ℕ) (r : Resolution) (m : Method) (b : Before) (target : ℕ) where
  -- one jump on references
  on_references : (nop : ℕ) (place : ℕ → ℕ) (code : NMethod) (here at : ℕ) (ks ls : List Kind) (onto vs ws : List Value)
      (locals words : List (Option Value)) (store : Store) (memory : NMemory) (holds t : Bool) (e : by_name.Effect)
      → Stores l store memory → IntLocals memory.heap f pairs ls locals words → IntStacks memory.heap ks vs ws
      → slice_get code.insns here ≡ Some (insns.Jump nop (place target))
      → narrow.effect (classes l) (operation (insns.Jump nop (place target))) code.max_stack (here + 1) words memory
      onto
      ≡ narrow.chosen (Takes t ws) (place target) (here + 1) words memory → t ≡ holds
      → e ≡ by_name.jump_if by m at locals store holds target vs
      → JumpInStep l f pairs ks ls here (here + 1) words memory (target ∷ []) (by_name.place m.insns) place (at + 1) e
      (λ n. walk (by_label l) code n (spot here onto words memory)) 1
  on_references nop place code here at ks ls onto vs ws locals words store memory holds t e stores held rest there does
      same named =
      by_truth by l f pairs m code here (here + 1) (place target) target at place ks ls vs ws locals words store memory
      stores held rest holds e _ _ 1 (omega arith) (omega arith) named
      (last_jump l code here (place target) (insns.Jump nop (place target)) onto ws words memory holds t there does
      same)

  pub ifnull : (within : Shape (List ℕ) → Bool) → IntJump by l f pairs r m b (jop.If 0xC6 target) (Refers within
      ∷ []) (target ∷ [])
  unfolding effect meaning
  ifnull within place code here is at ks ls _ _ locals words store memory before stores held
      (reference {vs = vs} {ws = ws} to_null rest) =
      on_references 0x66 place code here at ks ls (Null ∷ ws) vs ws locals words store memory true true _ stores held
      rest is.0 refl refl refl
  ifnull within place code here is at ks ls _ _ locals words store memory before stores held
      (reference {vs = vs} {ws = ws} (to_object {k = k} thing there test) rest) =
      on_references 0x66 place code here at ks ls (Obj k ∷ ws) vs ws locals words store memory false false _ stores held
      rest is.0 refl refl refl

  pub ifnonnull : (within : Shape (List ℕ) → Bool) → IntJump by l f pairs r m b (jop.If 0xC7 target) (Refers within
      ∷ []) (target ∷ [])
  unfolding effect meaning
  ifnonnull within place code here is at ks ls _ _ locals words store memory before stores held
      (reference {vs = vs} {ws = ws} to_null rest) =
      on_references 0x67 place code here at ks ls (Null ∷ ws) vs ws locals words store memory false false _ stores held
      rest is.0 refl refl refl
  ifnonnull within place code here is at ks ls _ _ locals words store memory before stores held
      (reference {vs = vs} {ws = ws} (to_object {k = k} thing there test) rest) =
      on_references 0x67 place code here at ks ls (Obj k ∷ ws) vs ws locals words store memory true true _ stores held
      rest is.0 refl refl refl

  -- whether two references are the same
  same_tested : (wanted : Bool) (op nop : ℕ) (within within' : Shape (List ℕ) → Bool)
      → ((at : ℕ) (locals : List (Option Value)) (store : Store) (vs : List Value) → effect by m at locals store
      (jop.If op target) vs ≡ by_name.after_branch by m at locals store (AreSame wanted) target vs)
      → ((to room next : ℕ) (words : List (Option Value)) (memory : NMemory) (ws : List Value)
      → narrow.effect (classes l) (operation (insns.Jump nop to)) room next words memory ws
      ≡ narrow.chosen (Calculations.if_same wanted ws) to next words memory)
      → (place : ℕ → ℕ) (code : NMethod) (here : ℕ) → slice_get code.insns here ≡ Some (insns.Jump nop (place target))
      → (at : ℕ) (ks ls : List Kind) (vs ws : List Value) (locals words : List (Option Value)) (store : Store)
      (memory : NMemory) → Stores l store memory → IntLocals memory.heap f pairs ls locals words
      → IntStacks memory.heap (Refers within ∷ Refers within' ∷ ks) vs ws
      → JumpInStep l f pairs ks ls here (here + 1) words memory (target ∷ []) (by_name.place m.insns) place (at + 1)
      (effect by m at locals store (jop.If op target) vs) (λ n. walk (by_label l) code n (spot here ws words memory)) 1
  same_tested wanted op nop within within' named does place code here there at ks ls _ _ locals words store memory
      stores held (reference {ws = _} to_null (reference {vs = vs} {ws = ws} to_null rest)) =
      on_references nop place code here at ks ls (Null ∷ Null ∷ ws) vs ws locals words store memory (agree wanted true)
      wanted _ stores held rest there (does (place target) code.max_stack (here + 1) words memory (Null ∷ Null ∷ ws))
      (truth_is wanted) (named at locals store (Null ∷ Null ∷ vs))
  same_tested wanted op nop within within' named does place code here there at ks ls _ _ locals words store memory
      stores held (reference {ws = _} to_null (reference {vs = vs} {ws = ws} (to_object {k = k} thing is test) rest)) =
      on_references nop place code here at ks ls (Null ∷ Obj k ∷ ws) vs ws locals words store memory (agree wanted
      false)
      (Calculations.flipped wanted) _ stores held rest there (does (place target) code.max_stack (here + 1) words memory
      (Null ∷ Obj k ∷ ws)) (flipped_is wanted) (named at locals store (Null ∷ Obj k ∷ vs))
  same_tested wanted op nop within within' named does place code here there at ks ls _ _ locals words store memory
      stores held (reference {ws = _} (to_object {k = k} thing is test) (reference {vs = vs} {ws = ws} to_null rest)) =
      on_references nop place code here at ks ls (Obj k ∷ Null ∷ ws) vs ws locals words store memory (agree wanted
      false)
      (Calculations.flipped wanted) _ stores held rest there (does (place target) code.max_stack (here + 1) words memory
      (Obj k ∷ Null ∷ ws)) (flipped_is wanted) (named at locals store (Obj k ∷ Null ∷ vs))
  same_tested wanted op nop within within' named does place code here there at ks ls _ _ locals words store memory
      stores held (reference {ws = _} (to_object {k = j} thing is test) (reference {vs = vs} {ws = ws}
      (to_object {k = k} thing' is' test') rest)) =
      on_references nop place code here at ks ls (Obj j ∷ Obj k ∷ ws) vs ws locals words store memory
      (agree wanted (k == j)) (Calculations.alike wanted (j == k)) _ stores held rest there
      (does (place target) code.max_stack (here + 1) words memory (Obj j ∷ Obj k ∷ ws))
      (alike_is wanted (j == k) (k == j) (eq_turned j k)) (named at locals store (Obj j ∷ Obj k ∷ vs))

  pub if_acmpeq : (within within' : Shape (List ℕ) → Bool) → IntJump by l f pairs r m b (jop.If 0xA5 target)
      (Refers within ∷ Refers within' ∷ []) (target ∷ [])
  unfolding effect meaning
  if_acmpeq within within' place code here is at ks ls vs ws locals words store memory before stores held stacks =
      same_tested true 0xA5 0x68 within within' (λ at locals store vs. refl) (λ to room next words memory ws. refl)
      place
      code here is.0 at ks ls vs ws locals words store memory stores held stacks

  pub if_acmpne : (within within' : Shape (List ℕ) → Bool) → IntJump by l f pairs r m b (jop.If 0xA6 target)
      (Refers within ∷ Refers within' ∷ []) (target ∷ [])
  unfolding effect meaning
  if_acmpne within within' place code here is at ks ls vs ws locals words store memory before stores held stacks =
      same_tested false 0xA6 0x69 within within' (λ at locals store vs. refl) (λ to room next words memory ws. refl)
      place
      code here is.0 at ks ls vs ws locals words store memory stores held stacks
