-- Jumps with and without a condition lead to one place on both sides, and returns give results that agree.
use Rattle.std.proofs.Common.{◌≡◌, ℕ, zero, suc, ◌+◌, refl, sym, ap, subst, ◌∙◌, arith, Bool, true, false, List, []}
use Rattle.std.proofs.Common.{◌∷◌, ◌++◌, ℤ, pos, negsuc}
use Rattle.std.specs.Prelude.{Option, not, ◌==◌, ◌&&◌, ◌-ℤ◌, int_le}
use Rattle.std.specs.List.{Contains}
use Rattle.std.proofs.lemmas.Bool.Decides.{nat_tests}
use Rattle.std.proofs.lemmas.Int.{ints}
use Rattle.cjc_range.specs.Span.{Span, Within, short_range}
use Rattle.cjc_code.specs.declared.insn.JOp.{JOp}
use Rattle.cjc_code.specs.declared.insn.JOp.TheVariants as jop
use Rattle.cjc_script.specs.declared.value.Value.{Value}
use Rattle.cjc_script.specs.declared.value.Value.TheVariants.{Num}
use Rattle.cjc_script.specs.Sorts.{Shape}
use Rattle.cjc_card_semantics.specs.Bytecode.Meanings.{meaning}
use Rattle.cjc_card_semantics.specs.Bytecode.Numbers.{same_number}
use Rattle.cjc_card_semantics.specs.Bytecode.Numbers as words
use Rattle.cjc_card_semantics.specs.Bytecode.Effects as narrow
use Rattle.cjc_card_semantics.specs.Bytecode.Calculations.{Takes, Choice}
use Rattle.cjc_card_semantics.specs.Bytecode.Calculations
use Rattle.cjc_ncode.specs.declared.narrow.NInsn.{NInsn}
use Rattle.cjc_ncode.specs.declared.narrow.NInsn.TheVariants as insns
use Rattle.cjc_ncode.specs.Written.{Resolution, written}
use Rattle.cjc_ncode.specs.ByLabel.{Named, classes, operation}
use Rattle.cjc_jvm_semantics.specs.Arithmetic.{is_same, relation, AreSame, IsNull}
use Rattle.cjc_jvm_semantics.specs.Linked.{Method, Linked}
use Rattle.cjc_jvm_semantics.specs.Effects.{Store, effect, is_same_reference, is_null, agree}
use Rattle.cjc_jvm_semantics.specs.Effects as by_name
use Rattle.cjc_narrow_proof.specs.Selection.Relation.{Kind, Range, Refers, NMemory, Agrees, number, null, object}
use Rattle.cjc_narrow_proof.specs.Selection.Relation.{Stacks, cell, Locals, Stores}
use Rattle.cjc_narrow_proof.specs.Selection.Jumps.{Jumps, jumps, falls, JumpAgrees, no_result, result, Returns, leaves}
use Rattle.cjc_narrow_proof.specs.Selection.Jumps.{ReturnAgrees}
use Rattle.cjc_narrow_proof.proofs.SelectionLaws.Divides.{same_word}

-- a row for the instruction that is written
abbrev pub JumpIs : Linked → Named → Method → (place : ℕ → ℕ) → JOp → NInsn → (before : List Kind) → (offsets : List ℕ)
    → Type 0
JumpIs by l m place op insn before offsets =
    (room at next : ℕ) (ks ls : List Kind) (vs ws : List Value) (locals words : List (Option Value)) (store : Store)
    (memory : NMemory) →
    Stores l store memory → Locals memory.heap ls locals words → Stacks memory.heap (before ++ ks) vs ws →
    Jumps l ks ls offsets (by_name.place m.insns) place (at + 1) next (effect by m at locals store op vs)
    (narrow.effect (classes l) (operation insn) room next words memory ws)

pub jump_written : (by : Linked) (l : Named) (r : Resolution) (m : Method) (op : JOp) (one : (ℕ → ℕ)
    → NInsn) (before : List Kind) (offsets : List ℕ) → ((place : ℕ → ℕ) → written r place op ≡ one place ∷ [])
    → ((place : ℕ → ℕ) → JumpIs by l m place op (one place) before offsets) → JumpAgrees by l r m op before offsets
jump_written by l r m op one before offsets is row place insn e =
    subst (λ i. JumpIs by l m place op i before offsets) (let f = is place in let g : one place ≡ insn = cc
    in g) (row place)

-- the one offset of a jump
pub one_offset : (target : ℕ) → Contains (target ∷ []) target
one_offset target = (0, omega arith, refl)

module _ (by : Linked) (l : Named) (m : Method) (place : ℕ → ℕ) (target at next : ℕ) (ks ls : List Kind)
    (vs ws : List Value) (locals words : List (Option Value)) (store : Store) (memory : NMemory)
    (stores : Stores l store memory) (held : Locals memory.heap ls locals words) (rest : Stacks memory.heap ks vs ws)
  where
    -- a condition that is one on both sides
    pub by_condition : (a b : Bool) → b ≡ a → Jumps l ks ls (target ∷ []) (by_name.place m.insns) place (at + 1) next
        (by_name.jump_if by m at locals store a target vs) (narrow.chosen (Takes b ws) (place target) next words memory)
    by_condition true b e = subst (λ c. Jumps l ks ls (target ∷ []) (by_name.place m.insns) place (at + 1) next
        (by_name.jump_if by m at locals store true target vs) (narrow.chosen (Takes c ws) (place target) next words
        memory)) (sym e) (jumps target (one_offset target) rest held stores)
    by_condition false b e = subst (λ c. Jumps l ks ls (target ∷ []) (by_name.place m.insns) place (at + 1) next
        (by_name.jump_if by m at locals store false target vs) (narrow.chosen (Takes c ws) (place target) next words
        memory)) (sym e) (falls rest held stores)

module _ (by : Linked) (l : Named) (r : Resolution) (m : Method) (target : ℕ) where
  goto_is : (place : ℕ → ℕ) → JumpIs by l m place (jop.Goto target) (insns.Jump 0x70 (place target)) [] (target ∷ [])
  unfolding effect meaning
  goto_is place room at next ks ls vs ws locals words store memory stores held rest =
      jumps target (one_offset target) rest held stores

  pub goto : JumpAgrees by l r m (jop.Goto target) [] (target ∷ [])
  goto = jump_written by l r m (jop.Goto target) (λ place. insns.Jump 0x70 (place target)) [] (target
      ∷ []) (λ place. refl) goto_is

-- ---- conditions on numbers

-- the other truth
pub flips : (b : Bool) → Calculations.flipped b ≡ not b
flips true = refl
flips false = refl

le_zero : (x : ℤ) → words.is_zero x ≡ is_same x (pos 0)
le_zero (pos zero) = refl
le_zero (pos (suc n)) = sym (ap (λ b. b && int_le (pos 0) (pos (suc n))) (not_below (int_le (pos (suc n)) (pos 0))
    refl))
  where
    not_below : (b : Bool) → int_le (pos (suc n)) (pos 0) ≡ b → int_le (pos (suc n)) (pos 0) ≡ false
    not_below false e = e
    not_below true e = absurd (grind (arith, ints, e))
le_zero (negsuc n) = sym (ap (λ b. int_le (negsuc n) (pos 0) && b) (not_above (int_le (pos 0) (negsuc n)) refl)
    ∙ last (int_le (negsuc n) (pos 0)))
  where
    not_above : (b : Bool) → int_le (pos 0) (negsuc n) ≡ b → int_le (pos 0) (negsuc n) ≡ false
    not_above false e = e
    not_above true e = absurd (grind (arith, ints, e))

    last : (b : Bool) → (b && false) ≡ false
    last true = refl
    last false = refl

same_zero : (x y : ℤ) → words.is_zero (x -ℤ y) ≡ (int_le x y && int_le y x)
same_zero x y = by (words.is_zero (x -ℤ y)) refl (int_le x y) refl (int_le y x) refl
  where
    zero_is : (z : ℤ) → words.is_zero z ≡ true → z ≡ pos 0
    zero_is (pos zero) e = refl
    zero_is (pos (suc n)) e = cc
    zero_is (negsuc n) e = cc

    not_zero : (z : ℤ) → words.is_zero z ≡ false → z ≡ pos 0 → ⊥
    not_zero z e is = let f : words.is_zero (pos 0) ≡ false = subst (λ w. words.is_zero w ≡ false) is e in cc

    by : (a : Bool) → words.is_zero (x -ℤ y) ≡ a → (b : Bool) → int_le x y ≡ b → (c : Bool) → int_le y x ≡ c
        → words.is_zero (x -ℤ y) ≡ (int_le x y && int_le y x)
    by true e true f true g = e ∙ sym (ap (λ b. b && int_le y x) f ∙ g)
    by true e false f c g = let z = zero_is (x -ℤ y) e in absurd (grind (arith, ints, z, f))
    by true e true f false g = let z = zero_is (x -ℤ y) e in absurd (grind (arith, ints, z, g))
    by false e false f c g = e ∙ sym (ap (λ b. b && int_le y x) f)
    by false e true f false g = e ∙ sym (ap (λ b. b && int_le y x) f ∙ g)
    by false e true f true g = absurd (not_zero (x -ℤ y) e (grind (arith, ints, f, g)))

module _ (by : Linked) (l : Named) (r : Resolution) (m : Method) (target : ℕ) (s : Span) (small : Within s short_range)
  where
    abbrev OneIs : (op narrow_op : ℕ) → (ℕ → ℕ) → Type 0
    OneIs op narrow_op place = JumpIs by l m place (jop.If op target) (insns.Jump narrow_op (place target)) (Range s
        ∷ []) (target ∷ [])

    abbrev pub OneNumber : (op : ℕ) → Type 0
    OneNumber op = JumpAgrees by l r m (jop.If op target) (Range s ∷ []) (target ∷ [])

    -- where the condition is one of the number on both sides
    one_is : (place : ℕ → ℕ) (op narrow_op : ℕ) (holds here : ℤ → Bool) → ((x : ℤ) → here x ≡ holds x)
        → ((at : ℕ) (locals : List (Option Value)) (store : Store) (x : ℤ) (vs : List Value)
        → effect by m at locals store (jop.If op target) (Num x ∷ vs) ≡ by_name.jump_if by m at locals store (holds x)
        target vs)
        → ((room next : ℕ) (words : List (Option Value)) (memory : NMemory) (y : ℤ) (ws : List Value)
        → narrow.effect (classes l) (operation (insns.Jump narrow_op (place target))) room next words memory (Num y
        ∷ ws) ≡ narrow.chosen (Takes (here y) ws) (place target) next words memory)
        → OneIs op narrow_op place
    one_is place op narrow_op holds here same named_side narrow_side room at next ks ls _ _ locals words store memory
        stores held (cell {vs = vs} {ws = ws} (number {x = x} {y = y} e h) rest) =
        subst (λ b. Jumps l ks ls (target ∷ []) (by_name.place m.insns) place (at + 1) next b (narrow.effect (classes l)
        (operation (insns.Jump narrow_op (place target))) room next words memory (Num y ∷ ws)))
        (sym (named_side at locals store x vs))
        (subst (Jumps l ks ls (target ∷ []) (by_name.place m.insns) place (at + 1) next (by_name.jump_if by m at locals
        store (holds x) target vs)) (sym (narrow_side room next words memory y ws))
        (by_condition by l m place target at next ks ls vs ws locals words store memory stores held rest (holds x)
        (here y) (ap here (same_word s x small h e) ∙ same x)))

    eq_is : (place : ℕ → ℕ) → OneIs 0x99 0x60 place
    unfolding effect meaning
    eq_is place = one_is place 0x99 0x60 (λ x. is_same x (pos 0)) words.is_zero le_zero (λ at locals store x vs. refl)
        (λ room next words memory y ws. refl)

    pub ifeq : OneNumber 0x99
    ifeq = jump_written by l r m (jop.If 0x99 target) (λ place. insns.Jump 0x60 (place target)) (Range s ∷ []) (target
        ∷ []) (λ place. refl) eq_is

    ne_is : (place : ℕ → ℕ) → OneIs 0x9A 0x61 place
    unfolding effect meaning
    ne_is place = one_is place 0x9A 0x61 (λ x. not (is_same x (pos 0))) (λ x. Calculations.flipped (words.is_zero x))
        (λ x. flips (words.is_zero x) ∙ ap not (le_zero x)) (λ at locals store x vs. refl)
        (λ room next words memory y ws.
        refl)

    pub ifne : OneNumber 0x9A
    ifne = jump_written by l r m (jop.If 0x9A target) (λ place. insns.Jump 0x61 (place target)) (Range s ∷ []) (target
        ∷ []) (λ place. refl) ne_is

    lt_is : (place : ℕ → ℕ) → OneIs 0x9B 0x62 place
    unfolding effect meaning
    lt_is place = one_is place 0x9B 0x62 (λ x. relation 2 x (pos 0)) (λ x. relation 2 x (pos 0)) (λ x. refl)
        (λ at locals store x vs. refl) (λ room next words memory y ws. refl)

    pub iflt : OneNumber 0x9B
    iflt = jump_written by l r m (jop.If 0x9B target) (λ place. insns.Jump 0x62 (place target)) (Range s ∷ []) (target
        ∷ []) (λ place. refl) lt_is

    ge_is : (place : ℕ → ℕ) → OneIs 0x9C 0x63 place
    unfolding effect meaning
    ge_is place = one_is place 0x9C 0x63 (λ x. relation 3 x (pos 0)) (λ x. relation 3 x (pos 0)) (λ x. refl)
        (λ at locals store x vs. refl) (λ room next words memory y ws. refl)

    pub ifge : OneNumber 0x9C
    ifge = jump_written by l r m (jop.If 0x9C target) (λ place. insns.Jump 0x63 (place target)) (Range s ∷ []) (target
        ∷ []) (λ place. refl) ge_is

    gt_is : (place : ℕ → ℕ) → OneIs 0x9D 0x64 place
    unfolding effect meaning
    gt_is place = one_is place 0x9D 0x64 (λ x. relation 4 x (pos 0)) (λ x. relation 4 x (pos 0)) (λ x. refl)
        (λ at locals store x vs. refl) (λ room next words memory y ws. refl)

    pub ifgt : OneNumber 0x9D
    ifgt = jump_written by l r m (jop.If 0x9D target) (λ place. insns.Jump 0x64 (place target)) (Range s ∷ []) (target
        ∷ []) (λ place. refl) gt_is

    le_is : (place : ℕ → ℕ) → OneIs 0x9E 0x65 place
    unfolding effect meaning
    le_is place = one_is place 0x9E 0x65 (λ x. relation 5 x (pos 0)) (λ x. relation 5 x (pos 0)) (λ x. refl)
        (λ at locals store x vs. refl) (λ room next words memory y ws. refl)

    pub ifle : OneNumber 0x9E
    ifle = jump_written by l r m (jop.If 0x9E target) (λ place. insns.Jump 0x65 (place target)) (Range s ∷ []) (target
        ∷ []) (λ place. refl) le_is

module _ (by : Linked) (l : Named) (r : Resolution) (m : Method) (target : ℕ) (s t : Span)
    (small : Within s short_range) (small' : Within t short_range) where
  abbrev TwoIs : (op narrow_op : ℕ) → (ℕ → ℕ) → Type 0
  TwoIs op narrow_op place = JumpIs by l m place (jop.If op target) (insns.Jump narrow_op (place target)) (Range t
      ∷ Range s ∷ []) (target ∷ [])

  abbrev pub TwoNumbers : (op : ℕ) → Type 0
  TwoNumbers op = JumpAgrees by l r m (jop.If op target) (Range t ∷ Range s ∷ []) (target ∷ [])

  -- where the condition is one of the two numbers on both sides
  two_is : (place : ℕ → ℕ) (op narrow_op : ℕ) (holds here : ℤ → ℤ → Bool) → ((x y : ℤ) → here x y ≡ holds x y)
      → ((at : ℕ) (locals : List (Option Value)) (store : Store) (x y : ℤ) (vs : List Value)
      → effect by m at locals store (jop.If op target) (Num y ∷ Num x ∷ vs) ≡ by_name.jump_if by m at locals store
      (holds x y) target vs)
      → ((room next : ℕ) (words : List (Option Value)) (memory : NMemory) (x y : ℤ) (ws : List Value)
      → narrow.effect (classes l) (operation (insns.Jump narrow_op (place target))) room next words memory (Num y
      ∷ Num x ∷ ws) ≡ narrow.chosen (Takes (here x y) ws) (place target) next words memory)
      → TwoIs op narrow_op place
  two_is place op narrow_op holds here same named_side narrow_side room at next ks ls _ _ locals words store memory
      stores held (cell (number {x = y} {y = b} ey hy) (cell {vs = vs} {ws = ws} (number {x = x} {y = a} ex hx) rest)) =
      subst (λ q. Jumps l ks ls (target ∷ []) (by_name.place m.insns) place (at + 1) next q (narrow.effect (classes l)
      (operation (insns.Jump narrow_op (place target))) room next words memory (Num b ∷ Num a ∷ ws)))
      (sym (named_side at locals store x y vs))
      (subst (Jumps l ks ls (target ∷ []) (by_name.place m.insns) place (at + 1) next (by_name.jump_if by m at locals
      store (holds x y) target vs)) (sym (narrow_side room next words memory a b ws))
      (by_condition by l m place target at next ks ls vs ws locals words store memory stores held rest (holds x y)
      (here a b)
      (ap (here a) (same_word t y small' hy ey) ∙ ap (λ q. here q y) (same_word s x small hx ex) ∙ same x y)))

  cmpeq_is : (place : ℕ → ℕ) → TwoIs 0x9F 0x6A place
  unfolding effect meaning
  cmpeq_is place = two_is place 0x9F 0x6A is_same same_number same_zero (λ at locals store x y vs. refl)
      (λ room next words memory x y ws. refl)

  pub if_icmpeq : TwoNumbers 0x9F
  if_icmpeq = jump_written by l r m (jop.If 0x9F target) (λ place. insns.Jump 0x6A (place target)) (Range t ∷ Range s
      ∷ []) (target ∷ []) (λ place. refl) cmpeq_is

  cmpne_is : (place : ℕ → ℕ) → TwoIs 0xA0 0x6B place
  unfolding effect meaning
  cmpne_is place = two_is place 0xA0 0x6B (λ x y. not (is_same x y)) (λ x y. Calculations.flipped (same_number x y))
      (λ x y. flips (same_number x y) ∙ ap not (same_zero x y)) (λ at locals store x y vs. refl)
      (λ room next words memory x y ws. refl)

  pub if_icmpne : TwoNumbers 0xA0
  if_icmpne = jump_written by l r m (jop.If 0xA0 target) (λ place. insns.Jump 0x6B (place target)) (Range t ∷ Range s
      ∷ []) (target ∷ []) (λ place. refl) cmpne_is

  cmplt_is : (place : ℕ → ℕ) → TwoIs 0xA1 0x6C place
  unfolding effect meaning
  cmplt_is place = two_is place 0xA1 0x6C (relation 2) (relation 2) (λ x y. refl) (λ at locals store x y vs. refl)
      (λ room next words memory x y ws. refl)

  pub if_icmplt : TwoNumbers 0xA1
  if_icmplt = jump_written by l r m (jop.If 0xA1 target) (λ place. insns.Jump 0x6C (place target)) (Range t ∷ Range s
      ∷ []) (target ∷ []) (λ place. refl) cmplt_is

  cmpge_is : (place : ℕ → ℕ) → TwoIs 0xA2 0x6D place
  unfolding effect meaning
  cmpge_is place = two_is place 0xA2 0x6D (relation 3) (relation 3) (λ x y. refl) (λ at locals store x y vs. refl)
      (λ room next words memory x y ws. refl)

  pub if_icmpge : TwoNumbers 0xA2
  if_icmpge = jump_written by l r m (jop.If 0xA2 target) (λ place. insns.Jump 0x6D (place target)) (Range t ∷ Range s
      ∷ []) (target ∷ []) (λ place. refl) cmpge_is

  cmpgt_is : (place : ℕ → ℕ) → TwoIs 0xA3 0x6E place
  unfolding effect meaning
  cmpgt_is place = two_is place 0xA3 0x6E (relation 4) (relation 4) (λ x y. refl) (λ at locals store x y vs. refl)
      (λ room next words memory x y ws. refl)

  pub if_icmpgt : TwoNumbers 0xA3
  if_icmpgt = jump_written by l r m (jop.If 0xA3 target) (λ place. insns.Jump 0x6E (place target)) (Range t ∷ Range s
      ∷ []) (target ∷ []) (λ place. refl) cmpgt_is

  cmple_is : (place : ℕ → ℕ) → TwoIs 0xA4 0x6F place
  unfolding effect meaning
  cmple_is place = two_is place 0xA4 0x6F (relation 5) (relation 5) (λ x y. refl) (λ at locals store x y vs. refl)
      (λ room next words memory x y ws. refl)

  pub if_icmple : TwoNumbers 0xA4
  if_icmple = jump_written by l r m (jop.If 0xA4 target) (λ place. insns.Jump 0x6F (place target)) (Range t ∷ Range s
      ∷ []) (target ∷ []) (λ place. refl) cmple_is

-- ---- conditions on references

-- numbers are the same in either order
pub eq_turned : (j k : ℕ) → (j == k) ≡ (k == j)
eq_turned j k = by (j == k) refl (k == j) refl
  where
    by : (a : Bool) → (j == k) ≡ a → (b : Bool) → (k == j) ≡ b → (j == k) ≡ (k == j)
    by true e true f = e ∙ sym f
    by false e false f = e ∙ sym f
    by true e false f = absurd (grind (arith, nat_tests, e, f))
    by false e true f = absurd (grind (arith, nat_tests, e, f))

pub alike_is : (wanted b c : Bool) → b ≡ c → Calculations.alike wanted b ≡ agree wanted c
alike_is true b c e = e
alike_is false b c e = flips b ∙ ap not e

pub flipped_is : (wanted : Bool) → Calculations.flipped wanted ≡ agree wanted false
flipped_is true = refl
flipped_is false = refl

pub truth_is : (wanted : Bool) → wanted ≡ agree wanted true
truth_is true = refl
truth_is false = refl

module _ (by : Linked) (l : Named) (r : Resolution) (m : Method) (target : ℕ) (within : Shape (List ℕ) → Bool) where
  -- whether a reference is null
  null_is : (wanted : Bool) (place : ℕ → ℕ) (room at next : ℕ) (ks ls : List Kind) (v w : Value) (vs ws : List Value)
      (locals words : List (Option Value)) (store : Store) (memory : NMemory) →
      Stores l store memory → Locals memory.heap ls locals words → Agrees memory.heap (Refers within) v w
      → Stacks memory.heap ks vs ws →
      Jumps l ks ls (target ∷ []) (by_name.place m.insns) place (at + 1) next (by_name.after_branch by m at locals store
      (IsNull wanted) target (v ∷ vs)) (narrow.chosen (Calculations.if_null wanted (w ∷ ws)) (place target) next
      words memory)
  null_is wanted place room at next ks ls _ _ vs ws locals words store memory stores held null rest =
      by_condition by l m place target at next ks ls vs ws locals words store memory stores held rest
      (agree wanted true) wanted (truth_is wanted)
  null_is true place room at next ks ls _ _ vs ws locals words store memory stores held (object thing is e) rest =
      by_condition by l m place target at next ks ls vs ws locals words store memory stores held rest false false refl
  null_is false place room at next ks ls _ _ vs ws locals words store memory stores held (object thing is e) rest =
      by_condition by l m place target at next ks ls vs ws locals words store memory stores held rest true true refl

  ifnull_is : (place : ℕ → ℕ) → JumpIs by l m place (jop.If 0xC6 target) (insns.Jump 0x66 (place target)) (Refers within
      ∷ []) (target ∷ [])
  unfolding effect meaning
  ifnull_is place room at next ks ls _ _ locals words store memory stores held (cell {v = v} {w = w} {vs = vs} {ws = ws}
      agree rest) =
      null_is true place room at next ks ls v w vs ws locals words store memory stores held agree rest

  pub ifnull : JumpAgrees by l r m (jop.If 0xC6 target) (Refers within ∷ []) (target ∷ [])
  ifnull = jump_written by l r m (jop.If 0xC6 target) (λ place. insns.Jump 0x66 (place target)) (Refers within
      ∷ []) (target ∷ []) (λ place. refl) ifnull_is

  ifnonnull_is : (place : ℕ → ℕ) → JumpIs by l m place (jop.If 0xC7 target) (insns.Jump 0x67 (place target))
      (Refers within ∷ []) (target ∷ [])
  unfolding effect meaning
  ifnonnull_is place room at next ks ls _ _ locals words store memory stores held (cell {v = v} {w = w} {vs = vs}
      {ws = ws} agree rest) =
      null_is false place room at next ks ls v w vs ws locals words store memory stores held agree rest

  pub ifnonnull : JumpAgrees by l r m (jop.If 0xC7 target) (Refers within ∷ []) (target ∷ [])
  ifnonnull = jump_written by l r m (jop.If 0xC7 target) (λ place. insns.Jump 0x67 (place target)) (Refers within
      ∷ []) (target ∷ []) (λ place. refl) ifnonnull_is

module _ (by : Linked) (l : Named) (r : Resolution) (m : Method) (target : ℕ) (within within' : Shape (List ℕ)
    → Bool) where
  -- whether two references are the same
  same_is : (wanted : Bool) (place : ℕ → ℕ) (room at next : ℕ) (ks ls : List Kind) (v w v' w' : Value)
      (vs ws : List Value) (locals words : List (Option Value)) (store : Store) (memory : NMemory) →
      Stores l store memory → Locals memory.heap ls locals words → Agrees memory.heap (Refers within) v w
      → Agrees memory.heap (Refers within') v' w' → Stacks memory.heap ks vs ws →
      Jumps l ks ls (target ∷ []) (by_name.place m.insns) place (at + 1) next (by_name.after_branch by m at locals store
      (AreSame wanted) target (v ∷ v' ∷ vs)) (narrow.chosen (Calculations.if_same wanted (w ∷ w' ∷ ws))
      (place target) next words memory)
  same_is wanted place room at next ks ls _ _ _ _ vs ws locals words store memory stores held null null rest =
      by_condition by l m place target at next ks ls vs ws locals words store memory stores held rest
      (agree wanted true) wanted (truth_is wanted)
  same_is wanted place room at next ks ls _ _ _ _ vs ws locals words store memory stores held null (object thing is e)
      rest =
      by_condition by l m place target at next ks ls vs ws locals words store memory stores held rest
      (agree wanted false) (Calculations.flipped wanted) (flipped_is wanted)
  same_is wanted place room at next ks ls _ _ _ _ vs ws locals words store memory stores held (object thing is e) null
      rest =
      by_condition by l m place target at next ks ls vs ws locals words store memory stores held rest
      (agree wanted false) (Calculations.flipped wanted) (flipped_is wanted)
  same_is wanted place room at next ks ls _ _ _ _ vs ws locals words store memory stores held (object {k = j} thing is
      e) (object {k = k} thing' is' e') rest =
      by_condition by l m place target at next ks ls vs ws locals words store memory stores held rest
      (agree wanted (k == j)) (Calculations.alike wanted (j == k)) (alike_is wanted (j == k) (k == j)
      (eq_turned j k))

  acmpeq_is : (place : ℕ → ℕ) → JumpIs by l m place (jop.If 0xA5 target) (insns.Jump 0x68 (place target)) (Refers within
      ∷ Refers within' ∷ []) (target ∷ [])
  unfolding effect meaning
  acmpeq_is place room at next ks ls _ _ locals words store memory stores held (cell {v = v} {w = w} a
      (cell {v = v'} {w = w'} {vs = vs} {ws = ws} b rest)) =
      same_is true place room at next ks ls v w v' w' vs ws locals words store memory stores held a b rest

  pub if_acmpeq : JumpAgrees by l r m (jop.If 0xA5 target) (Refers within ∷ Refers within' ∷ []) (target ∷ [])
  if_acmpeq = jump_written by l r m (jop.If 0xA5 target) (λ place. insns.Jump 0x68 (place target)) (Refers within
      ∷ Refers within' ∷ []) (target ∷ []) (λ place. refl) acmpeq_is

  acmpne_is : (place : ℕ → ℕ) → JumpIs by l m place (jop.If 0xA6 target) (insns.Jump 0x69 (place target)) (Refers within
      ∷ Refers within' ∷ []) (target ∷ [])
  unfolding effect meaning
  acmpne_is place room at next ks ls _ _ locals words store memory stores held (cell {v = v} {w = w} a
      (cell {v = v'} {w = w'} {vs = vs} {ws = ws} b rest)) =
      same_is false place room at next ks ls v w v' w' vs ws locals words store memory stores held a b rest

  pub if_acmpne : JumpAgrees by l r m (jop.If 0xA6 target) (Refers within ∷ Refers within' ∷ []) (target ∷ [])
  if_acmpne = jump_written by l r m (jop.If 0xA6 target) (λ place. insns.Jump 0x69 (place target)) (Refers within
      ∷ Refers within' ∷ []) (target ∷ []) (λ place. refl) acmpne_is

-- ---- returns

-- a row for the instruction that is written
abbrev ReturnIs : Linked → Named → Method → JOp → NInsn → (kinds : List Kind) → Type 0
ReturnIs by l m op insn kinds =
    (room at next : ℕ) (ks : List Kind) (vs ws : List Value) (locals words : List (Option Value)) (store : Store)
    (memory : NMemory) →
    Stacks memory.heap (kinds ++ ks) vs ws →
    Returns memory.heap kinds (effect by m at locals store op vs) (narrow.effect (classes l) (operation insn) room next
    words memory ws)

return_written : (by : Linked) (l : Named) (r : Resolution) (m : Method) (op : JOp) (one : NInsn) (kinds : List Kind)
    → ((place : ℕ → ℕ) → written r place op ≡ one ∷ []) → ReturnIs by l m op one kinds → ReturnAgrees by l r m op kinds
return_written by l r m op one kinds is row place insn e = subst (λ i. ReturnIs by l m op i kinds) (let f = is place
    in let g : one ≡ insn = cc in g) row

module _ (by : Linked) (l : Named) (r : Resolution) (m : Method) where
  number_leaves : (s : Span) → ReturnIs by l m (jop.Return 0xAC) (insns.Op 0x78) (Range s ∷ [])
  unfolding effect meaning
  number_leaves s room at next ks _ _ locals words store memory (cell (number e h) rest) = leaves (result (number e h))

  pub ireturn : (s : Span) → ReturnAgrees by l r m (jop.Return 0xAC) (Range s ∷ [])
  ireturn s = return_written by l r m (jop.Return 0xAC) (insns.Op 0x78) (Range s ∷ []) (λ place. refl) (number_leaves s)

  reference_leaves : (within : Shape (List ℕ) → Bool) → ReturnIs by l m (jop.Return 0xB0) (insns.Op 0x77) (Refers within
      ∷ [])
  unfolding effect meaning
  reference_leaves within room at next ks _ _ locals words store memory (cell null rest) = leaves (result null)
  reference_leaves within room at next ks _ _ locals words store memory (cell (object thing is e) rest) =
      leaves (result (object thing is e))

  pub areturn : (within : Shape (List ℕ) → Bool) → ReturnAgrees by l r m (jop.Return 0xB0) (Refers within ∷ [])
  areturn within = return_written by l r m (jop.Return 0xB0) (insns.Op 0x77) (Refers within ∷ []) (λ place. refl)
      (reference_leaves within)

  nothing_leaves : ReturnIs by l m (jop.Return 0xB1) (insns.Op 0x7A) []
  unfolding effect meaning
  nothing_leaves room at next ks vs ws locals words store memory rest = leaves no_result

  pub returns : ReturnAgrees by l r m (jop.Return 0xB1) []
  returns = return_written by l r m (jop.Return 0xB1) (insns.Op 0x7A) [] (λ place. refl) nothing_leaves
