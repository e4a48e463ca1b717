-- Instructions that see the stack alone do the same on words as on numbers.
use Rattle.std.proofs.Common.{◌≡◌, ℕ, ◌+◌, ◌^◌, List, ◌∷◌, [], ◌++◌, refl, sym, ap, subst, ◌∙◌, ℤ, neg_ℤ, ◌+ℤ◌, ◌-ℤ◌}
use Rattle.std.proofs.Common.{◌*ℤ◌, pos}
use Rattle.std.specs.Prelude.{Option}
use Rattle.std.specs.Int.{w16, w32, int_bit_and, int_bit_or, int_bit_xor}
use Rattle.cjc_range.specs.Words.{wide, low_word, shift_distance}
use Rattle.cjc_range.proofs.WordsLaws.Words.{low_word-wide, low_word-add, low_word-sub, low_word-mul, low_word-neg}
use Rattle.cjc_range.proofs.WordsLaws.Words.{low_word-shl, low_word-and, low_word-or, low_word-xor, low_word_fits}
use Rattle.cjc_range.proofs.WordsLaws.Words.{low_word_fixed, wide_fixed, shift_distance-low_word}
use Rattle.cjc_range.specs.Span.{Span, Holds, IsWord}
use Rattle.cjc_range.specs.Rows.{add_row, sub_row, mul_row, neg_row, shl_row, and_row, or_row}
use Rattle.cjc_range.proofs.Spans.{add_holds, sub_holds, mul_holds, neg_holds, shl_holds}
use Rattle.cjc_range.proofs.Bits.{word_fits, and_holds, or_holds, xor_holds, and_row_fits, or_row_fits}
use Rattle.cjc_range.proofs.OrderBits.{and_word, or_word}
use Rattle.cjc_code.specs.declared.insn.JOp.{JOp}
use Rattle.cjc_code.specs.declared.insn.JOp.TheVariants as jop
use Rattle.cjc_script.specs.declared.value.Value.{Value}
use Rattle.cjc_card_semantics.specs.Bytecode.Meanings.{meaning}
use Rattle.cjc_card_semantics.specs.Bytecode.Effects as narrow
use Rattle.cjc_ncode.specs.declared.narrow.NInsn.{NInsn}
use Rattle.cjc_ncode.specs.declared.narrow.NInsn.TheVariants as insns
use Rattle.cjc_ncode.specs.Written.{Resolution, written}
use Rattle.cjc_ncode.specs.ByLabel.{Named, classes, operation}
use Rattle.cjc_jvm_semantics.specs.Linked.{Method, Linked}
use Rattle.cjc_jvm_semantics.specs.Effects.{Store, effect}
use Rattle.cjc_narrow_proof.specs.Selection.Relation.{Kind, NMemory, Stacks, Locals, Stores, Range, number, cell}
use Rattle.cjc_narrow_proof.specs.Selection.Rows.{HasRoom, Same, RowAgrees, goes}

-- a row for the instruction that is written
abbrev pub RowIs : Linked → Named → Method → JOp → NInsn → (before after : List Kind) → Type 0
RowIs by l m op insn before after =
    (room at next : ℕ) (ks ls : List Kind) (vs ws : List Value) (locals words : List (Option Value)) (store : Store)
    (memory : NMemory) →
    HasRoom (after ++ ks) m.max_stack room → Stores l store memory → Locals memory.heap ls locals words
    → Stacks memory.heap (before ++ ks) vs ws →
    Same l (after ++ ks) ls (at + 1) next (effect by m at locals store op vs) (narrow.effect (classes l)
    (operation insn) room next words memory ws)

pub as_written : (by : Linked) (l : Named) (r : Resolution) (m : Method) (op : JOp) (one : NInsn) (before after :
    List Kind) → ((place : ℕ → ℕ) → written r place op ≡ one ∷ []) → RowIs by l m op one before after
    → RowAgrees by l r m op before after
as_written by l r m op one before after is row place insn e =
    subst (λ i. RowIs by l m op i before after) (let f = is place in let g : one ≡ insn = cc in g) row

-- both operands are exchanged
pub of_both : (f : ℤ → ℤ → ℤ) (x y : ℤ) {v w z : ℤ} → v ≡ low_word x → w ≡ low_word y → f (low_word x) (low_word y) ≡ z
    → f v w ≡ z
of_both f x y {v = v} ex ey e = ap (f v) ey ∙ ap (λ z. f z (low_word y)) ex ∙ e

-- what fits a word of a result is the low word of it
cut_twice : (a z : ℤ) → a ≡ low_word z → low_word a ≡ low_word (wide z)
cut_twice a z e = ap low_word e ∙ low_word_fixed (low_word z) (low_word_fits z) ∙ sym (low_word-wide z)

-- a number of 32 bits is left as it is
pub held_wide : (s : Span) (z : ℤ) → IsWord s → Holds s z → Holds s (wide z)
held_wide s z w h = subst (Holds s) (sym (wide_fixed z (word_fits s z w h))) h

module _ (by : Linked) (l : Named) (r : Resolution) (m : Method) (s t : Span) where
  abbrev Two : ℕ → ℕ → Span → Type 0
  Two op narrow_op result = RowIs by l m (jop.Arith op) (insns.Op narrow_op) (Range t ∷ Range s ∷ []) (Range result
      ∷ [])

  add_is : Two 0x60 0x41 (add_row s t)
  unfolding effect meaning
  add_is room at next ks ls _ _ locals words store memory roomy stores held (cell (number {x = y} ey hy)
      (cell (number {x = x} ex hx) rest)) =
      goes (cell (number (of_both (λ a b. low_word (a +ℤ b)) x y ex ey (low_word-add x y)) (add_holds s t x y hx hy))
      rest) held stores

  pub iadd : RowAgrees by l r m (jop.Arith 0x60) (Range t ∷ Range s ∷ []) (Range (add_row s t) ∷ [])
  iadd = as_written by l r m (jop.Arith 0x60) (insns.Op 0x41) (Range t ∷ Range s ∷ []) (Range (add_row s t)
      ∷ []) (λ place. refl) add_is

  sub_is : Two 0x64 0x43 (sub_row s t)
  unfolding effect meaning
  sub_is room at next ks ls _ _ locals words store memory roomy stores held (cell (number {x = y} ey hy)
      (cell (number {x = x} ex hx) rest)) =
      goes (cell (number (of_both (λ a b. low_word (a -ℤ b)) x y ex ey (low_word-sub x y)) (sub_holds s t x y hx hy))
      rest) held stores

  pub isub : RowAgrees by l r m (jop.Arith 0x64) (Range t ∷ Range s ∷ []) (Range (sub_row s t) ∷ [])
  isub = as_written by l r m (jop.Arith 0x64) (insns.Op 0x43) (Range t ∷ Range s ∷ []) (Range (sub_row s t)
      ∷ []) (λ place. refl) sub_is

  mul_is : Two 0x68 0x45 (mul_row s t)
  unfolding effect meaning
  mul_is room at next ks ls _ _ locals words store memory roomy stores held (cell (number {x = y} ey hy)
      (cell (number {x = x} ex hx) rest)) =
      goes (cell (number (of_both (λ a b. low_word (a *ℤ b)) x y ex ey (low_word-mul x y)) (mul_holds s t x y hx hy))
      rest) held stores

  pub imul : RowAgrees by l r m (jop.Arith 0x68) (Range t ∷ Range s ∷ []) (Range (mul_row s t) ∷ [])
  imul = as_written by l r m (jop.Arith 0x68) (insns.Op 0x45) (Range t ∷ Range s ∷ []) (Range (mul_row s t)
      ∷ []) (λ place. refl) mul_is

  shl_is : IsWord t → Two 0x78 0x4D (shl_row s t)
  unfolding effect meaning
  shl_is wt room at next ks ls _ _ locals words store memory roomy stores held (cell (number {x = y} ey hy)
      (cell (number {x = x} ex hx) rest)) =
      let e : low_word (low_word x *ℤ pos (2 ^ shift_distance (low_word y)))
      ≡ low_word (wide (x *ℤ pos (2 ^ shift_distance y))) =
      ap (λ d. low_word (low_word x *ℤ pos (2 ^ d))) (shift_distance-low_word y (word_fits t y wt hy))
      ∙ low_word-shl x (shift_distance y) in
      goes (cell (number (of_both (λ a b. low_word (a *ℤ pos (2 ^ shift_distance b))) x y ex ey e)
      (shl_holds s t x y hx hy)) rest) held stores

  pub ishl : IsWord t → RowAgrees by l r m (jop.Arith 0x78) (Range t ∷ Range s ∷ []) (Range (shl_row s t) ∷ [])
  ishl wt = as_written by l r m (jop.Arith 0x78) (insns.Op 0x4D) (Range t ∷ Range s ∷ []) (Range (shl_row s t)
      ∷ []) (λ place. refl) (shl_is wt)

  and_is : IsWord s → IsWord t → Two 0x7E 0x53 (and_row s t)
  unfolding effect meaning
  and_is ws wt room at next ks ls _ _ locals words store memory roomy stores held (cell (number {x = y} ey hy)
      (cell (number {x = x} ex hx) rest)) =
      let e = cut_twice (int_bit_and w16 (low_word x) (low_word y)) (int_bit_and w32 x y)
      (low_word-and x y (word_fits s x ws hx) (word_fits t y wt hy)) in
      let h = and_holds s t (and_row s t) x y ws wt (and_row_fits s t ws wt) hx hy in
      goes (cell (number (of_both (λ a b. low_word (int_bit_and w16 a b)) x y ex ey e) (held_wide (and_row s t)
      (int_bit_and w32 x y) (and_word s t ws wt) h)) rest) held stores

  pub iand : IsWord s → IsWord t → RowAgrees by l r m (jop.Arith 0x7E) (Range t ∷ Range s ∷ []) (Range (and_row s t)
      ∷ [])
  iand ws wt = as_written by l r m (jop.Arith 0x7E) (insns.Op 0x53) (Range t ∷ Range s ∷ []) (Range (and_row s t)
      ∷ []) (λ place. refl) (and_is ws wt)

  or_is : IsWord s → IsWord t → Two 0x80 0x55 (or_row s t)
  unfolding effect meaning
  or_is ws wt room at next ks ls _ _ locals words store memory roomy stores held (cell (number {x = y} ey hy)
      (cell (number {x = x} ex hx) rest)) =
      let e = cut_twice (int_bit_or w16 (low_word x) (low_word y)) (int_bit_or w32 x y)
      (low_word-or x y (word_fits s x ws hx) (word_fits t y wt hy)) in
      let h = or_holds s t (or_row s t) x y ws wt (or_row_fits s t ws wt) hx hy in
      goes (cell (number (of_both (λ a b. low_word (int_bit_or w16 a b)) x y ex ey e) (held_wide (or_row s t)
      (int_bit_or w32 x y) (or_word s t ws wt) h)) rest) held stores

  pub ior : IsWord s → IsWord t → RowAgrees by l r m (jop.Arith 0x80) (Range t ∷ Range s ∷ []) (Range (or_row s t) ∷ [])
  ior ws wt = as_written by l r m (jop.Arith 0x80) (insns.Op 0x55) (Range t ∷ Range s ∷ []) (Range (or_row s t)
      ∷ []) (λ place. refl) (or_is ws wt)

  xor_is : IsWord s → IsWord t → Two 0x82 0x57 (or_row s t)
  unfolding effect meaning
  xor_is ws wt room at next ks ls _ _ locals words store memory roomy stores held (cell (number {x = y} ey hy)
      (cell (number {x = x} ex hx) rest)) =
      let e = cut_twice (int_bit_xor w16 (low_word x) (low_word y)) (int_bit_xor w32 x y)
      (low_word-xor x y (word_fits s x ws hx) (word_fits t y wt hy)) in
      let h = xor_holds s t (or_row s t) x y ws wt (or_row_fits s t ws wt) hx hy in
      goes (cell (number (of_both (λ a b. low_word (int_bit_xor w16 a b)) x y ex ey e) (held_wide (or_row s t)
      (int_bit_xor w32 x y) (or_word s t ws wt) h)) rest) held stores

  pub ixor : IsWord s → IsWord t → RowAgrees by l r m (jop.Arith 0x82) (Range t ∷ Range s ∷ []) (Range (or_row s t)
      ∷ [])
  ixor ws wt = as_written by l r m (jop.Arith 0x82) (insns.Op 0x57) (Range t ∷ Range s ∷ []) (Range (or_row s t)
      ∷ []) (λ place. refl) (xor_is ws wt)

module _ (by : Linked) (l : Named) (r : Resolution) (m : Method) (s : Span) where
  neg_is : RowIs by l m (jop.Arith 0x74) (insns.Op 0x4B) (Range s ∷ []) (Range (neg_row s) ∷ [])
  unfolding effect meaning
  neg_is room at next ks ls _ _ locals words store memory roomy stores held (cell (number {x = x} ex hx) rest) =
      goes (cell (number (ap (λ a. low_word (neg_ℤ a)) ex ∙ low_word-neg x) (neg_holds s x hx)) rest) held stores

  pub ineg : RowAgrees by l r m (jop.Arith 0x74) (Range s ∷ []) (Range (neg_row s) ∷ [])
  ineg = as_written by l r m (jop.Arith 0x74) (insns.Op 0x4B) (Range s ∷ []) (Range (neg_row s) ∷ []) (λ place. refl)
      neg_is
