-- Quotients, remainders and shifts to the right are the same where the operands are words themselves.
use Rattle.std.proofs.Common.{◌≡◌, ◌≢◌, ℕ, zero, suc, ◌+◌, ◌∷◌, [], refl, sym, ap, subst, ◌∙◌, arith, ℤ, pos, negsuc}
use Rattle.std.specs.Prelude.{int_div, int_rem}
use Rattle.std.specs.Int.{int_shr}
use Rattle.std.proofs.lemmas.Int.{ints}
use Rattle.cjc_range.specs.Words.{wide, low_word, low_byte, shift_distance, unsigned_shift}
use Rattle.cjc_range.proofs.WordsLaws.Words.{low_word-wide, low_word_same, low_byte-low_word, shift_distance-low_word}
use Rattle.cjc_range.specs.Span.{Span, Holds, Within, IsWord, short_range}
use Rattle.cjc_range.specs.Rows.{div_row, rem_row, shr_row, ushr_row, to_byte_row}
use Rattle.cjc_range.proofs.Spans.{div_holds, rem_holds, shr_holds, ushr_holds, to_byte_holds}
use Rattle.cjc_range.proofs.Bits.{word_fits}
use Rattle.cjc_range.proofs.Order.{rem_word, shr_word}
use Rattle.cjc_range.proofs.OrderBits.{ushr_word}
use Rattle.cjc_code.specs.declared.insn.JOp.TheVariants as jop
use Rattle.cjc_script.specs.declared.value.Value.TheVariants.{Num}
use Rattle.cjc_card_semantics.specs.Bytecode.Meanings.{meaning}
use Rattle.cjc_card_semantics.specs.Bytecode.Effects as narrow
use Rattle.cjc_ncode.specs.declared.narrow.NInsn.TheVariants as insns
use Rattle.cjc_ncode.specs.Written.{Resolution}
use Rattle.cjc_ncode.specs.ByLabel.{Named, classes, operation}
use Rattle.cjc_jvm_semantics.specs.Linked.{Method, Linked}
use Rattle.cjc_jvm_semantics.specs.Effects.{Arithmetic, effect}
use Rattle.cjc_narrow_proof.specs.Selection.Relation.{Range, number, cell}
use Rattle.cjc_narrow_proof.specs.Selection.Rows.{Same, RowAgrees, goes, raises}
use Rattle.cjc_narrow_proof.proofs.SelectionLaws.Plain.{RowIs, as_written, held_wide}

-- a number of 16 bits is its word
pub same_word : (s : Span) (x : ℤ) {v : ℤ} → Within s short_range → Holds s x → v ≡ low_word x → v ≡ x
same_word s x inside h e =
    let a = h.above in let b = h.below in let c = inside.low in let d = inside.high in
    e ∙ low_word_same x (omega (arith, ints)) (omega (arith, ints))

-- a distance is the same by its word
same_distance : (t : Span) (y : ℤ) {w : ℤ} → IsWord t → Holds t y → w ≡ low_word y → shift_distance w ≡ shift_distance y
same_distance t y wt h e = ap shift_distance e ∙ shift_distance-low_word y (word_fits t y wt h)

module _ (by : Linked) (l : Named) (r : Resolution) (m : Method) (s t : Span) where
  abbrev Two : ℕ → ℕ → Span → Type 0
  Two op narrow_op result = RowIs by l m (jop.Arith op) (insns.Op narrow_op) (Range t ∷ Range s ∷ []) (Range result
      ∷ [])

  div_is : Within s short_range → Within t short_range → Two 0x6C 0x47 (div_row s t)
  unfolding effect meaning
  div_is small small' room at next ks ls _ _ locals words store memory roomy stores held
      (cell (number {x = y} {y = w} ey hy) (cell {vs = vs} {ws = ws} (number {x = x} {y = v} ex hx) rest)) =
      subst (λ b. Same l (Range (div_row s t) ∷ ks) ls (at + 1) next (effect by m at locals store (jop.Arith 0x6C)
      (Num y ∷ Num x ∷ vs)) (narrow.effect (classes l) (operation (insns.Op 0x47)) room next words memory (Num b
      ∷ Num v ∷ ws))) (sym (same_word t y small' hy ey))
      (subst (λ a. Same l (Range (div_row s t) ∷ ks) ls (at + 1) next (effect by m at locals store (jop.Arith 0x6C)
      (Num y ∷ Num x ∷ vs)) (narrow.effect (classes l) (operation (insns.Op 0x47)) room next words memory (Num y
      ∷ Num a ∷ ws))) (sym (same_word s x small hx ex))
      (on_words y hy))
    where
      on_words : (y : ℤ) → Holds t y → Same l (Range (div_row s t) ∷ ks) ls (at + 1) next (effect by m at locals store
          (jop.Arith 0x6C) (Num y ∷ Num x ∷ vs)) (narrow.effect (classes l) (operation (insns.Op 0x47)) room next words
          memory (Num y ∷ Num x ∷ ws))
      on_words (pos zero) h = raises {fault = Arithmetic}
      on_words (pos (suc n)) h =
          goes (cell (number (sym (low_word-wide (int_div x (pos (suc n))))) (div_holds s t x (pos (suc n)) hx h)) rest)
          held stores
      on_words (negsuc n) h =
          goes (cell (number (sym (low_word-wide (int_div x (negsuc n)))) (div_holds s t x (negsuc n) hx h)) rest) held
          stores

  pub idiv : Within s short_range → Within t short_range → RowAgrees by l r m (jop.Arith 0x6C) (Range t ∷ Range s
      ∷ []) (Range (div_row s t) ∷ [])
  idiv small small' = as_written by l r m (jop.Arith 0x6C) (insns.Op 0x47) (Range t ∷ Range s ∷ []) (Range (div_row s t)
      ∷ []) (λ place. refl) (div_is small small')

  rem_is : IsWord s → IsWord t → Within s short_range → Within t short_range → Two 0x70 0x49 (rem_row s t)
  unfolding effect meaning
  rem_is w w' small small' room at next ks ls _ _ locals words store memory roomy stores held
      (cell (number {x = y} {y = b} ey hy) (cell {vs = vs} {ws = ws} (number {x = x} {y = a} ex hx) rest)) =
      subst (λ b. Same l (Range (rem_row s t) ∷ ks) ls (at + 1) next (effect by m at locals store (jop.Arith 0x70)
      (Num y ∷ Num x ∷ vs)) (narrow.effect (classes l) (operation (insns.Op 0x49)) room next words memory (Num b
      ∷ Num a ∷ ws))) (sym (same_word t y small' hy ey))
      (subst (λ a. Same l (Range (rem_row s t) ∷ ks) ls (at + 1) next (effect by m at locals store (jop.Arith 0x70)
      (Num y ∷ Num x ∷ vs)) (narrow.effect (classes l) (operation (insns.Op 0x49)) room next words memory (Num y
      ∷ Num a ∷ ws))) (sym (same_word s x small hx ex))
      (on_words y hy))
    where
      rem_held : (y : ℤ) → Holds t y → y ≢ pos 0 → Holds (rem_row s t) (wide (int_rem x y))
      rem_held y h some = held_wide (rem_row s t) (int_rem x y) (rem_word s t w w') (rem_holds s t x y hx h some)

      on_words : (y : ℤ) → Holds t y → Same l (Range (rem_row s t) ∷ ks) ls (at + 1) next (effect by m at locals store
          (jop.Arith 0x70) (Num y ∷ Num x ∷ vs)) (narrow.effect (classes l) (operation (insns.Op 0x49)) room next words
          memory (Num y ∷ Num x ∷ ws))
      on_words (pos zero) h = raises {fault = Arithmetic}
      on_words (pos (suc n)) h =
          goes (cell (number (sym (low_word-wide (int_rem x (pos (suc n))))) (rem_held (pos (suc n)) h (λ e. cc))) rest)
          held stores
      on_words (negsuc n) h =
          goes (cell (number (sym (low_word-wide (int_rem x (negsuc n)))) (rem_held (negsuc n) h (λ e. cc))) rest) held
          stores

  pub irem : IsWord s → IsWord t → Within s short_range → Within t short_range
      → RowAgrees by l r m (jop.Arith 0x70) (Range t ∷ Range s ∷ []) (Range (rem_row s t) ∷ [])
  irem w w' small small' = as_written by l r m (jop.Arith 0x70) (insns.Op 0x49) (Range t ∷ Range s
      ∷ []) (Range (rem_row s t) ∷ []) (λ place. refl) (rem_is w w' small small')

  shr_is : IsWord s → IsWord t → Within s short_range → Two 0x7A 0x4F (shr_row s t)
  unfolding effect meaning
  shr_is w w' small room at next ks ls _ _ locals words store memory roomy stores held
      (cell (number {x = y} {y = b} ey hy) (cell (number {x = x} {y = a} ex hx) rest)) =
      let e = ap (λ z. low_word (int_shr z (shift_distance b))) (same_word s x small hx ex)
      ∙ ap (λ d. low_word (int_shr x d)) (same_distance t y w' hy ey)
      ∙ sym (low_word-wide (int_shr x (shift_distance y))) in
      goes (cell (number e (held_wide (shr_row s t) (int_shr x (shift_distance y)) (shr_word s t w w')
      (shr_holds s t x y hx hy))) rest) held stores

  pub ishr : IsWord s → IsWord t → Within s short_range → RowAgrees by l r m (jop.Arith 0x7A) (Range t ∷ Range s
      ∷ []) (Range (shr_row s t) ∷ [])
  ishr w w' small = as_written by l r m (jop.Arith 0x7A) (insns.Op 0x4F) (Range t ∷ Range s ∷ []) (Range (shr_row s t)
      ∷ []) (λ place. refl) (shr_is w w' small)

  ushr_is : IsWord s → IsWord t → Within s short_range → Two 0x7C 0x51 (ushr_row s t)
  unfolding effect meaning
  ushr_is w w' small room at next ks ls _ _ locals words store memory roomy stores held
      (cell (number {x = y} {y = b} ey hy) (cell (number {x = x} {y = a} ex hx) rest)) =
      let e = ap (λ z. low_word (unsigned_shift z (shift_distance b))) (same_word s x small hx ex)
      ∙ ap (λ d. low_word (unsigned_shift x d)) (same_distance t y w' hy ey)
      ∙ sym (low_word-wide (unsigned_shift x (shift_distance y))) in
      goes (cell (number e (held_wide (ushr_row s t) (unsigned_shift x (shift_distance y)) (ushr_word s t w w')
      (ushr_holds s t x y (word_fits s x w hx) hx hy))) rest) held stores

  pub iushr : IsWord s → IsWord t → Within s short_range → RowAgrees by l r m (jop.Arith 0x7C) (Range t ∷ Range s
      ∷ []) (Range (ushr_row s t) ∷ [])
  iushr w w' small = as_written by l r m (jop.Arith 0x7C) (insns.Op 0x51) (Range t ∷ Range s ∷ []) (Range (ushr_row s t)
      ∷ []) (λ place. refl) (ushr_is w w' small)

module _ (by : Linked) (l : Named) (r : Resolution) (m : Method) (s : Span) where
  byte_is : RowIs by l m (jop.Narrow 0x91) (insns.Op 0x5B) (Range s ∷ []) (Range (to_byte_row s) ∷ [])
  unfolding effect meaning
  byte_is room at next ks ls _ _ locals words store memory roomy stores held (cell (number {x = x} ex hx) rest) =
      goes (cell (number (ap (λ a. low_word (low_byte a)) ex ∙ ap low_word (low_byte-low_word x))
      (to_byte_holds s x hx)) rest) held stores

  pub i2b : RowAgrees by l r m (jop.Narrow 0x91) (Range s ∷ []) (Range (to_byte_row s) ∷ [])
  i2b = as_written by l r m (jop.Narrow 0x91) (insns.Op 0x5B) (Range s ∷ []) (Range (to_byte_row s)
      ∷ []) (λ place. refl) byte_is
