-- Whether there is room, by what was counted.
use Rattle.std.proofs.Common.{◌≡◌, ℕ, ◌+◌, ◌*◌, ◌<◌, ◌≤◌, Bool, true, false, leb, List, [], ◌∷◌, length, drop}
use Rattle.std.proofs.Common.{slice_get, Option, Some, None, sym, ap, ◌∙◌, arith}
use Rattle.std.proofs.lemmas.Bool.{leb-true, leb-false}
use Rattle.std.specs.Prelude.{option_and_then}
use Rattle.cjc_subset.proofs.BytesGets.{drop_at}
use Rattle.cjc_flow.specs.Bytecode.declared.insn.JInsn.{JInsn}
use Rattle.cjc_flow.specs.LowerTypes.declared.state.State.{State}
use Rattle.cjc_flow.specs.LowerTypes.Flow.{Body}
use Rattle.cjc_int_mode.specs.declared.modes.Mode.{Mode}
use Rattle.cjc_int_mode.specs.declared.modes.Mode.TheVariants as modes
use Rattle.cjc_int_mode.specs.Written.{argument_words, stack_words}
use Rattle.cjc_int_mode.specs.Room.{LacksRoom, many_arguments, many_words, high_stack, an_unusable_cell, IsRoom}
use Rattle.cjc_int_mode.specs.Working.Pairs.{pairs_at, pairs_from}
use Rattle.cjc_int_mode.proofs.Pairs.{greatest, usable, unusable}

-- ---- the loop over instructions

module _ (insns : List JInsn) (rows : List (Option State)) (k : ℕ) (i : JInsn) (row : Option State)
    (is : slice_get insns k ≡ Some i) (is_row : slice_get rows k ≡ Some row) (pairs : ℕ) (total : Option ℕ)
    (so_far : pairs_from pairs (drop k insns) (drop k rows) ≡ total) where
  opened : option_and_then (λ more. pairs_from more (drop (k + 1) insns) (drop (k + 1) rows)) (pairs_at pairs i.op row)
      ≡ total
  opened =
      sym (ap (λ (is : List JInsn). pairs_from pairs is (drop k rows)) (drop_at insns k i is)
      ∙ ap (λ (rs : List (Option State)). pairs_from pairs (i ∷ drop (k + 1) insns) rs) (drop_at rows k row is_row))
      ∙ so_far

  pub counted_on : (more : ℕ) → pairs_at pairs i.op row ≡ Some more
      → pairs_from more (drop (k + 1) insns) (drop (k + 1) rows) ≡ total
  counted_on more here =
      sym (ap (option_and_then (λ more. pairs_from more (drop (k + 1) insns) (drop (k + 1) rows))) here) ∙ opened

  pub none_counted : pairs_at pairs i.op row ≡ None → None ≡ total
  none_counted here =
      sym (ap (option_and_then (λ more. pairs_from more (drop (k + 1) insns) (drop (k + 1) rows))) here) ∙ opened

pub counted_end : (insns : List JInsn) (rows : List (Option State)) (pairs : ℕ) (total : Option ℕ) → insns ≡ []
    → pairs_from pairs insns rows ≡ total → Some pairs ≡ total
counted_end insns rows pairs total none so_far = sym (ap (λ (is : List JInsn). pairs_from pairs is rows) none) ∙ so_far

-- ---- answers

module _ (b : Body) (rows : List (Option State)) where
  pub too_high : (n : ℕ) → n ≡ b.max_stack → 255 < 2 * n + 4 → IsRoom b rows modes.Int false
  too_high n is gt = high_stack (omega (arith, is, gt))

  pub not_usable : None ≡ pairs_from 0 b.insns rows → IsRoom b rows modes.Int false
  not_usable e = let at = unusable 0 b.insns rows (sym e) in an_unusable_cell at.0 at.1 at.2 at.3 at.4

  lacks_none : (pairs : ℕ) → pairs_from 0 b.insns rows ≡ Some pairs → length rows ≡ length b.insns
      → argument_words b ≤ 255 → stack_words b ≤ 255 → argument_words b + (2 * b.max_locals + 2 * pairs) ≤ 255
      → (mode : Mode) → LacksRoom b rows mode → ⊥
  lacks_none pairs e sized few high le mode (many_arguments gt) = omega (arith, few, gt)
  lacks_none pairs e sized few high le _ (many_words gt) =
      let most = greatest 0 b.insns rows pairs e in omega (arith, most, le, gt)
  lacks_none pairs e sized few high le _ (high_stack gt) = omega (arith, high, gt)
  lacks_none pairs e sized few high le _ (an_unusable_cell place k x row at) = usable 0 b.insns rows pairs e
      (omega (arith, sized)) place k x row at

  pub room_or_not : (pairs words n locals : ℕ) (answer : Bool) → Some pairs ≡ pairs_from 0 b.insns rows
      → length rows ≡ length b.insns → words ≡ argument_words b → words ≤ 255 → n ≡ b.max_stack → 2 * n + 4 ≤ 255
      → locals ≡ b.max_locals → answer ≡ leb (words + (2 * locals + 2 * pairs)) 255 → IsRoom b rows modes.Int answer
  room_or_not pairs words n locals true e sized is_words few is_stack high is_locals is =
      let le : words + (2 * locals + 2 * pairs) ≤ 255 = leb-true _ _ (sym is) in
      lacks_none pairs (sym e) sized (omega (arith, is_words, few)) (omega (arith, is_stack, high))
      (omega (arith, is_words, is_locals, le)) modes.Int
  room_or_not pairs words n locals false e sized is_words few is_stack high is_locals is =
      let gt : 255 < words + (2 * locals + 2 * pairs) = leb-false _ _ (sym is) in
      let most = greatest 0 b.insns rows pairs (sym e) in
      many_words (omega (arith, is_words, is_locals, most, gt))

  short_lacks : argument_words b ≤ 255 → LacksRoom b rows modes.Short → ⊥
  short_lacks few (many_arguments gt) = omega (arith, few, gt)

  pub short_room : (words : ℕ) → words ≡ argument_words b → words ≤ 255 → IsRoom b rows modes.Short true
  short_room words is few h = short_lacks (omega (arith, is, few)) h

  pub too_many : (mode : Mode) (words : ℕ) → words ≡ argument_words b → 255 < words → IsRoom b rows mode false
  too_many mode words is gt = many_arguments (omega (arith, is, gt))
