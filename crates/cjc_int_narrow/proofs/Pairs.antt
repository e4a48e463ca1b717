-- The greatest number of scratch pairs, one instruction after the other.
use Rattle.std.proofs.Common.{◌≡◌, ℕ, ◌+◌, ◌<◌, ◌≤◌, max, arith, refl, sym, ap, ◌∙◌, List, ◌∷◌, length, get_or, drop}
use Rattle.std.specs.Prelude.{Option, Some, None}
use Rattle.std.proofs.lemmas.List.{drop_all}
use Rattle.cjc_ncode.proofs.BytesGets.{from_index}
use Rattle.cjc_int_mode.specs.Bytecode.declared.insn.JInsn.{JInsn}
use Rattle.cjc_ncode.specs.IntCode.IntCode.{scratch_pairs}
use Rattle.cjc_int_narrow.specs.declared.known.Before.{Before}
use Rattle.cjc_int_narrow.specs.Reached.{reached_by}
use Rattle.cjc_int_narrow.specs.Working.Walks.{pairs_if}

pairs_first : (i : JInsn) (rest : List JInsn) (b : Option Before) (others : List (Option Before)) (n : ℕ)
    → max n (scratch_pairs (reached_by (i ∷ rest) (b ∷ others)))
    ≡ max (pairs_if b n i.op) (scratch_pairs (reached_by rest others))
pairs_first i rest None others n = refl
pairs_first i rest (Some b) others n = omega arith

pub pairs_next : (insns : List JInsn) (befores : List (Option Before)) (k n more total : ℕ) (d : JInsn)
    (e : Option Before) → k < length insns → length befores ≡ length insns
    → more ≡ pairs_if (get_or befores k e) n (let i = get_or insns k d in i.op)
    → max n (scratch_pairs (reached_by (drop k insns) (drop k befores))) ≡ total
    → max more (scratch_pairs (reached_by (drop (k + 1) insns) (drop (k + 1) befores))) ≡ total
pairs_next insns befores k n more total d e lt each is so_far =
    let i = get_or insns k d in
    let b = get_or befores k e in
    let rest = drop (k + 1) insns in
    let others = drop (k + 1) befores in
    let within : k < length befores = omega (arith, lt, each) in
    ap (λ (m : ℕ). max m (scratch_pairs (reached_by rest others))) is
    ∙ sym (pairs_first i rest b others n)
    ∙ ap (λ (bs : List (Option Before)). max n (scratch_pairs (reached_by (i ∷ rest) bs))) (sym (from_index befores k e
    within))
    ∙ ap (λ (xs : List JInsn). max n (scratch_pairs (reached_by xs (drop k befores)))) (sym (from_index insns k d lt))
    ∙ so_far

pub pairs_end : (insns : List JInsn) (befores : List (Option Before)) (k n total : ℕ) → length insns ≤ k
    → max n (scratch_pairs (reached_by (drop k insns) (drop k befores))) ≡ total → n ≡ total
pairs_end insns befores k n total le so_far =
    let same : n ≡ max n 0 = omega arith in
    same ∙ ap (λ (xs : List JInsn). max n (scratch_pairs (reached_by xs (drop k befores)))) (sym (drop_all k insns le))
    ∙ so_far
