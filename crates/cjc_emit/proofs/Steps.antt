-- Steps of the loop over instructions.
use Rattle.std.proofs.Common.{◌≡◌, ℕ, ◌+◌, ◌<◌, sym, ap, ◌∙◌, arith, Bool, false, List, ◌∷◌, ◌++◌}
use Rattle.std.proofs.Common.{length, get_or, drop, append_assoc}
use Rattle.std.specs.Prelude.{Option, slice_index}
use Rattle.cjc_layout.specs.Bytes.declared.fault.MemberId.{MemberId}
use Rattle.cjc_ncode.specs.declared.narrow.NInsn.{NInsn}
use Rattle.cjc_ncode.specs.declared.narrow.PoolKey.{PoolKey}
use Rattle.cjc_emit.specs.Working.{all_written, written}
use Rattle.cjc_ncode.proofs.BytesGets.{from_index}

pub step_written : (keys : List PoolKey) (token_of : MemberId → Option ℕ) (to : ℕ
    → ℕ) (places : List ℕ) (insns : List NInsn) (wide : List Bool) (k : ℕ) (i : NInsn) (front now old : List ℕ)
    → k < length insns → length wide ≡ length insns → i ≡ get_or insns k i
    → front ++ all_written keys token_of to places k (drop k insns) (drop k wide) ≡ old → now ≡ front
    ++ written keys token_of to (slice_index places k) (get_or wide k false) i
    → now ++ all_written keys token_of to places (k + 1) (drop (k + 1) insns) (drop (k + 1) wide) ≡ old
step_written keys token_of to places insns wide k i front now old h count is e f =
    let w = get_or wide k false in
    let this = written keys token_of to (slice_index places k) w i in
    let rest = all_written keys token_of to places (k + 1) (drop (k + 1) insns) (drop (k + 1) wide) in
    let a : drop k insns ≡ i ∷ drop (k + 1) insns = from_index insns k i h ∙ ap (λ x. x ∷ drop (k + 1) insns)
    (sym is) in
    let b : drop k wide ≡ w ∷ drop (k + 1) wide = from_index wide k false (omega arith) in
    let whole : front ++ (this ++ rest) ≡ old =
    ap (λ ws. front ++ all_written keys token_of to places k (i ∷ drop (k + 1) insns) ws) (sym b)
    ∙ ap (λ is. front ++ all_written keys token_of to places k is (drop k wide)) (sym a) ∙ e in
    ap (λ xs. xs ++ rest) f ∙ append_assoc front this rest ∙ whole
