-- What is written for instructions one after the other, and where it comes from.
use Rattle.std.proofs.Common.{◌≡◌, ℕ, ◌+◌, ◌<◌, ◌≤◌, ◌-◌, arith, sym, ap, ◌∙◌, Bool, List, [], ◌∷◌}
use Rattle.std.proofs.Common.{◌++◌, length, get_or, drop, append_assoc, append-nil}
use Rattle.std.proofs.lemmas.List.{drop_all, length-append}
use Rattle.cjc_types.specs.Bytecode.declared.insn.JInsn.{JInsn}
use Rattle.cjc_types.specs.Bytecode.declared.insn.JOp.{JOp}
use Rattle.cjc_ncode.specs.declared.narrow.NInsn.{NInsn}
use Rattle.cjc_ncode.specs.declared.narrow.PairRole.{PairRole}
use Rattle.cjc_ncode.specs.Written.{Resolution, written_as}
use Rattle.cjc_narrow.proofs.WrittenLaws.Order.{same_length_as}
use Rattle.cjc_narrow.specs.Select.Working.Code.{code_by, source_if, sources_by, written_if}
use Rattle.cjc_types.proofs.BytesGets.{from_index}

module _ (r : Resolution) (insns : List JInsn) (flags : List Bool) (roles : List PairRole) where
  pub code_next : (place : ℕ → ℕ) (out : List NInsn) (k : ℕ) (d : JInsn) (e : Bool) (f : PairRole) (total : List NInsn)
      → k < length insns → length flags ≡ length insns → length roles ≡ length insns
      → out ++ code_by r place (drop k insns) (drop k flags) (drop k roles) ≡ total
      → (let i = get_or insns k d in (out ++ written_if (get_or flags k e) (get_or roles k f) r place i.op)
      ++ code_by r place (drop (k + 1) insns) (drop (k + 1) flags) (drop (k + 1) roles) ≡ total)
  code_next place out k d e f total lt same alike so_far =
      let i = get_or insns k d in
      let is = get_or flags k e in
      let less : k < length flags = omega arith in
      let within : k < length roles = omega arith in
      append_assoc out (written_if (get_or flags k e) (get_or roles k f) r place i.op)
      (code_by r place (drop (k + 1) insns) (drop (k + 1) flags) (drop (k + 1) roles))
      ∙ ap (λ rs. out ++ code_by r place (i ∷ drop (k + 1) insns) (is ∷ drop (k + 1) flags) rs)
      (sym (from_index roles k f within))
      ∙ ap (λ fs. out ++ code_by r place (i ∷ drop (k + 1) insns) fs (drop k roles)) (sym (from_index flags k e less))
      ∙ ap (λ xs. out ++ code_by r place xs (drop k flags) (drop k roles)) (sym (from_index insns k d lt))
      ∙ so_far

  pub code_end : (place : ℕ → ℕ) (out : List NInsn) (k : ℕ) (total : List NInsn) → length insns ≤ k
      → out ++ code_by r place (drop k insns) (drop k flags) (drop k roles) ≡ total → out ≡ total
  code_end place out k total le so_far =
      sym (append-nil out) ∙ ap (λ xs. out ++ code_by r place xs (drop k flags) (drop k roles))
      (sym (drop_all k insns le)) ∙ so_far

  pub sources_next : (out : List ℕ) (k : ℕ) (d : JInsn) (e : Bool) (f : PairRole) (total : List ℕ)
      → k < length insns → length flags ≡ length insns → length roles ≡ length insns
      → out ++ sources_by r k (drop k insns) (drop k flags) (drop k roles) ≡ total
      → (let i = get_or insns k d in (out ++ source_if (get_or flags k e) (get_or roles k f) r k i.op)
      ++ sources_by r (k + 1) (drop (k + 1) insns) (drop (k + 1) flags) (drop (k + 1) roles) ≡ total)
  sources_next out k d e f total lt same alike so_far =
      let i = get_or insns k d in
      let is = get_or flags k e in
      let less : k < length flags = omega arith in
      let within : k < length roles = omega arith in
      append_assoc out (source_if (get_or flags k e) (get_or roles k f) r k i.op)
      (sources_by r (k + 1) (drop (k + 1) insns) (drop (k + 1) flags) (drop (k + 1) roles))
      ∙ ap (λ rs. out ++ sources_by r k (i ∷ drop (k + 1) insns) (is ∷ drop (k + 1) flags) rs)
      (sym (from_index roles k f within))
      ∙ ap (λ fs. out ++ sources_by r k (i ∷ drop (k + 1) insns) fs (drop k roles)) (sym (from_index flags k e less))
      ∙ ap (λ xs. out ++ sources_by r k xs (drop k flags) (drop k roles)) (sym (from_index insns k d lt))
      ∙ so_far

  pub sources_end : (out : List ℕ) (k : ℕ) (total : List ℕ) → length insns ≤ k
      → out ++ sources_by r k (drop k insns) (drop k flags) (drop k roles) ≡ total → out ≡ total
  sources_end out k total le so_far =
      sym (append-nil out) ∙ ap (λ xs. out ++ sources_by r k xs (drop k flags) (drop k roles))
      (sym (drop_all k insns le)) ∙ so_far

-- how many instructions were put
pub times_of : (r : Resolution) (place : ℕ → ℕ) (role : PairRole) (op : JOp) (before after : List NInsn)
    → after ≡ before ++ written_as role r place op
    → length after - length before ≡ length (written_as role r (λ o. 0) op)
times_of r place role op before after e =
    let long : length after ≡ length before + length (written_as role r place op) = ap length e
    ∙ length-append before (written_as role r place op) in
    let same = same_length_as r r place (λ o. 0) role op in
    omega arith
