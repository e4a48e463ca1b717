-- One place more is marked.
use Rattle.std.proofs.Common.{◌≡◌, ◌<◌, ◌+◌, ℕ, Bool, List, length, drop, get_or, Option, sym, ◌∙◌, ap}
use Rattle.std.proofs.lemmas.List.{drop_more}
use Rattle.cjc_code.specs.declared.insn.JInsn.{JInsn}
use Rattle.cjc_types.specs.Flow.{place_at}
use Rattle.cjc_types.specs.Working.Marking.{with_mark, with_offsets}

pub offsets_step : (insns : List JInsn) (marked more rest : List Bool) (offsets : List ℕ) (k : ℕ) (place : Option ℕ)
    → k < length offsets → place ≡ place_at insns (get_or offsets k 0) → more ≡ with_mark marked place
    → with_offsets insns marked (drop k offsets) ≡ rest → with_offsets insns more (drop (k + 1) offsets) ≡ rest
offsets_step insns marked more rest offsets k place lt is_place is_more h =
    ap (λ (m : List Bool). with_offsets insns m (drop (k + 1) offsets)) (is_more ∙ ap (with_mark marked) is_place)
    ∙ sym (ap (with_offsets insns marked) (drop_more offsets k 0 lt)) ∙ h
