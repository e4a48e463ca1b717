use Rattle.std.proofs.Common.{◌≡◌, ℕ, drop}
use Rattle.std.specs.List.{list_any}
use Rattle.cjc_types.specs.Flow.{place_at}
use Rattle.cjc_types.specs.Marks.{is_place}
use Rattle.cjc_flow.proofs.targets.leads_to.Given as goal

abbrev pub invariant-loop-offset : goal.invariant-loop-offset
invariant-loop-offset l = list_any (λ (offset : ℕ). is_place (place_at l.method.insns offset) l.at)
    (drop l.offset-index l.offsets) ≡ list_any (λ (offset : ℕ). is_place (place_at l.method.insns offset) l.at)
    l.offsets
