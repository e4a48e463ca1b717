use Rattle.std.proofs.Common.{◌≡◌, drop}
use Rattle.std.specs.List.{list_any}
use Rattle.cjc_types.specs.ClassFile.declared.tree.Catch.{Catch}
use Rattle.cjc_types.specs.Flow.{place_at}
use Rattle.cjc_types.specs.Marks.{is_place}
use Rattle.cjc_flow.proofs.targets.is_handler.Given as goal

abbrev pub invariant-loop-catch : goal.invariant-loop-catch
invariant-loop-catch l = list_any (λ (c : Catch). is_place (place_at l.method.insns c.target) l.at)
    (drop l.catch-index l.catch-items) ≡ list_any (λ (c : Catch). is_place (place_at l.method.insns c.target) l.at)
    l.method.catches
