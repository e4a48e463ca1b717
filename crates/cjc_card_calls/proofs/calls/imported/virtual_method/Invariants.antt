use Rattle.std.proofs.Common.{◌≡◌, drop}
use Rattle.std.specs.Prelude.{◌==◌, ◌&&◌}
use Rattle.std.specs.List.{find}
use Rattle.cjc_card_semantics.specs.ExportFile.Supers.{is_virtual}
use Rattle.cjc_card_calls.proofs.calls.imported.virtual_method.Given as goal

abbrev pub invariant-loop-method : goal.invariant-loop-method
invariant-loop-method l =
    let class = l.class in
    find (λ m. is_virtual m && (m.token == l.token)) (drop l.method-index class.methods) ≡ find (λ m. is_virtual m
    && (m.token == l.token)) class.methods
