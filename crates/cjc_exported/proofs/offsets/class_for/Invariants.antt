use Rattle.std.proofs.Common.{◌≡◌, ◌==◌, drop}
use Rattle.std.specs.Prelude.{◌&&◌}
use Rattle.std.specs.List.{find}
use Rattle.cjc_capread.specs.ClassRefs.{is_inside}
use Rattle.cjc_exported.proofs.offsets.class_for.Given as goal

abbrev pub invariant-loop-class : goal.invariant-loop-class
invariant-loop-class l = find (λ d. d.token == l.token && is_inside d.this_class l.offset) (drop l.class-index l.classes) ≡ find (λ d. d.token == l.token && is_inside d.this_class l.offset) l.classes
