use Rattle.std.proofs.Common.{◌≡◌, ◌++◌, drop}
use Rattle.cjc_check_index.specs.Lookup.MethodStarts.{all_offsets}
use Rattle.cjc_check_index.proofs.lookup.methods.all_offsets.Given as goal

abbrev pub invariant-loop-class : goal.invariant-loop-class
invariant-loop-class l = l.offsets ++ all_offsets l.only_static l.names.parts.now.class.now
    (drop l.class-index l.classes) ≡ all_offsets l.only_static l.names.parts.now.class.now l.classes
