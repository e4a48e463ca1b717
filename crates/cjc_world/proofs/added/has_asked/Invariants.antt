use Rattle.std.proofs.Common.{◌≡◌, ◌-◌}
use Rattle.cjc_world.specs.Added.{is_one_of, own_methods}
use Rattle.cjc_world.specs.Working.Asked.{asked_from}
use Rattle.cjc_world.specs.Working.Known.{class_of}
use Rattle.cjc_world.proofs.added.has_asked.Given as goal

abbrev pub invariant-loop-position : goal.invariant-loop-position
invariant-loop-position l = is_one_of (asked_from (class_of l.class) l.position (l.position-end - l.position)) l.name
    l.desc ≡ is_one_of (own_methods (class_of l.class)) l.name l.desc
