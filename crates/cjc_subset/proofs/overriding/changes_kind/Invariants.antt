use Rattle.std.proofs.Common.{◌≡◌, drop}
use Rattle.std.specs.Prelude.{◌&&◌}
use Rattle.std.specs.List.{list_any}
use Rattle.cjc_world.specs.Working.Known.{class_of}
use Rattle.cjc_world.specs.Lookup.{is_called}
use Rattle.cjc_subset.specs.Overriding.{changes_kind, is_of_other_kind}
use Rattle.cjc_subset.proofs.overriding.changes_kind.Given as goal

abbrev pub invariant-loop-place : goal.invariant-loop-place
invariant-loop-place l = list_any (λ k. is_called l.name l.desc k && is_of_other_kind l.flags k.flags)
    (drop l.place (class_of l.known).methods) ≡ changes_kind (class_of l.known) l.flags l.name l.desc
