use Rattle.std.proofs.Common.{◌≡◌, drop}
use Rattle.std.specs.Prelude.{◌&&◌}
use Rattle.std.specs.List.{list_any}
use Rattle.cjc_world.specs.Working.Known.{class_of}
use Rattle.cjc_world.specs.Lookup.{is_called}
use Rattle.cjc_subset.specs.Overriding.{hides_one, is_out_of_sight}
use Rattle.cjc_subset.proofs.overriding.hides_one.Given as goal

abbrev pub invariant-loop-place : goal.invariant-loop-place
invariant-loop-place l = list_any (λ k. is_called l.name l.desc k && is_out_of_sight (class_of l.known).is_imported
    l.flags k.flags) (drop l.place (class_of l.known).methods) ≡ hides_one (class_of l.known) l.flags l.name l.desc
