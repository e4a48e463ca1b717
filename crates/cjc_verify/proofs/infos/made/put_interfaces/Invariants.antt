use Rattle.std.proofs.Common.{◌≡◌, ◌++◌, drop}
use Rattle.cjc_classes.specs.ClassInfo.Refs.{ref_of}
use Rattle.cjc_verify.specs.WantedBy.{interfaces_by}
use Rattle.cjc_verify.proofs.infos.made.put_interfaces.Given as goal

abbrev pub invariant-loop-number : goal.invariant-loop-number
invariant-loop-number l = l.row ++ interfaces_by (ref_of l.refs) l.world (drop l.number-index l.order)
    ≡ l.fn.row ++ interfaces_by (ref_of l.refs) l.world l.order
