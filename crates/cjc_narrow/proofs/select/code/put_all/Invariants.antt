use Rattle.std.proofs.Common.{◌≡◌, ◌++◌, drop}
use Rattle.cjc_narrow.specs.Written.Labels.{place_of}
use Rattle.cjc_narrow.specs.Select.Working.Code.{code_by, sources_by}
use Rattle.cjc_narrow.specs.Select.Working.Names.{resolution_of}
use Rattle.cjc_narrow.proofs.select.code.put_all.Given as goal

abbrev pub invariant-loop-k : goal.invariant-loop-k
invariant-loop-k l =
    let r = resolution_of l.names in
    record {
      insns : l.out ++ code_by r (place_of l.places) (drop l.k l.insns) (drop l.k l.reaches) (drop l.k l.roles)
          ≡ l.fn.out
          ++ code_by r (place_of l.places) l.insns l.reaches l.roles;
      from : l.from ++ sources_by r l.k (drop l.k l.insns) (drop l.k l.reaches) (drop l.k l.roles) ≡ l.fn.from
          ++ sources_by r 0 l.insns l.reaches l.roles;
    }
