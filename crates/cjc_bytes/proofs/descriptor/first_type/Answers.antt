use Rattle.std.proofs.Common.{sym, ◌∙◌, arith}
use Rattle.cjc_bytes.proofs.DescriptorTypes.{between, goes, runs_out}
use Rattle.cjc_bytes.proofs.descriptor.first_type.Goals as goal
use Rattle.cjc_bytes.proofs.descriptor.first_type.Goals.{in-Between, in-Inside}

pub loop-at-preserved : goal.loop-at-preserved
loop-at-preserved c = elim c.match-role_in_type.branch [
  | in-Between w ↦ rw (w.start-is, w.in_name-is) (record {
    begun = omega arith;
    same = between c.args.bytes.now c.loop-at.start c.loop-at.at 0 c.loop-at.in_name _ (sym c.role_in_type.ensures
        ∙ w.in-Between.is) c.loop-at-test.true c.loop-at.invariant.same;
  })
  | in-Inside w ↦ rw (w.start-is, w.in_name-is) (record {
    begun = omega arith;
    same = goes c.args.bytes.now c.loop-at.start c.loop-at.at 0 c.loop-at.in_name w.in-Inside.is_open _
        (sym c.role_in_type.ensures ∙ w.in-Inside.is) c.loop-at-test.true c.loop-at.invariant.begun
        c.loop-at.invariant.same;
  })
]

pub returns : goal.returns
returns c = runs_out c.args.bytes.now _ c.loop-at.in_name c.loop-at.at c.requires c.loop-at-test.false
    c.loop-at.invariant.same
