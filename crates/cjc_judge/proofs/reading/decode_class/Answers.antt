use Rattle.cjc_judge.proofs.Decoding.{stands, some_code, no_code, step_abstract, step_code, all_read}
use Rattle.cjc_judge.proofs.reading.decode_class.Goals as goal
use Rattle.cjc_judge.proofs.reading.decode_class.Goals.{then-is_some+in_ok-decode_method, else-is_some}

pub loop-method-preserved : goal.loop-method-preserved
loop-method-preserved c =
    let here = stands c.args.class.now _ _ _ c.items-tree-items.ensures c.loop-method-test.true c.tree-item.is in
    elim c.if-is_some.branch [
      | then-is_some+in_ok-decode_method w ↦ (
          let code = some_code _ _ c.is_some.ensures w.if-is_some.true in
          rw (w.codes-is, w.unsupported_insns-is) (step_code _ _ _ _ here c.args.file.now code.0 _ _ _ _ _ _ code.1
          c.loop-method.invariant w.in_ok-decode_method.ensures))
      | else-is_some w ↦ rw (w.codes-is, w.unsupported_insns-is) (step_abstract _ _ _ _ here _ _ _ _
          (no_code _ _ c.is_some.ensures w.if-is_some.false) c.loop-method.invariant)
    ]

pub returns : goal.returns
returns c = all_read c.args.file.now c.args.number c.args.class.now _ _ _ _ _ _ c.items-tree-items.ensures
    c.loop-method-test.false c.loop-method.auto.method-end c.loop-method.invariant
