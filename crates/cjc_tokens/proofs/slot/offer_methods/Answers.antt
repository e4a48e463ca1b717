use Rattle.std.proofs.Common.{◌∙◌, sym, ap}
use Rattle.cjc_tokens.specs.Working.{is_kind, is_of_kind}
use Rattle.cjc_tokens.proofs.Offers.{methods-more, methods-same}
use Rattle.cjc_tokens.proofs.slot.offer_methods.Goals as goal
use Rattle.cjc_tokens.proofs.slot.offer_methods.Goals.{then-is_of_kind+in_ok-put_new, else-is_of_kind}
use Rattle.cjc_bytes.proofs.Gets.{take_past}

pub loop-method-preserved : goal.loop-method-preserved
loop-method-preserved c = elim c.if-is_of_kind.branch [
  | then-is_of_kind+in_ok-put_new w ↦ rw (
    w.row-is,
    methods-more (is_of_kind c.args.hidden)
        c.items-method-items.result.now c.loop-method.method-index c.method-item.result c.items-name.result.now
        c.items-desc.result.now c.loop-method-test.true c.method-item.is c.items-name.ensures c.items-desc.ensures
        (ap (is_kind c.args.hidden c.method-item.result.flags) (sym c.items-name.ensures) ∙ sym c.is_of_kind.ensures
        ∙ w.if-is_of_kind.true),
  )
      (w.in_ok-put_new.ensures _ _ _ c.loop-method.invariant w.own-found.ensures)
  | else-is_of_kind w ↦ rw (
    w.row-is,
    methods-same (is_of_kind c.args.hidden) c.items-method-items.result.now
        c.loop-method.method-index c.method-item.result c.loop-method-test.true c.method-item.is
        (ap (is_kind c.args.hidden c.method-item.result.flags) (sym c.items-name.ensures) ∙ sym c.is_of_kind.ensures
        ∙ w.if-is_of_kind.false),
  ) c.loop-method.invariant
]

pub returns : goal.returns
returns c = rw (
  take_past c.items-method-items.result.now c.loop-method.method-index c.loop-method-test.false,
  c.items-method-items.ensures,
) at c.loop-method.invariant
