use Rattle.std.proofs.Common.{map}
use Rattle.cjc_world.specs.Classes.{method_of_class}
use Rattle.cjc_world.specs.Added.{without_initialiser}
use Rattle.cjc_tokens.specs.Members.{signature_of}
use Rattle.cjc_tokens.specs.Slots.{with_new}
use Rattle.cjc_tokens.specs.Working.{signs}
use Rattle.cjc_tokens.proofs.Asked.{declared-next, declared-end}
use Rattle.cjc_tokens.proofs.interfaces.put_declared.Goals as goal

pub loop-method-preserved : goal.loop-method-preserved
loop-method-preserved c =
    declared-next (signs c.loop-method.row.items) (signs c.put_method.new.row.items)
    (with_new (signs c.args.row.now.items)
    (map signature_of (without_initialiser (map method_of_class c.args.methods.now))))
    c.args.methods.now c.loop-method.method-index c.method-item.result c.items-name.result.now c.items-desc.result.now
    c.loop-method-test.true c.method-item.is c.items-name.ensures c.items-desc.ensures c.in_ok-put_method.ensures
    c.loop-method.invariant

pub returns : goal.returns
returns c =
    declared-end (signs c.loop-method.row.items) (with_new (signs c.args.row.now.items)
    (map signature_of (without_initialiser (map method_of_class c.args.methods.now)))) c.args.methods.now
    c.loop-method.method-index c.loop-method-test.false c.loop-method.invariant
