use Rattle.cjc_narrow.specs.Select.Working.Names.{resolution_of}
use Rattle.cjc_int_narrow.proofs.Whole.{assembled}
use Rattle.cjc_int_narrow.proofs.method.method_by.Goals as goal

pub returns : goal.returns
returns c = assembled c.args.frame.now (resolution_of c.args.names.now) c.args.code.now c.args.insns.now
    c.args.befores.now _ _ c.in_ok-places.ensures c.in_ok-narrow.ensures
