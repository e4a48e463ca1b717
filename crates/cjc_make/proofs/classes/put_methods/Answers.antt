use Rattle.std.proofs.lemmas.Result.{on_ok_weaker}
use Rattle.cjc_make.specs.ClassFile.{method_bytes}
use Rattle.cjc_make.specs.Classes.{constructor, mixes, calls}
use Rattle.cjc_make.proofs.Written.{three_put}
use Rattle.cjc_make.proofs.classes.put_methods.Goals as goal

pub returns : goal.returns
returns c =
    on_ok_weaker c.put_calls.result (
    λ more.
    three_put method_bytes c.args.out.now c.put_constructor.new.out c.put_mixes.new.out c.put_calls.new.out constructor (mixes c.args.addend c.args.mask) calls
    c.in_ok-put_constructor.ensures c.in_ok-put_mixes.ensures more
    ) c.put_calls.ensures
