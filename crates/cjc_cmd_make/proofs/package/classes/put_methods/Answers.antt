use Rattle.std.proofs.lemmas.Result.{on_ok_weaker}
use Rattle.cjc_cmd_make.specs.Package.ClassFile.{method_bytes}
use Rattle.cjc_cmd_make.specs.Package.Classes.{constructor, mixes, calls}
use Rattle.cjc_cmd_make.proofs.PackageLaws.Written.{three_put}
use Rattle.cjc_cmd_make.proofs.package.classes.put_methods.Goals as goal

pub returns : goal.returns
returns c =
    on_ok_weaker c.put_calls.result (
    λ more.
    three_put method_bytes c.args.out.now c.put_constructor.new.out c.put_mixes.new.out c.put_calls.new.out constructor
    (mixes c.args.addend c.args.mask) calls
    c.in_ok-put_constructor.ensures c.in_ok-put_mixes.ensures more
    ) c.put_calls.ensures
