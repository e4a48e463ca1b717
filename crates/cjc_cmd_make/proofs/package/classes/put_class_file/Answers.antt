use Rattle.std.proofs.lemmas.Result.{on_ok_weaker}
use Rattle.cjc_cmd_make.proofs.PackageLaws.Written.{file_put}
use Rattle.cjc_cmd_make.proofs.package.classes.put_class_file.Goals as goal

pub returns : goal.returns
returns c =
    on_ok_weaker c.put2.result (
    λ more.
    file_put c.args.name.now c.args.superclass.now c.args.addend c.args.mask c.args.out.now c.put_top.new.out
    c.put_methods.new.out c.put2.new.self
    c.in_ok-put_top.ensures c.in_ok-put_methods.ensures more
    ) c.put2.ensures.ok
