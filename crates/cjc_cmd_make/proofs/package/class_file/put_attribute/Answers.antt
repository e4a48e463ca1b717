use Rattle.std.proofs.lemmas.Result.{on_ok_weaker}
use Rattle.cjc_cmd_make.proofs.PackageLaws.Written.{attribute_put}
use Rattle.cjc_cmd_make.proofs.package.class_file.put_attribute.Goals as goal

pub returns : goal.returns
returns c =
    on_ok_weaker c.put_code_bytes.result (
    λ more. attribute_put c.args.code.now c.args.out.now c.put_code_front.new.out c.put_code_bytes.new.out
    c.args.bytes.now c.requires c.in_ok-put_code_front.ensures more
    ) c.put_code_bytes.ensures
