use Rattle.cjc_type_info.proofs.Kept.{foreign_all}
use Rattle.cjc_type_info.proofs.class_refs.put_exports.Goals as goal

pub returns : goal.returns
returns c = λ x. foreign_all c.args.exports.now c.loop-file.file x _ _ c.loop-file-test.false (c.loop-file.invariant x)
