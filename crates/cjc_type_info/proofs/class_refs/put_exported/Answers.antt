use Rattle.std.proofs.Common.{ap, ◌∙◌, None, Some}
use Rattle.std.specs.Prelude.{if◌then◌else◌}
use Rattle.std.specs.Str.{bytes_eq}
use Rattle.indexmap.specs.IndexMap.{get}
use Rattle.cjc_capread.specs.declared.tree.ClassRef.TheVariants.{Outside}
use Rattle.cjc_type_info.specs.Working.Refs.{or_else}
use Rattle.cjc_type_info.proofs.Kept.{exported_all, exported_more}
use Rattle.cjc_type_info.proofs.class_refs.put_exported.Goals as goal

pub loop-class-preserved : goal.loop-class-preserved
loop-class-preserved c = λ x.
    let class = c.class-item.result in
    exported_more c.args.file c.args.classes.now c.loop-class.class-index class x _ _ _ c.loop-class-test.true c.class-item.is
    (c.in_ok-put_ref.ensures x ∙ ap (λ n. or_else (get bytes_eq c.loop-class.refs x) (if bytes_eq n x then Some (Outside c.args.file class.token) else None)) c.items.ensures)
    (c.loop-class.invariant x)

pub returns : goal.returns
returns c = λ x. exported_all c.args.file c.args.classes.now c.loop-class.class-index x _ _ c.loop-class-test.false (c.loop-class.invariant x)
