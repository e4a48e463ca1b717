use Rattle.std.proofs.Common.{◌≡◌, ◌∙◌, ap, map, Some}
use Rattle.std.specs.Prelude.{slice_get}
use Rattle.std.proofs.lemmas.Option.{get_or_from_slice_get}
use Rattle.cjc_world.specs.ClassFile.declared.tree.ClassTree.{ClassTree}
use Rattle.cjc_world.specs.Classes.{all_classes, declared}
use Rattle.cjc_world.specs.Added.{added, named_by}
use Rattle.cjc_bytes.proofs.Gets.{slice_get_at}
use Rattle.cjc_tokens.proofs.assigning.tokens_at.Goals as goal

pub class_tokens-requires-clause-rows : goal.class_tokens-requires-clause-rows
class_tokens-requires-clause-rows c =
    let i = c.in-Some-Some.ensures.lookup in
    let there : slice_get c.args.kept.now c.args.number ≡ Some (Some c.in-Some-Some.rows) =
    slice_get_at c.args.kept.now c.args.number c.in-Some-Some.field-0.now i.3.0 i.1
    ∙ ap (λ q. Some q) c.in-Some-Some.field-0-is in
    c.requires.kept c.args.number c.args.class.now c.in-Some-Some.rows c.requires.class there

pub class_tokens-requires-clause-added : goal.class_tokens-requires-clause-added
class_tokens-requires-clause-added c =
    let w = all_classes c.args.world.now in
    c.added_to-added.ensures c.args.class.now
    ∙ ap (λ (q : ClassTree). map (named_by q.name) (added w (declared c.args.number q))) (get_or_from_slice_get
    c.args.world.now.classes c.args.number c.args.class.now c.args.class.now c.requires.class)
