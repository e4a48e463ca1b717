use Rattle.std.proofs.Common.{◌≡◌, ◌∙◌, ap, sym, map, subst, get_or, [], ◌∷◌}
use Rattle.std.specs.Prelude.{IfOk}
use Rattle.cjc_world.specs.ClassFile.declared.tree.ClassTree.{ClassTree}
use Rattle.cjc_world.specs.Classes.{all_classes, declared}
use Rattle.cjc_world.specs.Supertypes.{supertypes}
use Rattle.cjc_world.specs.Added.{added, named_by}
use Rattle.cjc_tokens.specs.Lines.{Declared, line_in}
use Rattle.cjc_tokens.specs.Working.{AreRowsOf}
use Rattle.cjc_tokens.proofs.Walks.{got-same}
use Rattle.cjc_tokens.proofs.line.class_rows.Goals as goal

pub returns : goal.returns
returns c = λ t there.
    let w = all_classes c.args.world.now in
    let n = c.args.number in
    let x = c.index-items-number.result in
    let at : x ≡ get_or c.args.world.now.classes n x = c.index-items-number.is ∙ ap (λ q. get_or q n x) (c.items.ensures
    ∙ c.classes.ensures) in
    let named = c.added_to-added.ensures x ∙ ap (λ (q : ClassTree). map (named_by q.name) (added w (declared n q)))
    (sym at) in
    subst (λ (q : ClassTree). IfOk c.below.result (AreRowsOf (Declared (declared n q) (added w (declared n q))
    (line_in w (supertypes w (q.superclass ∷ [])))))) (got-same c.args.world.now.classes n x t there at)
    (c.below.ensures (line_in w (supertypes w (x.superclass ∷ []))) (added w (declared n x)) c.in_ok-above.ensures
    c.in_ok-told.ensures named)
