use Rattle.std.proofs.Common.{◌≡◌, ◌∙◌, ◌++◌, List, ap, sym, append-nil}
use Rattle.std.proofs.lemmas.Option.{slice_get_past}
use Rattle.std.specs.Prelude.{Option, None, slice_get}
use Rattle.cjc_world.specs.ClassFile.declared.tree.ClassTree.{ClassTree}
use Rattle.cjc_verify.specs.Working.Methods.{known_where}
use Rattle.cjc_verify.proofs.methods.put_known.Goals as goal

pub returns-in-None : goal.returns-in-None
returns-in-None c =
    let files = c.args.world.now in
    let n = c.args.number in
    let same : c.items.result.now ≡ files.classes = c.items.ensures ∙ c.classes.ensures in
    let lookup = c.in-None.ensures.lookup in
    let none : slice_get files.classes n ≡ None = ap (λ (ts : List ClassTree). slice_get ts n) (sym same)
    ∙ slice_get_past c.items.result.now n lookup.3 in
    sym (append-nil c.args.row.now) ∙ ap (λ (o : Option ClassTree). c.args.row.now
    ++ known_where files n c.args.described.now o) (sym none)
