use Rattle.std.proofs.Common.{◌≡◌, ◌∙◌, ◌++◌, ◌∷◌, [], Bool, List, ap, sym, subst, append-nil, refl}
use Rattle.std.proofs.lemmas.Option.{slice_get_past, slice_get_read}
use Rattle.std.specs.Prelude.{OnOk, Some, None, slice_get}
use Rattle.cjc_world.specs.ClassFile.declared.tree.ClassTree.{ClassTree}
use Rattle.cjc_verify.proofs.InfosLaws.Abstracts.{unmade_nowhere, unmade_there}
use Rattle.cjc_verify.proofs.infos.abstracts.put_unmade.Goals as goal

pub returns-in-None : goal.returns-in-None
returns-in-None c =
    let files = c.args.world.now in
    let n = c.args.number in
    let same : c.items.result.now ≡ files.classes = c.items.ensures ∙ c.classes.ensures in
    let lookup = c.in-None.ensures.lookup in
    let none : slice_get files.classes n ≡ None = ap (λ (ts : List ClassTree). slice_get ts n) (sym same)
    ∙ slice_get_past c.items.result.now n lookup.3 in
    sym (append-nil c.args.row.now) ∙ ap (λ (q : List Bool). c.args.row.now ++ q) (sym (unmade_nowhere files n none))

pub returns-in-Some : goal.returns-in-Some
returns-in-Some c =
    let files = c.args.world.now in
    let n = c.args.number in
    let same : c.items.result.now ≡ files.classes = c.items.ensures ∙ c.classes.ensures in
    let lookup = c.in-Some.ensures.lookup in
    let some : slice_get files.classes n ≡ Some c.in-Some.class.now = ap (λ (ts : List ClassTree). slice_get ts n)
    (sym same) ∙ slice_get_read c.items.result.now _ n c.in-Some.class.now refl lookup.3.0 lookup.1 in
    subst (λ (q : List Bool). OnOk c.push.result (c.push.new.self ≡ c.args.row.now ++ q))
    (ap (λ (b : Bool). b ∷ []) c.is_unmade.ensures ∙ sym (unmade_there files n c.in-Some.class.now some))
    c.push.ensures.ok
