use Rattle.std.proofs.Common.{◌≡◌, ◌∙◌, ◌++◌, List, ap, sym, subst, append-nil, refl}
use Rattle.std.proofs.lemmas.Option.{slice_get_past, slice_get_read}
use Rattle.std.specs.Prelude.{OnOk, Option, Some, None, slice_get}
use Rattle.cjc_world.specs.ClassFile.declared.tree.ClassTree.{ClassTree}
use Rattle.cjc_world.specs.declared.found.Found.{Found}
use Rattle.cjc_world.specs.Classes.{all_classes, declared}
use Rattle.cjc_world.specs.Order.{methods_of_class}
use Rattle.cjc_verify.specs.Offsets.{ats_in, ats_where}
use Rattle.cjc_verify.specs.declared.infos.offsets.MethodAt.{MethodAt}
use Rattle.cjc_verify.proofs.infos.offsets.put_class.Goals as goal

pub methods_of-requires : goal.methods_of-requires
methods_of-requires c =
    let files = c.args.world.now in
    let n = c.args.number in
    let same : c.items.result.now ≡ files.classes = c.items.ensures ∙ c.classes.ensures in
    let lookup = c.in-Some.ensures.lookup in
    ap (λ (ts : List ClassTree). slice_get ts n) (sym same) ∙ slice_get_read c.items.result.now _ n c.in-Some.tree.now
    refl lookup.3.0 lookup.1

pub returns-in-None : goal.returns-in-None
returns-in-None c =
    let files = c.args.world.now in
    let n = c.args.number in
    let same : c.items.result.now ≡ files.classes = c.items.ensures ∙ c.classes.ensures in
    let lookup = c.in-None.ensures.lookup in
    let none : slice_get files.classes n ≡ None = ap (λ (ts : List ClassTree). slice_get ts n) (sym same)
    ∙ slice_get_past c.items.result.now n lookup.3 in
    sym (append-nil c.args.row.now) ∙ ap (λ (o : Option ClassTree). c.args.row.now
    ++ ats_where files n c.args.class.now o) (sym none)

pub returns-in_ok-members-in-Some : goal.returns-in_ok-members-in-Some
returns-in_ok-members-in-Some c =
    let files = c.args.world.now in
    let n = c.args.number in
    let d = c.args.class.now in
    let same : c.items.result.now ≡ files.classes = c.items.ensures ∙ c.classes.ensures in
    let lookup = c.in-Some.ensures.lookup in
    let some : slice_get files.classes n ≡ Some c.in-Some.tree.now = ap (λ (ts : List ClassTree). slice_get ts n)
    (sym same) ∙ slice_get_read c.items.result.now _ n c.in-Some.tree.now refl lookup.3.0 lookup.1 in
    subst (λ (q : List MethodAt). OnOk c.put_ats.result (c.put_ats.new.row ≡ c.args.row.now ++ q))
    (ap (λ (fs : List Found). ats_in fs c.items-in-Some-2.result.now) (c.items-in-Some.ensures ∙
    c.in_ok-members-in-Some.ensures)
    ∙ ap (ats_in (methods_of_class (all_classes files) (declared n c.in-Some.tree.now))) c.items-in-Some-2.ensures
    ∙ ap (λ (o : Option ClassTree). ats_where files n d o) (sym some))
    c.put_ats.ensures
