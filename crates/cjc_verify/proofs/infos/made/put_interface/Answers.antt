use Rattle.std.proofs.Common.{◌≡◌, ◌∙◌, ◌++◌, ◌∷◌, [], List, ap, map, sym, subst, append-nil, refl}
use Rattle.std.proofs.lemmas.Option.{slice_get_past, slice_get_read}
use Rattle.std.specs.Prelude.{OnOk, Option, Some, None, option_map, option_to_list, slice_get}
use Rattle.cjc_capread.specs.declared.tree.InterfaceEntry.{InterfaceEntry}
use Rattle.cjc_world.specs.ClassFile.declared.tree.ClassTree.{ClassTree}
use Rattle.cjc_world.specs.Classes.{all_classes, declared}
use Rattle.cjc_classes.specs.ClassInfo.Refs.{ref_of}
use Rattle.cjc_verify.specs.WantedBy.{interface_by}
use Rattle.cjc_verify.specs.declared.infos.wanted.Wanted.{Wanted}
use Rattle.cjc_verify.specs.declared.infos.wanted.Wanted.TheVariants.{Interface}
use Rattle.cjc_verify.proofs.infos.made.put_interface.Goals as goal

pub returns-in-None : goal.returns-in-None
returns-in-None c =
    let files = c.args.world.now in
    let n = c.args.number in
    let f = interface_by (ref_of c.args.refs.now) (all_classes files) in
    let same : c.items.result.now ≡ files.classes = c.items.ensures ∙ c.classes.ensures in
    let lookup = c.in-None.ensures.lookup in
    let none : slice_get files.classes n ≡ None = ap (λ (ts : List ClassTree). slice_get ts n) (sym same)
    ∙ slice_get_past c.items.result.now n lookup.3 in
    sym (append-nil c.args.row.now) ∙ ap (λ (o : Option ClassTree). c.args.row.now
    ++ map f (option_to_list (option_map (declared n) o))) (sym none)

pub returns-in_ok-entry-in-Some : goal.returns-in_ok-entry-in-Some
returns-in_ok-entry-in-Some c =
    let files = c.args.world.now in
    let n = c.args.number in
    let f = interface_by (ref_of c.args.refs.now) (all_classes files) in
    let same : c.items.result.now ≡ files.classes = c.items.ensures ∙ c.classes.ensures in
    let lookup = c.in-Some.ensures.lookup in
    let some : slice_get files.classes n ≡ Some c.in-Some.class.now = ap (λ (ts : List ClassTree). slice_get ts n)
    (sym same) ∙ slice_get_read c.items.result.now _ n c.in-Some.class.now refl lookup.3.0 lookup.1 in
    subst (λ (q : List Wanted). OnOk c.push.result (c.push.new.self ≡ c.args.row.now ++ q))
    (ap (λ (e : InterfaceEntry). Interface e ∷ []) c.in_ok-entry-in-Some.ensures
    ∙ ap (λ (o : Option ClassTree). map f (option_to_list (option_map (declared n) o))) (sym some))
    c.push.ensures.ok
