use Rattle.std.proofs.Common.{◌≡◌, ◌∙◌, ◌++◌, ◌∷◌, [], List, ap, sym, subst, append-nil, refl}
use Rattle.std.proofs.lemmas.Option.{slice_get_read, slice_get_past}
use Rattle.std.specs.Prelude.{OnOk, Some, None, slice_get}
use Rattle.cjc_components.specs.LowerCapRead.declared.tree.ClassEntry.{ClassEntry}
use Rattle.cjc_world.specs.ClassFile.declared.tree.ClassTree.{ClassTree}
use Rattle.cjc_world.specs.Classes.{all_classes}
use Rattle.cjc_classes.specs.ClassInfo.Refs.{ref_of}
use Rattle.cjc_classes.specs.ClassInfo.Entries.{entry_where, offset_in}
use Rattle.cjc_classes.proofs.class_info.tree.put_class.Goals as goal

pub returns-in-None : goal.returns-in-None
returns-in-None c =
    let files = c.args.world.now in
    let t = c.args.table.now in
    let same : c.items.result.now ≡ files.classes = c.items.ensures ∙ c.classes.ensures in
    let lookup = c.in-None.ensures.lookup in
    let none : slice_get files.classes t.class ≡ None = ap (λ (ts : List ClassTree). slice_get ts t.class) (sym same)
    ∙ slice_get_past c.items.result.now t.class lookup.3 in
    sym (append-nil c.args.entries.now) ∙ ap (λ o. c.args.entries.now ++ entry_where (ref_of c.args.refs.now)
    (offset_in c.args.offsets.now) (all_classes files) t o) (sym none)

pub returns-in_ok-entry-in-Some : goal.returns-in_ok-entry-in-Some
returns-in_ok-entry-in-Some c =
    let files = c.args.world.now in
    let t = c.args.table.now in
    let same : c.items.result.now ≡ files.classes = c.items.ensures ∙ c.classes.ensures in
    let lookup = c.in-Some.ensures.lookup in
    let some : slice_get files.classes t.class ≡ Some c.in-Some.class.now =
    ap (λ (ts : List ClassTree). slice_get ts t.class) (sym same) ∙ slice_get_read c.items.result.now _ t.class
    c.in-Some.class.now refl lookup.3.0 lookup.1 in
    subst (λ (q : List ClassEntry). OnOk c.push.result (c.push.new.self ≡ c.args.entries.now ++ q))
    (ap (λ (e : ClassEntry). e ∷ []) c.in_ok-entry-in-Some.ensures
    ∙ ap (λ o. entry_where (ref_of c.args.refs.now) (offset_in c.args.offsets.now) (all_classes files) t o)
    (sym some))
    c.push.ensures.ok
