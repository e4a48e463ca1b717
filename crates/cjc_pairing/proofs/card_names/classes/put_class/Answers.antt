use Rattle.std.proofs.Common.{◌≡◌, ◌≤◌, List, length, slice_get, refl, sym, ap, ◌∙◌, arith, Some, None}
use Rattle.std.proofs.lemmas.Bool.Decides.{nat_tests}
use Rattle.std.proofs.lemmas.Option.{slice_get_past, slice_get_read}
use Rattle.std.proofs.lemmas.Result.{on_ok_weaker}
use Rattle.cjc_classes.specs.ClassFile.declared.tree.ClassTree.{ClassTree}
use Rattle.cjc_pairing.proofs.CardNames.ByNumber.{none_there, some_there}
use Rattle.cjc_pairing.proofs.card_names.classes.put_class.Goals as goal

pub returns-in_ok-names_of-in-Some : goal.returns-in_ok-names_of-in-Some
returns-in_ok-names_of-in-Some c =
    let classes = c.items.result.now in
    let lookup = c.in-Some.ensures.lookup in
    let t = c.in-Some.class.now in
    let there : slice_get c.args.world.now.classes c.args.number ≡ Some t =
    ap (λ (ts : List ClassTree). slice_get ts c.args.number) (sym (c.items.ensures ∙ c.classes.ensures))
    ∙ slice_get_read classes (length classes) c.args.number t refl lookup.3.0 lookup.1 in
    on_ok_weaker c.push.result
    (λ e. some_there c.args.world.now c.args.tokens.now c.args.number t c.args.names.now c.push.new.self
    c.in_ok-names_of-in-Some.field-0 there c.in_ok-names_of-in-Some.ensures e)
    c.push.ensures.ok

pub returns-in-None : goal.returns-in-None
returns-in-None c =
    let classes = c.items.result.now in
    let look = c.in-None.ensures.lookup.0 in
    let past : length classes ≤ c.args.number = grind (arith, nat_tests, look) in
    let none : slice_get c.args.world.now.classes c.args.number ≡ None =
    ap (λ (ts : List ClassTree). slice_get ts c.args.number) (sym (c.items.ensures ∙ c.classes.ensures))
    ∙ slice_get_past classes c.args.number past in
    none_there c.args.world.now c.args.tokens.now c.args.number c.args.names.now none
