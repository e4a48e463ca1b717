use Rattle.std.proofs.Common.{◌≡◌, ◌∙◌, ◌<◌, ap, sym, refl, arith, length, Some, None}
use Rattle.std.specs.Prelude.{option_map, slice_get}
use Rattle.std.proofs.lemmas.Option.{slice_get_past, slice_get_read}
use Rattle.cjc_world.specs.Classes.{declared}
use Rattle.cjc_world.specs.Working.Known.{class_of}
use Rattle.cjc_order.specs.Classes.Numbers.{class_count}
use Rattle.cjc_vtable.proofs.Numbers.{own_listed}
use Rattle.cjc_vtable.proofs.naming.own_class.Goals as goal

pub returns-in_err-class : goal.returns-in_err-class
returns-in_err-class c =
    let n = c.args.number in
    let lt : n < class_count c.args.world.now.lines = omega arith in
    let tree : slice_get c.args.world.now.classes n ≡ None = ap (λ q. slice_get q n) (sym (c.items.ensures
    ∙ c.classes.ensures)) ∙ slice_get_past c.items.result.now n c.in_err-class.ensures.lookup.3 in
    ap (option_map class_of) c.from_residual.ensures ∙ sym (own_listed c.args.world.now n lt
    ∙ ap (option_map (declared n)) tree)

pub returns-in_ok-class : goal.returns-in_ok-class
returns-in_ok-class c =
    let n = c.args.number in
    let lt : n < class_count c.args.world.now.lines = omega arith in
    let at = c.in_ok-class.ensures.lookup in
    let tree : slice_get c.args.world.now.classes n ≡ Some c.in_ok-class.class.now =
    ap (λ q. slice_get q n) (sym (c.items.ensures ∙ c.classes.ensures))
    ∙ slice_get_read c.items.result.now (length c.items.result.now) n c.in_ok-class.class.now refl at.3.0 at.1 in
    sym (own_listed c.args.world.now n lt ∙ ap (option_map (declared n)) tree)
