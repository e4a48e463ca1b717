use Rattle.std.proofs.Common.{◌≡◌, ◌<◌, Bool, true, false, length, get_or, sym, ap, subst, ◌∙◌}
use Rattle.std.specs.Prelude.{slice_get, Some}
use Rattle.std.specs.List.{list_any}
use Rattle.std.proofs.lemmas.Option.{slice_get_within}
use Rattle.cjc_world.specs.declared.class.Known.TheVariants as kinds
use Rattle.cjc_world.specs.Classes.{all_classes, declared}
use Rattle.cjc_world.specs.Working.Unchecked.{IsHeld, IsKept}
use Rattle.cjc_world.specs.Working.Known.{class_of}
use Rattle.cjc_world.specs.Working.Tables.{are_ready}
use Rattle.cjc_world.specs.Rules.{is_desc_missing, gets_missing}
use Rattle.cjc_world.proofs.Gets.{gets-imported, gets-ready, gets-unready}
use Rattle.cjc_world.proofs.unchecked.UncheckedWorld.gets_missing.Goals as goal

pub returns-then-are_ready : goal.returns-then-are_ready
returns-then-are_ready c =
    let files = c.args.self.now in
    let class_index = c.self.inside.class_index in
    let t = c.self.inside.tables in
    let n = c.in-Declared.number in
    let tree = c.in-Declared.field-1.now in
    let kept : IsKept files t c.self.inside.cycles = subst (λ f. IsKept f t c.self.inside.cycles) c.self.view_is
    c.self.invariant in
    let held : slice_get files.classes n ≡ Some tree = subst (λ k. IsHeld files k) c.in-Declared.is c.requires in
    let row = c.index-added-number.result in
    let within : n < length t.added = subst (λ m. n < m) (sym kept.count) (slice_get_within files.classes n tree held)
    in
    let ready : are_ready (all_classes files) t.above (declared n tree) ≡ true =
    ap (λ f. are_ready (all_classes f) t.above (declared n tree)) (sym c.self.view_is)
    ∙ ap (λ k. are_ready (all_classes class_index) t.above (class_of k)) (sym c.in-Declared.is)
    ∙ ap (λ rows. are_ready (all_classes class_index) rows (class_of c.args.class)) (sym c.items.ensures)
    ∙ sym c.are_ready.ensures ∙ c.if-are_ready.true in
    c.any_desc_missing.ensures
    ∙ ap (λ f. list_any (λ i. is_desc_missing (all_classes f) i.desc) c.items-then-are_ready.result.now) c.self.view_is
    ∙ ap (list_any (λ i. is_desc_missing (all_classes files) i.desc)) c.items-then-are_ready.ensures
    ∙ gets-ready files t c.self.inside.cycles kept n tree held row within (c.index-added-number.is
    ∙ ap (λ rs. get_or rs n row) c.items-added.ensures) ready
    ∙ ap (λ k. gets_missing (all_classes files) (class_of k)) (sym c.in-Declared.is)

pub returns-else-are_ready : goal.returns-else-are_ready
returns-else-are_ready c =
    let files = c.args.self.now in
    let class_index = c.self.inside.class_index in
    let t = c.self.inside.tables in
    let n = c.in-Declared.number in
    let tree = c.in-Declared.field-1.now in
    let kept : IsKept files t c.self.inside.cycles = subst (λ f. IsKept f t c.self.inside.cycles) c.self.view_is
    c.self.invariant in
    let held : slice_get files.classes n ≡ Some tree = subst (λ k. IsHeld files k) c.in-Declared.is c.requires in
    let unready : are_ready (all_classes files) t.above (declared n tree) ≡ false =
    ap (λ f. are_ready (all_classes f) t.above (declared n tree)) (sym c.self.view_is)
    ∙ ap (λ k. are_ready (all_classes class_index) t.above (class_of k)) (sym c.in-Declared.is)
    ∙ ap (λ rows. are_ready (all_classes class_index) rows (class_of c.args.class)) (sym c.items.ensures)
    ∙ sym c.are_ready.ensures ∙ c.if-are_ready.false in
    c.if-are_ready.false
    ∙ gets-unready files t c.self.inside.cycles kept n tree held unready
    ∙ ap (λ k. gets_missing (all_classes files) (class_of k)) (sym c.in-Declared.is)

pub returns-in-Imported : goal.returns-in-Imported
returns-in-Imported c =
    gets-imported (all_classes c.args.self.now) c.in-Imported.field-0 c.in-Imported.field-1.now
    ∙ ap (λ k. gets_missing (all_classes c.args.self.now) (class_of k)) (sym c.in-Imported.is)
