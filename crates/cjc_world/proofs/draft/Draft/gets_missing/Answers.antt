use Rattle.std.proofs.Common.{◌<◌, length, get_or, sym, ap, subst, ◌∙◌}
use Rattle.std.specs.List.{list_any}
use Rattle.std.proofs.lemmas.Option.{slice_get_within}
use Rattle.cjc_world.specs.declared.class.Known.TheVariants as kinds
use Rattle.cjc_world.specs.Classes.{all_classes}
use Rattle.cjc_world.specs.Working.Drafts.{AreTables, IsHeld}
use Rattle.cjc_world.specs.Kin.{IsAcyclic}
use Rattle.cjc_world.specs.Working.Known.{class_of}
use Rattle.cjc_world.specs.Rules.{is_desc_missing, gets_missing}
use Rattle.cjc_world.proofs.Gets.{gets-declared, gets-imported, gets-cyclic}
use Rattle.cjc_world.proofs.draft.Draft.gets_missing.Goals as goal

pub returns-in-Cycles : goal.returns-in-Cycles
returns-in-Cycles c = gets-cyclic (all_classes c.args.self.now) (class_of c.args.class) (λ acyclic. c.self.invariant.cyclic c.in-Cycles.field-0 c.in-Cycles.is (subst (λ f. IsAcyclic (all_classes f)) (sym c.self.view_is) acyclic))

pub returns-in-Declared : goal.returns-in-Declared
returns-in-Declared c =
    let files = c.args.self.now in
    let t = c.in-Tables.tables in
    let n = c.in-Declared.number in
    let row = c.index-added-number.result in
    let tables : AreTables files t = subst (λ f. AreTables f t) c.self.view_is (c.self.invariant.tables t c.in-Tables.is) in
    let held : IsHeld files (kinds.Declared n c.in-Declared.field-1) = subst (λ k. IsHeld files k) c.in-Declared.is c.requires in
    let within : n < length t.added = subst (λ m. n < m) (sym tables.count) (slice_get_within files.classes n c.in-Declared.field-1.now held) in
    c.any_desc_missing.ensures
    ∙ ap (λ f. list_any (λ i. is_desc_missing (all_classes f) i.desc) c.items.result.now) c.self.view_is
    ∙ ap (list_any (λ i. is_desc_missing (all_classes files) i.desc)) c.items.ensures
    ∙ gets-declared files t n c.in-Declared.field-1.now row tables held within (c.index-added-number.is ∙ ap (λ rs. get_or rs n row) c.items-added.ensures)
    ∙ ap (λ k. gets_missing (all_classes files) (class_of k)) (sym c.in-Declared.is)

pub returns-in-Imported : goal.returns-in-Imported
returns-in-Imported c =
    gets-imported (all_classes c.args.self.now) c.in-Imported.field-0 c.in-Imported.field-1.now
    ∙ ap (λ k. gets_missing (all_classes c.args.self.now) (class_of k)) (sym c.in-Imported.is)
