use Rattle.std.proofs.Common.{◌≡◌, ◌∙◌, ℕ, List, map, refl, ap, subst}
use Rattle.std.specs.Prelude.{IfOk}
use Rattle.std.specs.List.{flat_map}
use Rattle.cjc_classes.specs.ClassInfo.Refs.{ref_of}
use Rattle.cjc_classes.specs.Clinit.Image.{field_id}
use Rattle.cjc_classes.specs.LowerComponents.Statics.{cell_offset}
use Rattle.cjc_world.specs.ClassFile.declared.tree.ClassTree.{ClassTree}
use Rattle.cjc_verify.specs.Pairs.{Pair}
use Rattle.cjc_verify.specs.WantedDescribed.{wanted_classes}
use Rattle.cjc_verify.specs.WantedMembers.{Inputs, classes_by}
use Rattle.cjc_verify.specs.Working.Ready.{pair_by}
use Rattle.cjc_verify.specs.declared.described.wanted.WantedClass.{WantedClass}
use Rattle.cjc_verify.proofs.DescribedLaws.Members.{classes_are, inputs_are}
use Rattle.cjc_verify.proofs.described.wanted_classes.Goals as goal

pub returns : goal.returns
returns c =
    let i = c.pair.inside in
    let p = pair_by i.world.now i.tokens.now i.image.now i.parts.now i.tables.now in
    let offsets : List ClassTree → List (List ℕ) = λ ts. map (λ (d : ClassTree). map (λ f. cell_offset i.image.now
    (field_id d.name f)) d.fields) ts in
    let cells = c.items-2.ensures ∙ c.in_ok-cells.ensures ∙ ap offsets (c.items.ensures ∙ c.classes.ensures) in
    let inputs = inputs_are p i.world.now i.tokens.now (ref_of i.refs.now) c.items-2.result.now refl refl
    c.pair.invariant.refs_kept cells in
    subst (λ (q : Pair). IfOk c.wanted_classes.result (λ row. row ≡ wanted_classes q)) c.pair.view_is
    (subst (λ (ws : List WantedClass). IfOk c.wanted_classes.result (λ row. row ≡ ws))
    (ap (λ (q : Inputs). flat_map (classes_by q) i.order.now) inputs ∙ classes_are p i.order.now
    c.pair.invariant.in_order) c.wanted_classes.ensures)
