use Rattle.std.proofs.Common.{◌≡◌, ◌∙◌, ap, sym, map}
use Rattle.std.specs.Prelude.{Some, option_map}
use Rattle.cjc_card_semantics.specs.Bytecode.Effects.{Object, Stick, made, with_some}
use Rattle.cjc_card_semantics.specs.Machine.Classes.{fresh}
use Rattle.cjc_card_frame.specs.Objects.{class_of, slot_by}
use Rattle.cjc_card_step.specs.Effects.Deeds.{MemoryByToken, memory}
use Rattle.cjc_card_step.proofs.effects.objects.new_object.Goals as goal

pub returns-in_ok-put_new-in-Some-clause-row : goal.returns-in_ok-put_new-in-Some-clause-row
returns-in_ok-put_new-in-Some-clause-row g c = λ statics next.
    let l = g.L.LookUps.loaded c.args.links.now in
    let w = c.args.cells.now in
    let m : MemoryByToken = memory c.args.heap.now statics in
    let class = class_of c.args.class in
    let slots = c.in-Some.slots in
    let found : Some (map slot_by slots.items) ≡ fresh l class = rw c.in-Some.is at c.in_ok-slots.ensures in
    let r = c.in_ok-put_new-in-Some.ensures.row statics next in
    record {
      same =
          ap (λ o. with_some Stick o (λ s. made (Object class s) c.args.room next w.locals m w.stack)) (sym found)
          ∙ ap (λ thing. made thing c.args.room next w.locals m w.stack) (sym c.object.ensures)
          ∙ r.same;
      keeps = r.keeps;
    }
