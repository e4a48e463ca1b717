use Rattle.std.proofs.Common.{◌++◌, map, refl, ap, ◌∙◌, Option}
use Rattle.std.specs.Prelude.{option_to_list}
use Rattle.cjc_card_semantics.specs.Machine.Classes.{Class, class_of as class_by_ref}
use Rattle.cjc_card_frame.specs.Objects.{class_of}
use Rattle.cjc_card_link.specs.Tables.{loaded_of}
use Rattle.cjc_card_link.proofs.Climbing.{put_more}
use Rattle.cjc_card_link.proofs.tables.Tables.put_maps.Goals as goal

pub loop-done-preserved : goal.loop-done-preserved
loop-done-preserved c =
    put_more (λ m. class_by_ref (loaded_of c.args.self.now) c.args.part m.interface) c.args.maps.now c.loop-done.done _
    _ c.index-maps-count.result
    (map class_of c.loop-done.left) _ (map class_of c.args.left.now) c.loop-done-test.true refl refl
    (c.in_ok-put_some.ensures ∙ ap (λ (o : Option Class). option_to_list o ++ map class_of c.loop-done.left)
    c.class_in.ensures) c.loop-done.invariant
