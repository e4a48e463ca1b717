use Rattle.std.proofs.Common.{◌++◌, List, map, ap, ◌∙◌, Option}
use Rattle.std.specs.Prelude.{option_to_list}
use Rattle.cjc_card_semantics.specs.CapRead.declared.tree.ImplementedInterface.{ImplementedInterface}
use Rattle.cjc_card_semantics.specs.Machine.Classes.{Class, class_of as class_by_ref, some_of}
use Rattle.cjc_card_frame.specs.Objects.{class_of}
use Rattle.cjc_card_link.specs.Tables.{loaded_of}
use Rattle.cjc_card_link.proofs.Climbing.{put_class}
use Rattle.cjc_check_index.proofs.BytesOptions.{on_ok}
use Rattle.cjc_card_link.proofs.tables.Tables.put_class.Goals as goal

pub returns : goal.returns
returns c =
    let l = loaded_of c.args.self.now in
    let old = map class_of c.args.left.now in
    let mid = map class_of c.put_maps.new.left in
    on_ok c.put_some.result
    (λ put.
    put_class l c.args.part c.args.entry.now old mid _ (put ∙ ap (λ (o : Option Class). option_to_list o
    ++ mid) c.class_in.ensures)
    (c.in_ok-put_maps.ensures
    ∙ ap (λ (ms : List ImplementedInterface). some_of (map (λ m. class_by_ref l c.args.part m.interface) ms)
    ++ old) c.items.ensures))
    c.put_some.ensures
