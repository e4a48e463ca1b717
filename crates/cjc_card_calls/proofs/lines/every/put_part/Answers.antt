use Rattle.std.proofs.Common.{◌∙◌, map, arith}
use Rattle.std.specs.Prelude.{option_map, slice_get}
use Rattle.cjc_card_frame.specs.Objects.{class_of}
use Rattle.cjc_card_link.specs.Tables.{loaded_of}
use Rattle.cjc_card_calls.specs.Lines.Every.{classes_at}
use Rattle.cjc_card_calls.proofs.LinesLaws.Putting.{own_count, own_next, some_all, some_more}
use Rattle.cjc_card_calls.proofs.lines.every.put_part.Goals as goal

pub loop-number-preserved : goal.loop-number-preserved
loop-number-preserved c =
    let o = slice_get (loaded_of c.args.tables.now).parts c.args.part in
    some_more (classes_at c.args.part o) c.loop-number.number (option_map class_of c.class_numbered.result)
    (map class_of c.loop-number.classes) _ _
    (c.class_numbered.ensures ∙ own_next c.args.part o c.loop-number.number) c.in_ok-put_some.ensures
    c.loop-number.invariant

pub returns : goal.returns
returns c =
    let o = slice_get (loaded_of c.args.tables.now).parts c.args.part in
    let long = own_count c.args.part o in
    let count = c.class_count-number-end.ensures in
    let done = c.loop-number-test.false in
    some_all (classes_at c.args.part o) c.loop-number.number _ _ (omega (arith, long, count, done))
    c.loop-number.invariant
