use Rattle.std.proofs.Common.{◌∙◌, List, sym, ap}
use Rattle.cjc_card_semantics.specs.CapRead.declared.tree.Handler.{Handler}
use Rattle.cjc_card_frame.specs.Objects.{shape_of}
use Rattle.cjc_card_frame.specs.Kinds.{code_of}
use Rattle.cjc_card_link.specs.Group.{part_with}
use Rattle.cjc_card_link.specs.Tables.{loaded_of}
use Rattle.cjc_card_calls.specs.Lines.Handlers.{are_near}
use Rattle.cjc_card_calls.proofs.LinesLaws.Near.{handler_here, part_near}
use Rattle.cjc_card_calls.proofs.lines.handlers.handler.Goals as goal

pub handler_among-requires-clause-near : goal.handler_among-requires-clause-near
handler_among-requires-clause-near c =
    let l = loaded_of c.args.tables.now in
    let here = c.in-Some.ensures in
    ap (λ (hs : List Handler). are_near hs) c.items-handlers.ensures
    ∙ part_near l.parts c.args.code.part (part_with here.0 c.in-Some.part) (sym here.1) c.requires.near

pub returns-in-Some : goal.returns-in-Some
returns-in-Some c =
    let l = loaded_of c.args.tables.now in
    let here = c.in-Some.ensures in
    c.handler_among.ensures
    ∙ handler_here l (code_of c.args.code) c.args.at (shape_of c.args.kind) (part_with here.0 c.in-Some.part)
    c.items-handlers.result.now here.1 c.items-handlers.ensures
