use Rattle.std.proofs.Common.{◌≡◌, true, drop}
use Rattle.cjc_card_semantics.specs.Machine.Methods.{handler_among}
use Rattle.cjc_card_frame.specs.Objects.{shape_of}
use Rattle.cjc_card_frame.specs.Kinds.{pool_of}
use Rattle.cjc_card_link.specs.Tables.{loaded_of}
use Rattle.cjc_card_calls.specs.Lines.Handlers.{are_near}
use Rattle.cjc_card_calls.proofs.lines.handlers.handler_among.Given as goal

abbrev pub invariant-loop-handler : goal.invariant-loop-handler
invariant-loop-handler l =
    let t = loaded_of l.tables in
    (are_near (drop l.handler-index l.handlers) ≡ true)
    × (handler_among t l.part (pool_of t l.part) (drop l.handler-index l.handlers) l.at (shape_of l.kind)
    ≡ handler_among t l.part (pool_of t l.part) l.handlers l.at (shape_of l.kind))
