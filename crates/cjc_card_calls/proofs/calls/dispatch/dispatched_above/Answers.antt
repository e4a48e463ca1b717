use Rattle.std.proofs.Common.{ap, ◌∙◌, sym}
use Rattle.cjc_card_semantics.specs.Machine.Dispatch.{above, dispatched, tower}
use Rattle.cjc_card_frame.specs.declared.heap.class.Class.{Class as ClassData}
use Rattle.cjc_card_frame.specs.Objects.{class_of}
use Rattle.cjc_card_frame.specs.Kinds.{token_of}
use Rattle.cjc_card_link.specs.Tables.{loaded_of}
use Rattle.cjc_card_calls.proofs.CallsLaws.Towers.{from_above, none_found}
use Rattle.cjc_card_calls.proofs.calls.dispatch.dispatched_above.Goals as goal

pub returns-in-Own : goal.returns-in-Own
returns-in-Own c =
    let l = loaded_of c.args.tables.now in
    from_above l c.in-Own.part c.in-Own.offset c.depth.result _ (token_of c.args.token) _ c.dispatched.ensures
    c.depth.ensures.depth c.superclass-class.ensures
    ∙ ap (λ (d : ClassData). dispatched (above (tower l (class_of d))) (token_of c.args.token)) (sym c.in-Own.is)

pub returns-in-External : goal.returns-in-External
returns-in-External c =
    let l = loaded_of c.args.tables.now in
    none_found (token_of c.args.token) ∙ ap (λ (d : ClassData). dispatched (above (tower l (class_of d)))
    (token_of c.args.token)) (sym c.in-External.is)
