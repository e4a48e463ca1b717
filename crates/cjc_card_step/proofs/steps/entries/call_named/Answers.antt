use Rattle.std.proofs.Common.{refl}
use Rattle.std.specs.Prelude.{FitsSigned, Some}
use Rattle.std.specs.Int.{w32}
use Rattle.std.proofs.lemmas.Int.{to_z-of_z}
use Rattle.cjc_card_semantics.specs.Bytecode.Effects.{Call}
use Rattle.cjc_card_semantics.specs.Bytecode.Meanings.{Calls}
use Rattle.cjc_card_frame.specs.Meanings.{mode_of}
use Rattle.cjc_card_semantics.specs.Machine.Operations.{calling}
use Rattle.cjc_card_frame.specs.Kinds.{callee_of}
use Rattle.cjc_card_step.proofs.StepsLaws.Used.{row_as, used_as}
use Rattle.cjc_card_step.proofs.steps.entries.call_named.Goals as goal

pub returns-in-Some : goal.returns-in-Some
returns-in-Some g c =
    let l = g.L.LookUps.loaded c.args.links.now in
    let fits : FitsSigned w32 c.args.index = c.ranges.index in
    let found = simp to_z-of_z at c.in-Some.ensures in
    let is = used_as l c.args.part (Calls (mode_of c.args.mode)) c.args.index (calling l c.args.part
    (mode_of c.args.mode)) Call (Some (callee_of c.in-Some.callee)) (λ item. c.entries_are_used.ensures.calls l
    c.args.part (mode_of c.args.mode) item) found in
    λ room m. row_as l _ _ room _ c.args.cells.now c.args.cells.now m m is (λ next. record {
      same = refl;
      keeps = (refl, refl);
    })
