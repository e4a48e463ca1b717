use Rattle.std.proofs.Common.{◌≡◌, ◌∙◌, ap, rules}
use Rattle.std.specs.Prelude.{FitsSigned}
use Rattle.std.specs.Int.{w32}
use Rattle.std.proofs.lemmas.Int.{to_z-of_z}
use Rattle.std.proofs.lemmas.Result.{IfOk-weaker}
use Rattle.cjc_card_semantics.specs.Bytecode.Effects.{Pick}
use Rattle.cjc_card_semantics.specs.Bytecode.Meanings.{Ranged}
use Rattle.cjc_card_semantics.specs.CapRead.Decoder.Decoded.{numbers, numbers_of, values}
use Rattle.cjc_card_semantics.specs.CapRead.declared.decoder.table.Matches.TheVariants.{Counted}
use Rattle.cjc_card_semantics.specs.Machine.Operations.{moved, operation, ranged}
use Rattle.cjc_card_frame.specs.Kinds.{pool_of}
use Rattle.cjc_card_step.proofs.StepsLaws.Led.{step_as}
use Rattle.cjc_card_step.proofs.steps.instruction.range.Goals as goal

pub returns-in-Three : goal.returns-in-Three
returns-in-Three c =
    let insn = c.args.insn in
    let at = c.args.at in
    let is_int = c.args.is_int in
    let other = c.in-Three.other in
    let fits_other : FitsSigned w32 other = search rules in
    let low = c.in-Three.low in
    let fits_low : FitsSigned w32 low = search rules in
    let entries = insn.table.entries.now in
    IfOk-weaker c.switch_range.result _ _ (λ step h. λ l p room m.
    let is : operation l p (pool_of l p) at (Ranged is_int) (values insn.operands) (numbers_of insn.table)
    ≡ Pick is_int (moved at other) (ranged at low (numbers Counted entries)) =
    ap (λ o. operation l p (pool_of l p) at (Ranged is_int) (values o) (numbers_of insn.table)) c.in-Three.is
    ∙ ap (λ n. Pick is_int (moved at other) (ranged at low (numbers n entries))) c.requires in
    step_as l _ _ room c.args.next step c.args.cells.now c.switch_range.new.cells m m is (h l room m))
    (simp to_z-of_z at c.switch_range.ensures)
