use Rattle.std.proofs.Common.{◌≡◌, ◌∙◌, ap, rules}
use Rattle.std.specs.Prelude.{FitsSigned}
use Rattle.std.specs.Int.{w32}
use Rattle.std.proofs.lemmas.Int.{to_z-of_z}
use Rattle.std.proofs.lemmas.Result.{IfOk-weaker}
use Rattle.cjc_card_semantics.specs.Bytecode.Effects.{Pick}
use Rattle.cjc_card_semantics.specs.Bytecode.Meanings.{Paired}
use Rattle.cjc_card_semantics.specs.CapRead.Decoder.Decoded.{numbers, numbers_of, values}
use Rattle.cjc_card_semantics.specs.CapRead.Decoder.Shapes.{matches_of}
use Rattle.cjc_card_semantics.specs.Machine.Operations.{moved, operation, paired}
use Rattle.cjc_card_frame.specs.Kinds.{pool_of}
use Rattle.cjc_card_step.proofs.StepsLaws.Led.{step_as}
use Rattle.cjc_card_step.proofs.steps.instruction.pairs.Goals as goal

pub returns-in-Two : goal.returns-in-Two
returns-in-Two c =
    let insn = c.args.insn in
    let at = c.args.at in
    let is_int = c.args.is_int in
    let other = c.in-Two.other in
    let fits_other : FitsSigned w32 other = search rules in
    let entries = insn.table.entries.now in
    IfOk-weaker c.switch_pairs.result _ _ (λ step h. λ l p room m.
    let is : operation l p (pool_of l p) at (Paired is_int) (values insn.operands) (numbers_of insn.table)
    ≡ Pick is_int (moved at other) (paired at (numbers (matches_of is_int) entries)) =
    ap (λ o. operation l p (pool_of l p) at (Paired is_int) (values o) (numbers_of insn.table)) c.in-Two.is
    ∙ ap (λ n. Pick is_int (moved at other) (paired at (numbers n entries))) c.requires in
    step_as l _ _ room c.args.next step c.args.cells.now c.switch_pairs.new.cells m m is (h l room m))
    (simp to_z-of_z at c.switch_pairs.ensures)
