use Rattle.std.proofs.Common.{◌+◌, ◌<◌, ℕ, ap, sym, subst, rules}
use Rattle.std.proofs.lemmas.Result.{IfOk-weaker}
use Rattle.cjc_card_semantics.specs.Bytecode.Meanings.{meaning}
use Rattle.cjc_card_semantics.specs.CapRead.Decoder.Decoded.{instruction_of, numbers_of, values}
use Rattle.cjc_card_semantics.specs.Machine.Operations.{operation}
use Rattle.cjc_card_frame.specs.Kinds.{pool_of}
use Rattle.cjc_card_step.specs.Effects.Deeds.{Follows, memory}
use Rattle.cjc_card_step.specs.Rows.{operation_at, row_of}
use Rattle.cjc_card_step.proofs.StepsLaws.Led.{are_meant, no_jump, step_as}
use Rattle.cjc_card_step.proofs.StepsLaws.Tables.{are_counted, are_paired}
use Rattle.cjc_card_step.proofs.StepsLaws.Used.{row_as}
use Rattle.cjc_card_step.proofs.steps.instruction.execute.Goals as goal

pub range-requires : goal.range-requires
range-requires g c =
    let byte : c.args.insn.opcode < 256 = search rules in
    are_counted c.args.insn c.requires.front.0 c.requires.front.1 byte c.in-Ranged.is_int c.in-Ranged.ensures.is

pub pairs-requires : goal.pairs-requires
pairs-requires g c =
    let byte : c.args.insn.opcode < 256 = search rules in
    are_paired c.args.insn c.requires.front.0 c.requires.front.1 byte c.in-Paired.is_int c.in-Paired.ensures.is

pub straight-requires : goal.straight-requires
straight-requires g c = record {
  straight = no_jump c.opcode_meaning.result c.in_default.not-Branch c.in_default.not-Ranged c.in_default.not-Paired;
  operands = are_meant c.opcode_meaning.result (instruction_of c.args.insn) c.requires.decoded
      c.opcode_meaning.ensures.literal;
  few = c.requires.few;
}

pub returns-in-Branch-clause-row : goal.returns-in-Branch-clause-row
returns-in-Branch-clause-row g c =
    let l = g.L.LookUps.loaded c.args.links.now in
    let a = c.args in
    let p = a.code.part in
    let table = numbers_of a.insn.table in
    let m = memory a.heap.now a.statics.now in
    IfOk-weaker c.jump.result _ _ (λ step h.
    step_as l _ _ a.code.room (a.at + a.insn.size) step a.cells.now c.jump.new.cells m m
    (ap (λ x. operation l p (pool_of l p) a.at x (values a.insn.operands) table) (sym c.in-Branch.ensures.is))
    (h l p table a.code.room m)) c.jump.ensures

pub returns-in-Ranged-clause-row : goal.returns-in-Ranged-clause-row
returns-in-Ranged-clause-row g c =
    let l = g.L.LookUps.loaded c.args.links.now in
    let a = c.args in
    let p = a.code.part in
    let table = numbers_of a.insn.table in
    let m = memory a.heap.now a.statics.now in
    IfOk-weaker c.range.result _ _ (λ step h.
    step_as l _ _ a.code.room (a.at + a.insn.size) step a.cells.now c.range.new.cells m m
    (ap (λ x. operation l p (pool_of l p) a.at x (values a.insn.operands) table) (sym c.in-Ranged.ensures.is))
    (h l p a.code.room m)) c.range.ensures

pub returns-in-Paired-clause-row : goal.returns-in-Paired-clause-row
returns-in-Paired-clause-row g c =
    let l = g.L.LookUps.loaded c.args.links.now in
    let a = c.args in
    let p = a.code.part in
    let table = numbers_of a.insn.table in
    let m = memory a.heap.now a.statics.now in
    IfOk-weaker c.pairs.result _ _ (λ step h.
    step_as l _ _ a.code.room (a.at + a.insn.size) step a.cells.now c.pairs.new.cells m m
    (ap (λ x. operation l p (pool_of l p) a.at x (values a.insn.operands) table) (sym c.in-Paired.ensures.is))
    (h l p a.code.room m)) c.pairs.ensures

pub returns-in_ok-deed-in_default : goal.returns-in_ok-deed-in_default
returns-in_ok-deed-in_default g c =
    let l = g.L.LookUps.loaded c.args.links.now in
    let a = c.args in
    let p = a.code.part in
    let old = memory a.heap.now a.statics.now in
    let new = memory c.straight.new.heap c.straight.new.statics in
    let next = a.at + a.insn.size in
    let table = numbers_of a.insn.table in
    let deed = c.in_ok-deed-in_default.deed in
    let done =
    row_as l (operation_at l p a.at (instruction_of a.insn)) _ c.from-room.result deed a.cells.now c.straight.new.cells
    old new
    (ap (λ x. operation l p (pool_of l p) a.at x (values a.insn.operands) table) (sym c.opcode_meaning.ensures.is))
    (c.in_ok-deed-in_default.ensures.row a.at table) next in
    record {
      row = subst (λ (r : ℕ). Follows (row_of l (operation_at l p a.at (instruction_of a.insn)) r next
          a.cells.now.locals old a.cells.now.stack) deed next a.cells.now c.straight.new.cells old new)
          c.from-room.ensures done;
      len = c.in_ok-deed-in_default.ensures.len;
    }
