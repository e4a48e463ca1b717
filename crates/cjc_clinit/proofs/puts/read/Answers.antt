use Rattle.std.proofs.Common.{◌≡◌, ◌∙◌, sym, ap}
use Rattle.std.specs.Prelude.{Option, Some, None, Ok, Err, option_map, true, false}
use Rattle.cjc_clinit.specs.declared.stage.Stage.{Stage}
use Rattle.cjc_clinit.specs.declared.stage.Stage.TheVariants as stages
use Rattle.cjc_clinit.specs.Working.Reading.{is_ended, read, state, state_after}
use Rattle.cjc_clinit.proofs.Walks.{read-next, read-end, read-wrong, read-ended, read-open}
use Rattle.cjc_clinit.proofs.puts.read.Goals as goal

pub returns-in-None : goal.returns-in-None
returns-in-None c =
    let s = state c.loop-insn.fields c.loop-insn.arrays c.loop-insn.stage in
    let e : state_after c.args.world.now c.args.number c.args.class.now s c.insn-item.result.op ≡ None =
    c.in_ok-state_after.ensures
    ∙ ap (λ (q : Option Stage). option_map (state c.state_after.new.fields c.state_after.new.arrays) q) c.in-None.is
    in
    let r : read c.args.world.now c.args.number c.args.class.now (state c.args.fields.now c.args.arrays.now stages.Free)
    c.args.insns.now ≡ Err c.insn-item.result.at = sym c.loop-insn.invariant
    ∙ read-next c.args.world.now c.args.number c.args.class.now c.args.insns.now c.loop-insn.insn-index
    c.insn-item.result s None c.loop-insn-test.true c.insn-item.is e in
    read-wrong _ c.insn-item.result.at c.state_after.new.fields c.state_after.new.arrays r

pub loop-insn-preserved : goal.loop-insn-preserved
loop-insn-preserved c =
    let s = state c.loop-insn.fields c.loop-insn.arrays c.loop-insn.stage in
    let t = state c.state_after.new.fields c.state_after.new.arrays c.in-Some.next in
    let e : state_after c.args.world.now c.args.number c.args.class.now s c.insn-item.result.op ≡ Some t =
    c.in_ok-state_after.ensures
    ∙ ap (λ (q : Option Stage). option_map (state c.state_after.new.fields c.state_after.new.arrays) q) c.in-Some.is
    in
    sym (read-next c.args.world.now c.args.number c.args.class.now c.args.insns.now c.loop-insn.insn-index
    c.insn-item.result s (Some t) c.loop-insn-test.true c.insn-item.is e) ∙ c.loop-insn.invariant

pub returns-then-is_ended : goal.returns-then-is_ended
returns-then-is_ended c =
    let s = state c.loop-insn.fields c.loop-insn.arrays c.loop-insn.stage in
    let past : read c.args.world.now c.args.number c.args.class.now (state c.args.fields.now c.args.arrays.now
    stages.Free) c.args.insns.now ≡ Ok s = sym c.loop-insn.invariant ∙ read-end c.args.world.now c.args.number
    c.args.class.now c.args.insns.now c.loop-insn.insn-index s c.loop-insn-test.false in
    let t : is_ended c.loop-insn.stage ≡ true = sym c.is_ended.ensures ∙ c.if-is_ended.true in
    read-ended _ s past t

pub returns : goal.returns
returns c =
    let s = state c.loop-insn.fields c.loop-insn.arrays c.loop-insn.stage in
    let past : read c.args.world.now c.args.number c.args.class.now (state c.args.fields.now c.args.arrays.now
    stages.Free) c.args.insns.now ≡ Ok s = sym c.loop-insn.invariant ∙ read-end c.args.world.now c.args.number
    c.args.class.now c.args.insns.now c.loop-insn.insn-index s c.loop-insn-test.false in
    let t : is_ended c.loop-insn.stage ≡ false = sym c.is_ended.ensures ∙ c.if-is_ended.false in
    read-open _ s past t
