use Rattle.std.proofs.Common.{IsSome, refl, sym, subst}
use Rattle.cjc_cmd_card.proofs.ReportLaws.Free.{few_cells, few_exported, has_tokens}
use Rattle.cjc_cmd_card.proofs.CmdCheckSizes.{small_cap}
use Rattle.cjc_cmd_card.specs.Running.Ready.{tested}
use Rattle.cjc_cmd_verify.proofs.VerifyingLaws.Free.{are_typed, types_fault}
use Rattle.cjc_cmd_verify.proofs.VerifyingLaws.Spelt.{passed}
use Rattle.cjc_cmd_verify.specs.Working.{ready_of}
use Rattle.cjc_verify_theorem.specs.Judge.Rules.{has_applets}
use Rattle.cjc_cmd_verify.proofs.verifying.test_types.Goals as goal

pub tokens_of-requires-clause-exported : goal.tokens_of-requires-clause-exported
tokens_of-requires-clause-exported c =
    let r = c.requires.checked in
    few_exported c.args.input.now _ (ready_of c.args.judged.now c.args.checked.now.tree r.script) r.is_ready

pub tokens_of-requires-clause-cells : goal.tokens_of-requires-clause-cells
tokens_of-requires-clause-cells c =
    let r = c.requires.checked in
    few_cells c.args.input.now _ (ready_of c.args.judged.now c.args.checked.now.tree r.script) r.is_ready

pub tokens_of-requires-clause-unbroken : goal.tokens_of-requires-clause-unbroken
tokens_of-requires-clause-unbroken c =
    let r = c.requires.checked in
    has_tokens c.args.input.now _ (ready_of c.args.judged.now c.args.checked.now.tree r.script) r.is_ready

pub verify-requires-clause-whole : goal.verify-requires-clause-whole
verify-requires-clause-whole c =
    let is = c.requires.checked.is_ready in
    subst IsSome (sym is.complete_is) refl

pub verify-requires-clause-small : goal.verify-requires-clause-small
verify-requires-clause-small c =
    let input = c.args.input.now in
    small_cap input.parts c.args.checked.now.tree c.requires.input.short c.requires.checked.is_ready.cap

pub verify-requires-clause-tokens : goal.verify-requires-clause-tokens
verify-requires-clause-tokens c = (has_applets c.args.input.now.list, c.in_ok-tokens.ensures)

pub returns-clause-typed : goal.returns-clause-typed
returns-clause-typed c =
    let r = c.requires.checked in
    let ready = ready_of c.args.judged.now c.args.checked.now.tree r.script in
    are_typed c.args.input.now ready r.is_ready c.args.image.now c.requires.image c.requires.paired
    (λ typed. c.never_stuck.ensures c.args.input.now.list c.args.input.now.files tested c.args.judged.now
    c.args.checked.now.tree r.is_ready.whole c.args.image.now (passed c.args.input.now ready r.is_ready c.requires.input
    c.are_bytes.ensures c.parts_are_bytes.ensures c.args.image.now c.requires.image c.requires.paired typed))
    c.verify.result
    (c.verify.ensures.verified (has_applets c.args.input.now.list) r.is_ready.whole c.in_ok-tokens.ensures
    r.is_ready.complete_is)

pub returns-clause-refused : goal.returns-clause-refused
returns-clause-refused c =
    let r = c.requires.checked in
    let is = r.is_ready in
    types_fault c.consistent_where_unbroken.ensures.unbroken c.args.input.now (ready_of c.args.judged.now
    c.args.checked.now.tree r.script) is c.args.image.now c.requires.image is.whole is.complete_is
    (c.requires.paired is.whole is.complete_is) c.verify.result
    (c.verify.ensures.refused (has_applets c.args.input.now.list) is.whole c.in_ok-tokens.ensures is.complete_is)
