use Rattle.std.proofs.Common.{ap, ◌∙◌}
use Rattle.std.specs.Prelude.{length, nat_lt}
use Rattle.cjc_judge.proofs.Unbroken.{none_refused}
use Rattle.cjc_vtable.specs.LowerTokens.Rules.{token_breaks}
use Rattle.cjc_judge.proofs.parts.tokens_of.Goals as goal

pub assign-requires-clause-exported : goal.assign-requires-clause-exported
assign-requires-clause-exported c = rw c.in_ok-settings.ensures c.requires.exported

pub unreachable-requires : goal.unreachable-requires
unreachable-requires c =
    none_refused _ _ _ c.in-Err-Refused.field-0-is c.in-Err-Refused.ensures.refused
    (ap (λ v. token_breaks (nat_lt 0 (length v.applets)) c.args.world.now) c.in_ok-settings.ensures
    ∙ c.requires.unbroken)
