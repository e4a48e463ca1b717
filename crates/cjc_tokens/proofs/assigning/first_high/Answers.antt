use Rattle.std.proofs.Common.{◌∙◌, ap, sym, subst, length, List}
use Rattle.std.specs.Prelude.{nat_lt, Err}
use Rattle.cjc_bytes.specs.declared.settings.AppletLine.{AppletLine}
use Rattle.cjc_world.specs.Classes.{all_classes}
use Rattle.cjc_bytes.specs.Breaks.{IsFirst}
use Rattle.cjc_tokens.specs.Rules.{at_class, token_breaks}
use Rattle.cjc_bytes.specs.Order.{file_of}
use Rattle.cjc_tokens.specs.Working.{AreAllTokens, IsKept}
use Rattle.cjc_tokens.proofs.Assigns.{tested-few, tested-many}
use Rattle.cjc_tokens.proofs.assigning.first_high.Goals as goal

pub returns-then-not-branch : goal.returns-then-not-branch
returns-then-not-branch c = tested-many (nat_lt 0 (length c.args.settings.now.applets)) c.args.world.now
    (sym c.in_ok-few.ensures.whether ∙ c.if-not-branch.true)

pub declared_tokens-requires-clause-kept : goal.declared_tokens-requires-clause-kept
declared_tokens-requires-clause-kept c = subst (IsKept (all_classes c.args.world.now) c.args.world.now.classes)
    (sym c.deref.ensures.value) c.in_ok-kept.ensures

pub returns-in-Err : goal.returns-in-Err
returns-in-Err c =
    let applets = nat_lt 0 (length c.args.settings.now.applets) in
    let few = tested-few applets c.args.world.now (sym c.in_ok-few.ensures.whether ∙ c.if-not-branch.false) in
    let all = subst (AreAllTokens (nat_lt 0 (length c.items.result.now)) c.args.world.now) c.in-Err.is
    c.in_ok-number.ensures in
    let here = subst (λ (q : List AppletLine). AreAllTokens (nat_lt 0 (length q)) c.args.world.now
    (Err c.in-Err.number)) c.items.ensures all in (
      here.0,
      here.1,
      subst (IsFirst (at_class (file_of c.args.world.now.lines c.in-Err.number) here.0.name)) (sym few)
          here.2,
    )

pub returns : goal.returns
returns c =
    let applets = nat_lt 0 (length c.args.settings.now.applets) in
    let few = tested-few applets c.args.world.now (sym c.in_ok-few.ensures.whether ∙ c.if-not-branch.false) in
    let all = subst (AreAllTokens (nat_lt 0 (length c.items.result.now)) c.args.world.now) c.in-Ok.is
    c.in_ok-number.ensures in
    few ∙ ap (λ (q : List AppletLine). token_breaks (nat_lt 0 (length q)) c.args.world.now) (sym c.items.ensures)
    ∙ all.0
