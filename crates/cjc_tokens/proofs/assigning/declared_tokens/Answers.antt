use Rattle.std.proofs.Common.{◌≡◌, ◌∙◌, ap, sym, subst, length, get_or, true, false, ◌<◌, ◌≤◌, arith}
use Rattle.cjc_world.specs.Classes.{all_classes, declared}
use Rattle.cjc_tokens.specs.Rules.{breaks_from, count_exported, token_breaks}
use Rattle.cjc_world.specs.Exported.{is_exported}
use Rattle.cjc_tokens.specs.Tokens.{classes_from}
use Rattle.cjc_tokens.specs.Working.{AreTokensOf}
use Rattle.cjc_tokens.proofs.Assigns.{classes-next, classes-end, exported-next, breaks-next, breaks-end, breaks-first}
use Rattle.cjc_tokens.proofs.assigning.declared_tokens.Goals as goal
use Rattle.cjc_tokens.proofs.assigning.declared_tokens.Goals.{then-is_exported, else-is_exported}
use Rattle.cjc_bytes.proofs.Gets.{slice_get_at}

pub returns-in-None : goal.returns-in-None
unfolding token_breaks
returns-in-None c =
    let w = all_classes c.args.world.now in
    let cs = c.args.world.now.classes in
    let k = c.loop-number.number in
    let x = c.index-items-number.result in
    let lt : k < length cs = omega (arith, c.loop-number-test.true, c.requires.count) in
    let at : x ≡ get_or cs k x = c.index-items-number.is ∙ ap (λ q. get_or q k x) (c.items.ensures ∙ c.classes.ensures)
    in
    let high = subst (AreTokensOf w c.args.applets c.loop-number.before k x) c.in-None.is c.in_ok-tokens_at.ensures in (
      x,
      slice_get_at cs k x lt at,
      breaks-first w c.args.applets cs k c.args.world.now.lines x
          (breaks_from w c.args.applets c.args.world.now.lines 0 cs) lt at high c.loop-number.invariant.breaks,
    )

pub loop-number-preserved : goal.loop-number-preserved
loop-number-preserved c =
    let w = all_classes c.args.world.now in
    let cs = c.args.world.now.classes in
    let k = c.loop-number.number in
    let x = c.index-items-number.result in
    let t = c.in-Some.tokens in
    let lt : k < length cs = omega (arith, c.loop-number-test.true, c.requires.count) in
    let at : x ≡ get_or cs k x = c.index-items-number.is ∙ ap (λ q. get_or q k x) (c.items.ensures ∙ c.classes.ensures)
    in
    let low = subst (AreTokensOf w c.args.applets c.loop-number.before k x) c.in-Some.is c.in_ok-tokens_at.ensures in
    elim c.if-is_exported.branch [
      | then-is_exported b ↦ rw b.before-is (
          let e : is_exported w c.args.applets (declared k x) ≡ true = sym c.is_exported.ensures ∙ b.if-is_exported.true
          in
          record {
            tokens = classes-next w c.args.applets cs k x c.loop-number.before true t c.loop-number.rows c.push.new.self
                (classes_from w c.args.applets 0 0 cs) lt at e low.1 c.in_ok-push-in-Some.ensures.ok
                c.loop-number.invariant.tokens;
            breaks = breaks-next w c.args.applets cs k c.args.world.now.lines x (breaks_from w c.args.applets
                c.args.world.now.lines 0 cs) lt at low.0 c.loop-number.invariant.breaks;
            exported = exported-next w c.args.applets cs k x c.loop-number.before (count_exported w c.args.applets 0 cs)
                true lt at e c.loop-number.invariant.exported;
          })
      | else-is_exported b ↦ rw b.before-is (
          let e : is_exported w c.args.applets (declared k x) ≡ false = sym c.is_exported.ensures
          ∙ b.if-is_exported.false in
          record {
            tokens = classes-next w c.args.applets cs k x c.loop-number.before false t c.loop-number.rows
                c.push.new.self (classes_from w c.args.applets 0 0 cs) lt at e low.1 c.in_ok-push-in-Some.ensures.ok
                c.loop-number.invariant.tokens;
            breaks = breaks-next w c.args.applets cs k c.args.world.now.lines x (breaks_from w c.args.applets
                c.args.world.now.lines 0 cs) lt at low.0 c.loop-number.invariant.breaks;
            exported = exported-next w c.args.applets cs k x c.loop-number.before (count_exported w c.args.applets 0 cs)
                false lt at e c.loop-number.invariant.exported;
          })
    ]

pub returns : goal.returns
unfolding token_breaks
returns c =
    let w = all_classes c.args.world.now in
    let cs = c.args.world.now.classes in
    let past : length cs ≤ c.loop-number.number = omega (arith, c.loop-number-test.false, c.requires.count) in (
      breaks-end w c.args.applets cs c.loop-number.number c.args.world.now.lines (breaks_from w c.args.applets
          c.args.world.now.lines 0 cs) past c.loop-number.invariant.breaks,
      classes-end w c.args.applets cs c.loop-number.number c.loop-number.before c.loop-number.rows
          (classes_from w c.args.applets 0 0 cs) past c.loop-number.invariant.tokens,
    )
