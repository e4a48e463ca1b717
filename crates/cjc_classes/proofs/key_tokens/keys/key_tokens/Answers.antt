use Rattle.std.proofs.Common.{◌∙◌, ap, map}
use Rattle.cjc_classes.specs.Entries.{key_token}
use Rattle.cjc_bytes.proofs.Gets.{take_past, rows_next}
use Rattle.cjc_classes.proofs.key_tokens.keys.key_tokens.Goals as goal

pub loop-key-preserved : goal.loop-key-preserved
loop-key-preserved c = λ p e. c.in_ok-push.ensures.ok ∙ rows_next (key_token p) c.loop-key.row c.args.keys.now
    c.loop-key.key-index c.key-item.result c.in_ok-key_token.field-0 c.loop-key-test.true c.key-item.is
    (c.in_ok-key_token.ensures p e) (c.loop-key.invariant p e)

pub returns : goal.returns
returns c = λ p e. c.loop-key.invariant p e ∙ ap (map (key_token p)) (take_past c.args.keys.now c.loop-key.key-index
    c.loop-key-test.false)
