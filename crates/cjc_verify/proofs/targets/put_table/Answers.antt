use Rattle.std.proofs.Common.{List, ◌≡◌, ℕ, ap, [], ◌∷◌, ◌++◌, ◌∙◌, arith, length, map, rules}
use Rattle.std.proofs.lemmas.Slice.{between_to_end}
use Rattle.cjc_capread.specs.Decoder.Decoded.{numbers}
use Rattle.cjc_card_acts.specs.CardSemantics.Machine.Operations.{moved}
use Rattle.cjc_methods.specs.LowerCheck.Jumps.Offsets.{offsets_in}
use Rattle.cjc_verify.proofs.Jumps.{no_target_left, target_more}
use Rattle.cjc_verify.proofs.targets.put_table.Goals as goal

pub loop-rest-preserved : goal.loop-rest-preserved
loop-rest-preserved c =
    let m = c.args.table.matches in
    let put : c.put_target.new.targets ≡ c.loop-rest.targets ++ moved c.args.at c.operand.result ∷ [] = search rules in
    ap (λ (ys : List ℕ). c.put_target.new.targets ++ map (moved c.args.at) (offsets_in m (numbers m ys)))
    (between_to_end c.loop-rest.rest.now c.entry_size-size.result (length c.loop-rest.rest.now) (omega arith))
    ∙ target_more c.loop-rest.targets c.put_target.new.targets _ c.args.at c.entry_size-size.result m
    c.loop-rest.rest.now _ c.operand.result c.entry_size-size.ensures c.loop-rest-test.true c.operand.ensures
    c.loop-rest.invariant put

pub returns : goal.returns
returns c = no_target_left c.loop-rest.targets _ c.args.at c.entry_size-size.result c.args.table.matches
    c.loop-rest.rest.now c.entry_size-size.ensures c.loop-rest-test.false c.loop-rest.invariant
