use Rattle.std.proofs.Common.{◌≡◌, true, false, List, ℕ, ap, ◌∙◌, arith, rules, length}
use Rattle.std.specs.List.{list_all}
use Rattle.std.proofs.lemmas.Slice.{between_to_end}
use Rattle.cjc_check.specs.Codes.Bodies.{code_of}
use Rattle.cjc_capread.specs.Decoder.Decoded.{numbers}
use Rattle.cjc_check_rules.specs.Instructions.{lands}
use Rattle.cjc_check.specs.Jumps.Offsets.{offsets_in}
use Rattle.cjc_check.proofs.JumpsLaws.Lands.{goes_on, none_left, stops_at}
use Rattle.cjc_check.proofs.jumps.jumps.table_lands.Goals as goal

pub returns-then-not-lands : goal.returns-then-not-lands
returns-then-not-lands c =
    let fails : lands (code_of c.args.body.now) c.args.at c.operand.result ≡ false = search rules in
    stops_at (lands (code_of c.args.body.now) c.args.at) c.args.table.matches c.entry_size-size.result
    c.loop-rest.rest.now _ c.operand.result _ c.entry_size-size.ensures c.loop-rest-test.true c.operand.ensures
    fails c.loop-rest.invariant

pub loop-rest-preserved : goal.loop-rest-preserved
loop-rest-preserved c =
    let passes : lands (code_of c.args.body.now) c.args.at c.operand.result ≡ true = search rules in
    let P = lands (code_of c.args.body.now) c.args.at in
    let m = c.args.table.matches in
    ap (λ (ys : List ℕ). list_all P (offsets_in m (numbers m ys))) (between_to_end c.loop-rest.rest.now
    c.entry_size-size.result (length c.loop-rest.rest.now) (omega arith))
    ∙ goes_on P m c.entry_size-size.result c.loop-rest.rest.now _ c.operand.result _ c.entry_size-size.ensures
    c.loop-rest-test.true c.operand.ensures passes c.loop-rest.invariant

pub returns : goal.returns
returns c = none_left (lands (code_of c.args.body.now) c.args.at) c.args.table.matches c.entry_size-size.result
    c.loop-rest.rest.now _ c.entry_size-size.ensures c.loop-rest-test.false c.loop-rest.invariant
