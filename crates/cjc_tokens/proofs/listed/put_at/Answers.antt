use Rattle.std.proofs.Common.{◌≡◌, ◌∙◌, ap, sym, ◌++◌, ◌∷◌, [], rules, arith, None, length, ◌≤◌, ◌<◌, true, false}
use Rattle.std.specs.Prelude.{option_map, is_some}
use Rattle.cjc_tokens.specs.Working.{alone, overlay, signature_in, signs}
use Rattle.cjc_tokens.proofs.Overlays.{pad-row, fill_none-row, fill_some-row}
use Rattle.cjc_tokens.proofs.listed.put_at.Goals as goal

pub loop-row-preserved : goal.loop-row-preserved
loop-row-preserved c =
    let pushed : c.push.new.self.items ≡ c.loop-row.row.items ++ None ∷ [] = search rules in
    let short : length c.loop-row.row.items ≤ c.args.token = omega arith in
    ap (λ q. overlay (signs q) (alone c.args.token (option_map signature_in c.args.slot))) pushed
    ∙ pad-row c.loop-row.row.items c.args.token c.args.slot short ∙ c.loop-row.invariant

pub returns-then-is_none : goal.returns-then-is_none
returns-then-is_none c =
    let lt : c.args.token < length c.loop-row.row.items = omega arith in
    let none : is_some c.index.result.now ≡ false = grind arith in
    sym (fill_none-row c.loop-row.row.items c.args.token c.args.slot c.index.result.now lt c.index.ensures none)
    ∙ c.loop-row.invariant

pub returns-else-is_none : goal.returns-else-is_none
returns-else-is_none c =
    let lt : c.args.token < length c.loop-row.row.items = omega arith in
    let some : is_some c.index.result.now ≡ true = grind arith in
    sym (fill_some-row c.loop-row.row.items c.args.token c.args.slot c.index.result.now lt c.index.ensures some)
    ∙ c.loop-row.invariant
