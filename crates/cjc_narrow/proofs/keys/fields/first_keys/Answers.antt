use Rattle.std.proofs.Common.{arith, sym}
use Rattle.std.proofs.lemmas.List.{length-take-le, take_all}
use Rattle.cjc_narrow.proofs.keys.fields.first_keys.Goals as goal

pub slice_bounds-result-end : goal.slice_bounds-result-end
slice_bounds-result-end c = sym (length-take-le 256 c.args.keys.now (omega arith))

pub returns-else-keys-gt-NEAR : goal.returns-else-keys-gt-NEAR
returns-else-keys-gt-NEAR c = sym (take_all 256 c.args.keys.now (omega arith))
