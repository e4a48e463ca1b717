use Rattle.std.proofs.Common.{ℕ, Bool, cond, false, map, ap, ◌∙◌}
use Rattle.std.specs.Prelude.{◌&&◌}
use Rattle.cjc_ncode.specs.LowerScript.Sorts.{sort_of}
use Rattle.cjc_int_mode.specs.Working.Scratch.{has_short_before}
use Rattle.cjc_int_mode.proofs.Words.{pairs_are}
use Rattle.cjc_int_mode.proofs.descriptors.scratch_pairs.Goals as goal

pub returns : goal.returns
returns c =
    let d = c.args.desc.now in
    c.pairs_if.ensures
    ∙ ap (λ (b : Bool). cond b c.params.result 0) c.goes_by_scratch.ensures
    ∙ ap (λ (n : ℕ). cond (d.is_method && has_short_before false (map sort_of d.params)) n 0) c.params.ensures
    ∙ pairs_are d
