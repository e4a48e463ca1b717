use Rattle.std.proofs.Common.{◌≡◌, sym, ◌∙◌, Some}
use Rattle.cjc_methods.specs.Tokens.Tokens.{assigned}
use Rattle.cjc_judge.specs.Rules.{has_applets}
use Rattle.cjc_shape.proofs.PreparedLaws.Sound.{are_assigned}
use Rattle.cjc_shape.proofs.whole.shaping.tokens_in.Goals as goal

pub returns : goal.returns
returns c =
    let j = c.args.judged.now in
    let same : Some c.in-Some.tokens ≡ Some (assigned (has_applets j.list.now) j.world) = sym c.in-Some.is
    ∙ are_assigned j.list.now j.files.now j c.requires in
    cc

pub unreachable-requires : goal.unreachable-requires
unreachable-requires c =
    let j = c.args.judged.now in
    let some : j.tokens ≡ Some (assigned (has_applets j.list.now) j.world) = are_assigned j.list.now j.files.now j
    c.requires in
    let none = c.in-None.is in
    absurd cc
