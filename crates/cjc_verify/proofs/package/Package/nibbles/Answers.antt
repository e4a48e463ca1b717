use Rattle.std.proofs.Common.{◌≡◌, ◌∙◌, ap}
use Rattle.cjc_bytes.proofs.Options.{if_more}
use Rattle.cjc_verify.proofs.Nibbles.{card_is_own}
use Rattle.cjc_verify.specs.Pairs.{Pair, nibbles_of}
use Rattle.cjc_verify.specs.Working.Ready.{pair_by}
use Rattle.cjc_verify.proofs.package.Package.nibbles.Goals as goal

pub returns : goal.returns
returns c =
    let x = c.self.inside in
    let p : Pair = pair_by x.world.now x.tokens.now x.image.now x.parts.now x.tables.now in
    if_more
    (λ n e. e ∙ card_is_own p x.refs.now c.args.desc.now c.self.invariant.refs_kept
    ∙ ap (λ (q : Pair). nibbles_of q c.args.desc.now) c.self.view_is)
    c.card_nibbles.result c.card_nibbles.ensures
