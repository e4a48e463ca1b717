use Rattle.std.proofs.Common.{◌≡◌, ◌∙◌, ℕ, ap, rules, subst}
use Rattle.cjc_card_calls.specs.Files.Files.{classes_at, line_under}
use Rattle.cjc_card_calls.specs.LowerCardLink.Tables.{loaded_of}
use Rattle.cjc_verify.specs.Named.{exported, line_of}
use Rattle.cjc_verify.specs.Pairs.{Pair}
use Rattle.cjc_verify.proofs.DescribedLaws.Entries.{line_is}
use Rattle.cjc_verify.proofs.described.named.line_of.Goals as goal

pub returns : goal.returns
returns c =
    let i = c.pair.inside in
    let same : c.from.result ≡ c.args.import = search rules in
    subst (λ (p : Pair). classes_at c.line.result.now ≡ line_of p.files.exports (exported p c.args.import c.args.class))
    c.pair.view_is (c.line.ensures
    ∙ ap (λ (n : ℕ). line_under i.files.now n c.args.class) same
    ∙ c.pair.invariant.files_kept c.args.import c.args.class
    ∙ line_is (loaded_of i.tables.now) i.world.now.exports c.args.import c.args.class c.pair.invariant.same_files)
