use Rattle.std.proofs.lemmas.Result.{IfErr-weaker}
use Rattle.std.specs.Prelude.{option_map, option_to_list}
use Rattle.cjc_bytes.proofs.Options.{on_ok}
use Rattle.cjc_bytes.specs.Breaks.{IsFirstRefusal}
use Rattle.cjc_bytes.specs.Told.{break_of}
use Rattle.cjc_pairing.specs.CheckIndex.Lookup.Parts.{complete_of}
use Rattle.cjc_verify.proofs.Firsts.{alone, none_broken}
use Rattle.cjc_verify.proofs.Verified.{is_refused}
use Rattle.cjc_verify.specs.Pairs.{pair_of}
use Rattle.cjc_verify.specs.Verified.{Breaks, IsRefused}
use Rattle.cjc_verify.proofs.checker.verify_parts.Goals as goal

pub returns-clause-verified : goal.returns-clause-verified
returns-clause-verified c = λ applets is.
    let p = pair_of applets c.args.world.now c.args.image.now (complete_of c.args.parts.now) in
    let o = option_map break_of c.in_ok-broken.broken in
    on_ok c.answer.result (λ unbroken. none_broken (Breaks p) o (c.in_ok-broken.ensures applets is) unbroken)
    (c.answer.ensures.ok (option_to_list o) (alone o))

pub returns-clause-refused : goal.returns-clause-refused
returns-clause-refused c = λ applets is.
    let p = pair_of applets c.args.world.now c.args.image.now (complete_of c.args.parts.now) in
    let o = option_map break_of c.in_ok-broken.broken in
    IfErr-weaker c.answer.result (IsFirstRefusal (option_to_list o)) (IsRefused p)
    (λ e h. is_refused p o e (c.in_ok-broken.ensures applets is) h) (c.answer.ensures.refused (option_to_list o)
    (alone o))
