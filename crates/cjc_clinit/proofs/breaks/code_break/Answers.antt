use Rattle.std.proofs.Common.{◌≡◌, ◌∙◌, sym, ap, subst, List, ℕ}
use Rattle.std.specs.Prelude.{Option, Err, option_map}
use Rattle.cjc_bytes.specs.Breaks.{Break, IsFirstOf}
use Rattle.cjc_bytes.specs.Told.{break_of}
use Rattle.cjc_clinit.specs.Working.Reading.{after_code, puts, puts_as}
use Rattle.cjc_clinit.proofs.Told.{none-broken, one-broken, offset-there}
use Rattle.cjc_clinit.proofs.Effects.{when-first}
use Rattle.cjc_clinit.proofs.breaks.code_break.Goals as goal

pub returns-in-None-clause-first : goal.returns-in-None-clause-first
returns-in-None-clause-first c =
    let before = puts c.args.rows.now c.args.arrays.now in
    let later = puts c.after_code.new.rows c.after_code.new.arrays in
    none-broken c.args.world.now c.args.code.now before later (c.in_ok-after_code.ensures
    ∙ ap (λ (q : Option ℕ). puts_as q later) c.in-None.is)

pub returns-in-Some-clause-first : goal.returns-in-Some-clause-first
returns-in-Some-clause-first c =
    let before = puts c.args.rows.now c.args.arrays.now in
    let later = puts c.after_code.new.rows c.after_code.new.arrays in
    let e : after_code c.args.world.now before c.args.code.now ≡ Err c.in-Some.offset = c.in_ok-after_code.ensures
    ∙ ap (λ (q : Option ℕ). puts_as q later) c.in-Some.is in
    subst (λ (q : List Break). IsFirstOf q (option_map break_of c.offset_break.result))
    (sym (one-broken c.args.world.now c.args.code.now before c.in-Some.offset e)) c.offset_break.ensures

pub returns-in-Some-clause-puts : goal.returns-in-Some-clause-puts
returns-in-Some-clause-puts c =
    let before = puts c.args.rows.now c.args.arrays.now in
    let later = puts c.after_code.new.rows c.after_code.new.arrays in
    let e : after_code c.args.world.now before c.args.code.now ≡ Err c.in-Some.offset = c.in_ok-after_code.ensures
    ∙ ap (λ (q : Option ℕ). puts_as q later) c.in-Some.is in
    when-first break_of _ c.offset_break.result _ c.offset_break.ensures (λ none. offset-there c.args.world.now
    c.args.code.now before c.in-Some.offset e none)
