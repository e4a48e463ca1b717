use Rattle.std.proofs.Common.{◌≡◌, ◌++◌, Bool, true, map, sym, ap, ◌∙◌, append_assoc}
use Rattle.std.specs.Prelude.{if◌then◌else◌}
use Rattle.std.specs.List.{list_any}
use Rattle.std.proofs.lemmas.Result.{on_ok_weaker}
use Rattle.cjc_int_mode.specs.Script.Sorts.{sort_of}
use Rattle.cjc_ncode.specs.IntCode.IntCode.{is_by_scratch, is_short}
use Rattle.cjc_int_mode.proofs.Words.{by_scratch}
use Rattle.cjc_int_narrow.specs.Working.Moves.{aside_all, back_all, narrowed_if}
use Rattle.cjc_int_narrow.proofs.calls.put_handed.Goals as goal

pub returns-then-has_short_before : goal.returns-then-has_short_before
returns-then-has_short_before c =
    let sorts = map sort_of c.args.desc.now.params in
    let first = c.args.scratch in
    let by : is_by_scratch sorts ≡ true = by_scratch sorts ∙ sym c.has_short_before.ensures
    ∙ c.if-has_short_before.true in
    on_ok_weaker c.put_back.result (
    λ more. more ∙ ap (λ out. out ++ back_all first sorts) c.in_ok-put_aside.ensures
    ∙ append_assoc c.args.out.now (aside_all first sorts) (back_all first sorts)
    ∙ ap (λ (b : Bool). c.args.out.now ++ (if b then aside_all first sorts ++ back_all first sorts
    else narrowed_if (list_any is_short sorts))) (sym by)
    ) c.put_back.ensures
