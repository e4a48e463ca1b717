use Rattle.std.proofs.Common.{◌≡◌, ◌∙◌, sym, ap, subst, List, [], length, map, arith}
use Rattle.std.specs.Prelude.{Ok, option_map}
use Rattle.std.proofs.lemmas.Result.{err_from_is_err_and}
use Rattle.cjc_bytes.specs.Breaks.{IsFirstOf}
use Rattle.cjc_bytes.specs.Told.{break_of}
use Rattle.cjc_bytes.proofs.BrokenRules.{break_kept}
use Rattle.cjc_bytes.proofs.Gets.{written_back}
use Rattle.cjc_subset.specs.LowerBytecode.declared.method_code.MethodCode.{MethodCode}
use Rattle.cjc_subset.specs.LowerClassFile.declared.tree.ClassTree.{ClassTree}
use Rattle.cjc_subset.specs.LowerWorld.declared.image.ArrayCell.{ArrayCell}
use Rattle.cjc_clinit.specs.declared.stage.Held.{Held}
use Rattle.cjc_clinit.specs.Initialiser.{nothing_in}
use Rattle.cjc_clinit.specs.Working.Reading.{after_codes, image_breaks, puts}
use Rattle.cjc_clinit.proofs.Answered.{refusing, unbroken}
use Rattle.cjc_clinit.proofs.Told.{image-is}
use Rattle.cjc_clinit.proofs.static_image.image.Goals as goal

pub returns-in_err-answer-clause-refused : goal.returns-in_err-answer-clause-refused
returns-in_err-answer-clause-refused c =
    let w = c.args.world.now in
    let codes = c.args.codes.now in
    let first = subst (λ (q : List MethodCode). IsFirstOf (image_breaks w q)
    (option_map break_of c.in_ok-broken.broken)) c.items-2.ensures c.in_ok-broken.ensures.first in
    let p = err_from_is_err_and c.from_residual-in_err-answer.result c.from_residual-in_err-answer.ensures.1 in
    rw (p.1, p.2) (refusing w codes (image_breaks w codes) (image-is w codes) _ (c.in_err-answer.ensures.refused
    (image_breaks w codes) first))

pub image_after-requires : goal.image_after-requires
image_after-requires c =
    let w = c.args.world.now in
    let codes = c.args.codes.now in
    let first = subst (λ (q : List MethodCode). IsFirstOf (image_breaks w q)
    (option_map break_of c.in_ok-broken.broken)) c.items-2.ensures c.in_ok-broken.ensures.first in
    let none = c.in_ok-answer.ensures.ok (image_breaks w codes) first in
    let e = break_kept break_of c.in_ok-broken.broken (image_breaks w codes) _ none first c.in_ok-broken.ensures.puts in
    let began : c.deref_mut.result.now ≡ map nothing_in w.classes = c.deref_mut.ensures.value ∙ c.in_ok-rows.ensures
    ∙ ap (λ (q : List ClassTree). map nothing_in q) (c.items.ensures ∙ c.classes.ensures) in
    let value : c.deref_mut.result.now ≡ c.in_ok-rows.rows.items = c.deref_mut.ensures.value in
    let same : length c.image_break.new.rows ≡ length c.in_ok-rows.rows.items =
    omega (arith, ap (λ (q : List (List Held)). length q) value) in
    let len : c.in_ok-rows.rows.len ≡ length c.in_ok-rows.rows.items = omega arith in
    let rows : c.deref.result.now ≡ c.image_break.new.rows = c.deref.ensures.value
    ∙ written_back c.image_break.new.rows c.in_ok-rows.rows.items c.in_ok-rows.rows.len same len in
    ap (λ (q : List (List Held)). after_codes w (puts q []) c.items-3.result.now) (sym began)
    ∙ ap (λ (q : List ArrayCell). after_codes w (puts c.deref_mut.result.now q) c.items-3.result.now)
    (sym c.new-arrays.ensures)
    ∙ ap (λ (q : List MethodCode). after_codes w (puts c.deref_mut.result.now c.new-arrays.result) q) (c.items-3.ensures
    ∙ sym c.items-2.ensures)
    ∙ e ∙ ap (λ (q : List (List Held)). Ok (puts q c.image_break.new.arrays)) (sym rows)

pub returns-clause-unbroken : goal.returns-clause-unbroken
returns-clause-unbroken c =
    let w = c.args.world.now in
    let codes = c.args.codes.now in
    let first = subst (λ (q : List MethodCode). IsFirstOf (image_breaks w q)
    (option_map break_of c.in_ok-broken.broken)) c.items-2.ensures c.in_ok-broken.ensures.first in
    unbroken w codes (image_breaks w codes) (image-is w codes) (c.in_ok-answer.ensures.ok (image_breaks w codes) first)
