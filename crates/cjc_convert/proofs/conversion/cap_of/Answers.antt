use Rattle.std.proofs.Common.{◌≡◌, Some, get_or, sym, ap, ◌∙◌}
use Rattle.std.specs.Option.{option_copied}
use Rattle.cjc_classfile.specs.declared.tree.MethodTree.{MethodTree}
use Rattle.cjc_first.specs.FirstForm.{ops_of}
use Rattle.cjc_convert.specs.Conversion.{parts_of}
use Rattle.cjc_first.proofs.Small.{sum_local}
use Rattle.cjc_convert.proofs.Converting.{cap_found}
use Rattle.cjc_convert.proofs.conversion.cap_of.Goals as goal

pub tree_for-requires-clause-locals : goal.tree_for-requires-clause-locals
tree_for-requires-clause-locals c = let f = c.requires.form in rw (← f.insns_are) (sum_local f.form.params (ops_of f.form.insns) f.form.is_sum.few f.form.is_sum.is_sum.is_sum)

pub returns : goal.returns
returns c =
    let f = c.requires.form in
    let method : c.index-items-0.result ≡ f.form.method = c.index-items-0.is ∙ ap (λ ms. get_or ms 0 c.index-items-0.result) (c.items.ensures ∙ f.form.methods) in
    let copied : option_copied c.as_ref.result ≡ Some c.unwrap-code.result.now = ap option_copied c.unwrap-code.ensures in
    let both = sym copied ∙ c.as_ref.ensures.value ∙ ap (λ (m : MethodTree). m.code) method ∙ f.form.is_sum.has_code in
    let code : f.form.code ≡ c.unwrap-code.result.now = cc in
    cap_found _ (parts_of c.args.form.now) _ _ f code c.tree_for.ensures
