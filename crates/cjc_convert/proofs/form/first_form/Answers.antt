use Rattle.std.proofs.Common.{◌≡◌, [], ◌∷◌, sym, ◌∙◌, rules}
use Rattle.cjc_convert.specs.Tests.{HasPlainClass}
use Rattle.cjc_convert.proofs.Forms.{one_item, form_found}
use Rattle.cjc_convert.proofs.form.first_form.Goals as goal

pub returns-in-len1-clause-found : goal.returns-in-len1-clause-found
returns-in-len1-clause-found c = λ line e.
    let plain : HasPlainClass line.name c.args.tree.now = rw e (c.has_plain_class.ensures.0 (search rules)) in
    let methods : c.args.tree.now.methods ≡ c.method-item.result ∷ [] = sym c.items.ensures ∙ one_item _ _ c.in-len1.len_at_least c.in-len1.len_below c.method-item.is in
    form_found _ _ _ _ plain methods c.sum_method.ensures.found
