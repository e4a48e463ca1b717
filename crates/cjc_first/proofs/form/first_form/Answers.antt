use Rattle.std.proofs.Common.{◌≡◌, [], ◌∷◌, sym, ◌∙◌, rules}
use Rattle.cjc_first.specs.Tests.{HasPlainClass}
use Rattle.cjc_first.proofs.Forms.{one_item, form_found, form_none}
use Rattle.cjc_first.proofs.form.first_form.Goals as goal

pub returns-clause-found : goal.returns-clause-found
returns-clause-found c = λ line e.
    let plain : HasPlainClass line.name c.args.tree.now = rw e (c.has_plain_class.ensures.0 (search rules)) in
    let methods : c.args.tree.now.methods ≡ c.method-item.result ∷ [] = sym c.items.ensures ∙ one_item _ _ c.in-len1.len_at_least c.in-len1.len_below c.method-item.is in
    let codes : c.args.codes.now ≡ c.code-item.result ∷ [] = one_item _ _ c.in-len1-codes.len_at_least c.in-len1-codes.len_below c.code-item.is in
    form_found line c.args.tree.now c.method-item.result c.code-item.result c.args.codes.now c.sum_method.result plain methods c.requires codes (rw c.items-2.ensures at c.sum_method.ensures.found)

pub returns-clause-none : goal.returns-clause-none
returns-clause-none c = λ line e.
    let methods : c.args.tree.now.methods ≡ c.method-item.result ∷ [] = sym c.items.ensures ∙ one_item _ _ c.in-len1.len_at_least c.in-len1.len_below c.method-item.is in
    let codes : c.args.codes.now ≡ c.code-item.result ∷ [] = one_item _ _ c.in-len1-codes.len_at_least c.in-len1-codes.len_below c.code-item.is in
    form_none line c.args.tree.now c.method-item.result c.code-item.result c.args.codes.now c.sum_method.result methods c.requires codes (rw c.items-2.ensures at c.sum_method.ensures.none)
