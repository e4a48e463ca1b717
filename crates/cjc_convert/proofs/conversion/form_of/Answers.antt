use Rattle.std.proofs.Common.{◌≡◌, [], ◌∷◌, ◌∙◌, arith, sym, length, ap}
use Rattle.cjc_code.specs.PackageCodes.{all_codes}
use Rattle.cjc_first.specs.FirstForm.{line_of}
use Rattle.cjc_first.proofs.Forms.{one_item, form_codes}
use Rattle.cjc_convert.proofs.Converting.{if_none, none_are, one_code_insns, form_found, root_none, class_none}
use Rattle.cjc_convert.proofs.conversion.form_of.Goals as goal

pub returns-in_err-root-clause-none : goal.returns-in_err-root-clause-none
returns-in_err-root-clause-none c = λ files all. if_none c.from_residual.result _ (λ parts form.
    let one : c.items-3.result.now ≡ c.lang-item.result ∷ [] = one_item _ _ (omega arith) (omega arith) c.lang-item.is in
    root_none c.args.list.now files c.args.world.now c.args.codes.now c.lang-item.result parts all (sym (c.items-3.ensures ∙ c.exports.ensures) ∙ one) c.in_err-root.ensures.none form)

pub returns-in_err-params-clause-none : goal.returns-in_err-params-clause-none
returns-in_err-params-clause-none c = λ files all. if_none c.from_residual-in_err-params.result _ (λ parts form.
    let one : c.items-2.result.now ≡ c.tree-item.result ∷ [] = one_item _ _ (omega arith) (omega arith) c.tree-item.is in
    class_none c.args.list.now files c.args.world.now c.args.codes.now c.tree-item.result parts all (sym (c.items-2.ensures ∙ c.classes.ensures) ∙ one) (c.in_err-params.ensures.none (line_of c.args.list.now) (sym c.items-4.ensures)) form)

pub bounds-codes-0 : goal.bounds-codes-0
bounds-codes-0 c =
    let one : c.items-2.result.now ≡ c.tree-item.result ∷ [] = one_item _ _ (omega arith) (omega arith) c.tree-item.is in
    let f = c.in_ok-params.ensures.found (line_of c.args.list.now) (sym c.items-4.ensures) in
    let codes = c.requires ∙ ap all_codes (sym (c.items-2.ensures ∙ c.classes.ensures) ∙ one) in
    omega (arith, ap length (form_codes _ _ _ f.form codes))

pub returns-clause-found : goal.returns-clause-found
returns-clause-found c = λ files all.
    let tree : c.items-2.result.now ≡ c.tree-item.result ∷ [] = one_item _ _ (omega arith) (omega arith) c.tree-item.is in
    let lang : c.items-3.result.now ≡ c.lang-item.result ∷ [] = one_item _ _ (omega arith) (omega arith) c.lang-item.is in
    let with = c.in_ok-params.ensures.found (line_of c.args.list.now) (sym c.items-4.ensures) in
    let code = form_codes _ _ _ with.form (c.requires ∙ ap all_codes (sym (c.items-2.ensures ∙ c.classes.ensures) ∙ tree)) in
    let applets = sym c.items.ensures ∙ none_are c.items.result.now (sym c.is_empty.ensures ∙ c.if-not-is_empty.false) in
    let f = one_code_insns c.args.list.now _ _ _ c.index-codes-0.result _ _ code c.items-5.ensures with in
    form_found c.args.list.now files c.args.world.now c.args.codes.now _ applets all (sym (c.items-2.ensures ∙ c.classes.ensures) ∙ tree) (sym (c.items-3.ensures ∙ c.exports.ensures) ∙ lang) c.in_ok-root.ensures.found f
