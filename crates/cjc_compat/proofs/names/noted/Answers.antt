use Rattle.std.proofs.Common.{List, ℕ, ◌++◌, ◌∷◌, [], ◌||◌, ap, sym, ◌∙◌, take}
use Rattle.std.proofs.lemmas.List.{take_more, take_all}
use Rattle.std.specs.Str.{bytes_eq}
use Rattle.cjc_compat.specs.Working.Names.{is_noted}
use Rattle.cjc_export.specs.Supers.{is_one_of}
use Rattle.cjc_compat.proofs.Noting.{one_more}
use Rattle.cjc_compat.proofs.names.noted.Goals as goal

pub loop-name-init : goal.loop-name-init
loop-name-init c = c.new-names.ensures

pub loop-name-preserved : goal.loop-name-preserved
loop-name-preserved c = λ x.
    let i = c.loop-name.name-index in
    let names = c.args.list.now in
    c.in_ok-note.ensures x
    ∙ ap (λ (y : List ℕ). bytes_eq y x || is_noted c.loop-name.names x) c.items.ensures
    ∙ ap (λ b. bytes_eq c.name-item.result x || b) (c.loop-name.invariant x)
    ∙ sym (one_more (take i names) c.name-item.result x)
    ∙ sym (ap (λ (xs : List (List ℕ)). is_one_of xs x) (take_more names i c.name-item.result c.loop-name-test.true
    ∙ ap (λ (y : List ℕ). take i names ++ y ∷ []) (sym c.name-item.is)))

pub returns : goal.returns
returns c = λ x. c.loop-name.invariant x ∙ ap (λ (xs : List (List ℕ)). is_one_of xs x) (take_all
    c.loop-name.name-index c.args.list.now c.loop-name-test.false)
