use Rattle.std.proofs.Common.{◌≡◌, ◌++◌, [], ◌∷◌, ◌∙◌, ap, sym, subst, drop}
use Rattle.std.specs.Prelude.{Some, None}
use Rattle.std.proofs.lemmas.List.{append-nil, take_rest}
use Rattle.std.proofs.lemmas.Result.{on_ok_weaker}
use Rattle.cjc_world.specs.Classes.{all_classes}
use Rattle.cjc_jvm_link.specs.Fresh.{fresh_in, fresh_fields, HasEach}
use Rattle.cjc_jvm_link.proofs.Above.{fresh_none}
use Rattle.cjc_jvm_link.proofs.Keeping.{empty, first_of_all, above_some, above_none}
use Rattle.cjc_jvm_link.proofs.fresh.Fresh.+put_above.Goals as goal

pub returns-in-empty : goal.returns-in-empty
returns-in-empty t c =
    let w = all_classes c.args.world.now in
    let none : c.args.names.now ≡ [] = empty c.args.names.now c.in-empty.len_below in
    sym (append-nil c.args.fields.now) ∙ ap (λ z. c.args.fields.now ++ z) (sym (ap (fresh_fields w) none
    ∙ fresh_none w c.acyclic.ensures))

pub returns-in-Some : goal.returns-in-Some
returns-in-Some t c =
    let w = all_classes c.args.world.now in
    let names = c.args.names.now in
    let name = c.name-item.result in
    let old = c.args.fields.now in
    let more = c.in-Some.more.now in
    let are : names ≡ name ∷ drop 1 names = first_of_all names name c.in-len1-up.len_at_least c.name-item.is in
    let kept : fresh_in c.args.self.now name ≡ Some more = ap (fresh_in c.args.self.now) (sym c.items.ensures)
    ∙ sym c.in-Some.ensures in
    on_ok_weaker c.put_copies.result (λ put. put
    ∙ ap (λ z. z ++ more) (c.in_ok-put_above-in-len1-up.ensures
    ∙ ap (λ ns. old ++ fresh_fields w ns) (take_rest names 1))
    ∙ above_some w c.acyclic.ensures c.args.self.now c.requires.fresh name (drop 1 names) old more kept
    ∙ ap (λ ns. old ++ fresh_fields w ns) (sym are)) c.put_copies.ensures

pub returns-in-None : goal.returns-in-None
returns-in-None t c =
    let w = all_classes c.args.world.now in
    let names = c.args.names.now in
    let name = c.name-item.result in
    let old = c.args.fields.now in
    let are : names ≡ name ∷ drop 1 names = first_of_all names name c.in-len1-up.len_at_least c.name-item.is in
    let none : fresh_in c.args.self.now name ≡ None = ap (fresh_in c.args.self.now) (sym c.items.ensures)
    ∙ sym c.in-None.ensures in
    let has : HasEach w c.args.self.now (name ∷ drop 1 names) = subst (HasEach w c.args.self.now) are c.requires.has in
    c.in_ok-put_above-in-len1-up.ensures
    ∙ ap (λ ns. old ++ fresh_fields w ns) (take_rest names 1)
    ∙ ap (λ z. old ++ z) (above_none w c.acyclic.ensures c.args.self.now name (drop 1 names) has.0 none)
    ∙ ap (λ ns. old ++ fresh_fields w ns) (sym are)
