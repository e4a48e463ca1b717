use Rattle.std.proofs.Common.{◌≡◌, ℕ, ◌-◌, ◌<◌, ◌≤◌, List, [], ◌∷◌, ◌++◌, Bool, Some, length, get_or, OnOk, sym, ap}
use Rattle.std.proofs.Common.{◌∙◌, arith, refl, subst}
use Rattle.std.proofs.lemmas.List.{append-nil}
use Rattle.std.proofs.lemmas.Option.{slice_get-get_or}
use Rattle.cjc_code.specs.declared.raw.Raw.{Raw}
use Rattle.cjc_code.specs.Unfit.{where_true, where_it_may, may_go_on, last_places}
use Rattle.cjc_code.proofs.unfit.put_last.Goals as goal

last_of_none : (insns : List Raw) → length insns < 1 → last_places insns ≡ []
last_of_none [] h = refl
last_of_none (i ∷ insns) h = absurd (omega arith)

pub returns-in-empty : goal.returns-in-empty
returns-in-empty c =
    let places = c.args.places.now in
    sym (append-nil places) ∙ ap (λ (ps : List ℕ). places
    ++ ps) (sym (last_of_none c.args.insns.now c.in-empty.len_below))

last_of_some : (insns : List Raw) (d : Raw) → 1 ≤ length insns → d ≡ get_or insns (length insns - 1) d
    → last_places insns ≡ where_true (may_go_on d.family) d.at
last_of_some insns d some is =
    let lt : length insns - 1 < length insns = omega arith in
    ap where_it_may (slice_get-get_or insns (length insns - 1) d lt ∙ ap Some (sym is))

pub returns-in-len1-up : goal.returns-in-len1-up
returns-in-len1-up c =
    let places = c.args.places.now in
    let last = c.last-item.result in
    let put : where_true c.may_go_on.result c.from.result ≡ last_places c.args.insns.now =
    ap (λ (b : Bool). where_true b c.from.result) c.may_go_on.ensures
    ∙ (ap (λ (n : ℕ). where_true (may_go_on last.family) n) c.from.ensures
    ∙ sym (last_of_some c.args.insns.now last c.in-len1-up.len_at_least c.last-item.is)) in
    subst (λ (ps : List ℕ). OnOk c.put.result (c.put.new.places ≡ places ++ ps)) put c.put.ensures
