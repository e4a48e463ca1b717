use Rattle.std.proofs.Common.{◌+◌, List, ℕ, drop, sym, ap, ◌∙◌, [], ◌∷◌, ◌++◌}
use Rattle.std.specs.Prelude.{if◌then◌else◌}
use Rattle.std.specs.List.{list_any}
use Rattle.std.specs.Str.{bytes_eq}
use Rattle.cjc_subset.specs.Limits.{noted}
use Rattle.cjc_subset.proofs.Noted.{name_on, names_done}
use Rattle.cjc_subset.proofs.interfaces.note.Goals as goal

pub loop-name-preserved : goal.loop-name-preserved
loop-name-preserved c =
    let rest = drop (c.loop-name.name-index + 1) c.args.names.now in
    let known = c.loop-name.known in
    ap (λ (ks : List (List ℕ)). noted ks rest) (c.in_ok-note_one.ensures
    ∙ ap (λ (x : List ℕ). if list_any (λ y. bytes_eq y x) known then known else known ++ x ∷ []) c.items.ensures)
    ∙ sym (name_on c.args.names.now c.loop-name.name-index c.name-item.result c.loop-name-test.true c.name-item.is
    known)
    ∙ c.loop-name.invariant

pub returns : goal.returns
returns c = sym (names_done c.args.names.now c.loop-name.known c.loop-name.name-index c.loop-name-test.false)
    ∙ c.loop-name.invariant
