use Rattle.std.proofs.Common.{◌≡◌, ◌+◌, ◌∷◌, ◌++◌, [], ℕ, List, Vec, drop, sym, ap, subst, ◌∙◌, append_assoc}
use Rattle.std.proofs.lemmas.List.{append-nil}
use Rattle.cjc_world.specs.Working.Numbers.{places_of}
use Rattle.cjc_world.proofs.Counted.{place-here, place-over, place-end}
use Rattle.cjc_world.proofs.numbers.places_of.Goals as goal
use Rattle.cjc_world.proofs.numbers.places_of.Goals.{then-is_of_kind+in_ok-push, else-is_of_kind}

pub loop-place-preserved : goal.loop-place-preserved
loop-place-preserved c =
    let b = c.args.imported in
    let ss = c.args.spots.now in
    let i = c.loop-place.place in
    elim c.if-is_of_kind.branch [
      | then-is_of_kind+in_ok-push w ↦
          ap (λ v. Vec.items v ++ places_of b (i + 1) (drop (i + 1) ss)) w.places-is
          ∙ ap (λ ps. ps ++ places_of b (i + 1) (drop (i + 1) ss)) w.in_ok-push.ensures.items
          ∙ append_assoc c.loop-place.places.items (i ∷ []) (places_of b (i + 1) (drop (i + 1) ss))
          ∙ ap (λ ps. c.loop-place.places.items
          ++ ps) (sym (place-here b ss i _ c.loop-place-test.true (sym c.is_of_kind.ensures
          ∙ w.if-is_of_kind.true)))
          ∙ c.loop-place.invariant
      | else-is_of_kind w ↦
          ap (λ v. Vec.items v ++ places_of b (i + 1) (drop (i + 1) ss)) w.places-is
          ∙ ap (λ ps. c.loop-place.places.items
          ++ ps) (sym (place-over b ss i _ c.loop-place-test.true (sym c.is_of_kind.ensures
          ∙ w.if-is_of_kind.false)))
          ∙ c.loop-place.invariant
    ]

pub returns : goal.returns
returns c =
    c.of.ensures
    ∙ sym (append-nil c.loop-place.places.items)
    ∙ ap (λ ps. c.loop-place.places.items ++ ps) (sym (place-end c.args.imported c.args.spots.now c.loop-place.place
    c.loop-place-test.false))
    ∙ c.loop-place.invariant
