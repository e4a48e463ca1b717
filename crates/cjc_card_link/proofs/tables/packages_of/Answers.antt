use Rattle.std.proofs.Common.{◌≡◌, ◌++◌, List, [], ◌∷◌, length, map, sym, ap, ◌∙◌, arith, subst}
use Rattle.std.specs.List.{AllByRecursion}
use Rattle.std.specs.Vec.Iter.{into_iter_items}
use Rattle.cjc_card_semantics.specs.Machine.Loaded.{Part}
use Rattle.cjc_card_link.specs.declared.part.GroupPart.{GroupPart}
use Rattle.cjc_card_link.specs.Group.{group_part}
use Rattle.cjc_card_link.proofs.Gathering.{HasSmallClass, first_small, parts_all, parts_more}
use Rattle.cjc_card_link.proofs.tables.packages_of.Goals as goal

pub loop-part-init : goal.loop-part-init
loop-part-init c = (
  ap (λ (qs : List Part). qs ++ map group_part (into_iter_items c.into_iter-part-iterator.result))
      c.new-packages.ensures,
  subst (λ (ps : List GroupPart). AllByRecursion HasSmallClass ps)
      (sym (c.into_iter-part-iterator.ensures.into_iter_gives.0 ∙ c.into_vec-part-items.ensures)) c.requires,
)

pub package_of-requires : goal.package_of-requires
package_of-requires c = (first_small _ c.in-Some.part _ c.in-Some.ensures.steps.0 c.loop-part.invariant.1).0

pub loop-part-preserved : goal.loop-part-preserved
loop-part-preserved c =
    let steps = c.in-Some.ensures.steps.0 in (
      parts_more _ c.in-Some.part _ c.loop-part.packages _ _ steps
          (c.in_ok-push.ensures.ok ∙ ap (λ (q : Part). c.loop-part.packages ++ q ∷ []) c.in_ok-package.ensures)
          c.loop-part.invariant.0,
      (first_small _ c.in-Some.part _ steps c.loop-part.invariant.1).1,
    )

pub returns : goal.returns
returns c =
    let left = c.loop-part.part-iterator in
    let none : length (into_iter_items left) ≡ 0 = let ok = left.rest.ok in let len = c.in-None.ensures.steps.0
    in omega (arith, ok.0, len) in
    parts_all (into_iter_items left) c.loop-part.packages _ none c.loop-part.invariant.0
    ∙ ap (λ (ps : List GroupPart). map group_part ps)
    (c.into_iter-part-iterator.ensures.into_iter_gives.0 ∙ c.into_vec-part-items.ensures)
