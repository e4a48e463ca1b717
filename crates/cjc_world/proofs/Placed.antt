-- The class of a number among those of spots, one spot further.
use Rattle.std.proofs.Common.{◌≡◌, ℕ, ◌<◌, ◌≤◌, ◌+◌, ap, subst, arith, suc, Bool, true, false, List, [], ◌∷◌, length, get_or, drop}
use Rattle.std.proofs.Common.{◌∙◌}
use Rattle.std.specs.Prelude.{All, Some, None, if◌then◌else◌}
use Rattle.std.proofs.lemmas.Grind.{common_steps}
use Rattle.cjc_world.specs.declared.spot.Spot.{Spot}
use Rattle.cjc_classfile.specs.declared.tree.ClassTree.{ClassTree}
use Rattle.cjc_export.specs.declared.tree.ExportTree.{ExportTree}
use Rattle.cjc_world.specs.Classes.{Class, class_at, is_at}
use Rattle.cjc_world.specs.Working.Spots.{at, stood, IsCounted}
use Rattle.cjc_world.proofs.Named.{stood_next}

module _ (classes : List ClassTree) (exports : List ExportTree) (ss : List Spot) (i : ℕ) (d : Spot) (within : i < length ss) (imported : Bool) (number : ℕ) where
  abbrev rest : List Class
  rest = stood classes exports (drop (i + 1) ss)

  pub placed_here : (c : Class) → at classes exports (get_or ss i d) ≡ Some c → is_at imported number c ≡ true → class_at (stood classes exports (drop i ss)) imported number ≡ Some c
  unfolding class_at
  placed_here c e same = ap (λ cs. class_at cs imported number) (stood_next classes exports ss i d within (Some c) e) ∙ ap (λ b. if b then Some c else class_at rest imported number) same

  pub placed_on : (c : Class) → at classes exports (get_or ss i d) ≡ Some c → is_at imported number c ≡ false → class_at (stood classes exports (drop i ss)) imported number ≡ class_at (stood classes exports (drop (i + 1) ss)) imported number
  unfolding class_at
  placed_on c e other = ap (λ cs. class_at cs imported number) (stood_next classes exports ss i d within (Some c) e) ∙ ap (λ b. if b then Some c else class_at rest imported number) other

  pub placed_over : at classes exports (get_or ss i d) ≡ None → class_at (stood classes exports (drop i ss)) imported number ≡ class_at (stood classes exports (drop (i + 1) ss)) imported number
  placed_over e = ap (λ cs. class_at cs imported number) (stood_next classes exports ss i d within None e)

pub placed_end : (classes : List ClassTree) (exports : List ExportTree) (ss : List Spot) (i : ℕ) (imported : Bool) (number : ℕ) → length ss ≤ i → class_at (stood classes exports (drop i ss)) imported number ≡ None
unfolding class_at
placed_end classes exports ss i imported number past = let e : drop i ss ≡ [] = grind (arith, common_steps) in ap (λ ss. class_at (stood classes exports ss) imported number) e

pub placed_counted : (w : List Class) (imported : Bool) (number : ℕ) (c : Class) → All IsCounted w → class_at w imported number ≡ Some c → IsCounted c
unfolding class_at
placed_counted [] imported number c all e = cc
placed_counted (b ∷ w) imported number c all e = by (is_at imported number b) e (placed_counted w imported number c (λ k d l. all (suc k) d (omega arith)))
  where
    by : (t : Bool) → (if t then Some b else class_at w imported number) ≡ Some c → (class_at w imported number ≡ Some c → IsCounted c) → IsCounted c
    by true e rest = let is : b ≡ c = cc in subst (λ (v : Class). IsCounted v) is (all 0 b (omega arith))
    by false e rest = rest e
