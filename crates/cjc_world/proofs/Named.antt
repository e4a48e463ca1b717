-- The classes of spots, one spot further.
use Rattle.std.proofs.Common.{◌≡◌, ℕ, ◌<◌, ◌≤◌, ◌+◌, sym, ap, subst, ◌∙◌, arith, suc, Bool, true, false, List, [], ◌∷◌}
use Rattle.std.proofs.Common.{◌++◌, length, get_or, drop, add-one}
use Rattle.std.specs.Prelude.{All, Option, Some, None, if◌then◌else◌, option_to_list}
use Rattle.std.proofs.Math.Seq.{drop-cons}
use Rattle.std.proofs.lemmas.Grind.{common_steps}
use Rattle.std.specs.Str.{bytes_eq}
use Rattle.cjc_world.specs.declared.spot.ClassPlace.{ClassPlace}
use Rattle.cjc_classfile.specs.declared.tree.ClassTree.{ClassTree}
use Rattle.cjc_export.specs.declared.tree.ExportTree.{ExportTree}
use Rattle.cjc_world.specs.Classes.{Class, class_named}
use Rattle.cjc_world.specs.Working.Spots.{at, stood, IsCounted}

module _ (classes : List ClassTree) (exports : List ExportTree) (ss : List ClassPlace) (i : ℕ) (d : ClassPlace)
    (within : i < length ss) where
  pub stood_next : (o : Option Class) → at classes exports (get_or ss i d) ≡ o → stood classes exports (drop i ss)
      ≡ option_to_list o ++ stood classes exports (drop (i + 1) ss)
  stood_next o e = ap (stood classes exports) (drop-cons ss i d within) ∙ ap (λ o. option_to_list o
      ++ stood classes exports (drop (suc i) ss)) e ∙ ap (λ n. option_to_list o ++ stood classes exports (drop n ss))
      (sym (add-one i))

  pub named_here : (c : Class) (name : List ℕ) → at classes exports (get_or ss i d) ≡ Some c → bytes_eq c.name name
      ≡ true → class_named (stood classes exports (drop i ss)) name ≡ Some c
  unfolding class_named
  named_here c name e same = ap (λ cs. class_named cs name) (stood_next (Some c) e) ∙ ap (λ b. if b then Some c
      else class_named (stood classes exports (drop (i + 1) ss)) name) same

  pub named_on : (c : Class) (name : List ℕ) → at classes exports (get_or ss i d) ≡ Some c → bytes_eq c.name name
      ≡ false → class_named (stood classes exports (drop i ss)) name
      ≡ class_named (stood classes exports (drop (i + 1) ss)) name
  unfolding class_named
  named_on c name e other = ap (λ cs. class_named cs name) (stood_next (Some c) e) ∙ ap (λ b. if b then Some c
      else class_named (stood classes exports (drop (i + 1) ss)) name) other

  pub named_over : (name : List ℕ) → at classes exports (get_or ss i d) ≡ None
      → class_named (stood classes exports (drop i ss)) name ≡ class_named (stood classes exports (drop (i + 1) ss))
      name
  named_over name e = ap (λ cs. class_named cs name) (stood_next None e)

pub named_end : (classes : List ClassTree) (exports : List ExportTree) (ss : List ClassPlace) (i : ℕ) (name : List ℕ)
    → length ss ≤ i → class_named (stood classes exports (drop i ss)) name ≡ None
unfolding class_named
named_end classes exports ss i name past = let e : drop i ss ≡ [] = grind (arith, common_steps)
    in ap (λ ss. class_named (stood classes exports ss) name) e

pub named_counted : (w : List Class) (name : List ℕ) (c : Class) → All IsCounted w → class_named w name ≡ Some c
    → IsCounted c
unfolding class_named
named_counted [] name c all e = cc
named_counted (b ∷ w) name c all e =
    by (bytes_eq b.name name) e (named_counted w name c (λ k d l. all (suc k) d (omega arith)))
  where
    by : (t : Bool) → (if t then Some b else class_named w name) ≡ Some c → (class_named w name ≡ Some c → IsCounted c)
        → IsCounted c
    by true e rest = let is : b ≡ c = cc in subst (λ (v : Class). IsCounted v) is (all 0 b (omega arith))
    by false e rest = rest e
