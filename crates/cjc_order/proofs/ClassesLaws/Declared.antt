-- Each class of the order is the one of the package that has its number.
use Rattle.std.proofs.Common.{◌≡◌, ℕ, zero, suc, ◌+◌, refl, sym, ap, subst, ◌∙◌, arith, Bool, true, false, List, []}
use Rattle.std.proofs.Common.{◌∷◌, ◌++◌, length, take}
use Rattle.std.specs.Prelude.{if◌then◌else◌, slice_get, map, Option, Some, None, option_map}
use Rattle.cjc_world.specs.ClassFile.declared.tree.ClassTree.{ClassTree}
use Rattle.cjc_world.specs.Files.{Files}
use Rattle.cjc_world.specs.Classes.{Class, declared, all_classes}
use Rattle.cjc_world.specs.Order.{may_stand, next, and_then, lined_up, in_order}
use Rattle.cjc_order.specs.Classes.Numbers.{numbered_from, class_count, declared_at}
use Rattle.cjc_order.proofs.ClassesLaws.Standing.{next-numbered, taken}

module _ (w : List Class) (i : Bool) (p : List ℕ) (trees : List ClassTree) where
  next-among : (n : ℕ) (cs : List ClassTree) (c : Class) → ((j m : ℕ) (t : ClassTree) → m ≡ n + j
      → slice_get cs j ≡ Some t → slice_get trees m ≡ Some t) → next w i p (numbered_from n cs) ≡ Some c
      → Some c ≡ declared_at trees c.number
  unfolding next
  next-among n [] c at e = cc
  next-among n (t ∷ cs) c at e = by (may_stand w i p (declared n t)) e (next-among (n + 1) cs c (λ j m x f g. at (suc j)
      m x (omega arith) g))
    where
      by : (b : Bool) → (if b then Some (declared n t) else next w i p (numbered_from (n + 1) cs)) ≡ Some c
          → (next w i p (numbered_from (n + 1) cs) ≡ Some c → Some c ≡ declared_at trees c.number)
          → Some c ≡ declared_at trees c.number
      by true f rest =
          let is : declared n t ≡ c = cc in
          subst (λ (d : Class). Some d ≡ declared_at trees d.number) is
          (sym (ap (option_map (declared n)) (at 0 n t (omega arith) refl)))
      by false f rest = rest f

module _ (files : Files) (i : Bool) where
  next-declared : (p : List ℕ) (c : Class) → next (all_classes files) i p (all_classes files) ≡ Some c
      → Some c ≡ declared_at files.classes c.number
  next-declared p c e =
      next-among (all_classes files) i p files.classes 0 (take (class_count files.lines) files.classes) c
      (λ j m t f g. taken (class_count files.lines) files.classes m t
      (subst (λ (k : ℕ). slice_get (take (class_count files.lines) files.classes) k ≡ Some t) (let z : j
      ≡ m = omega arith in z) g))
      (sym (next-numbered files i p) ∙ e)

  lined-declared : (n : ℕ) (p : List ℕ) → map Some (lined_up (all_classes files) i n p)
      ≡ map (λ c. declared_at files.classes c.number) (lined_up (all_classes files) i n p)
  unfolding lined_up
  lined-declared zero p = refl
  lined-declared (suc n) p = by (next (all_classes files) i p (all_classes files)) refl (λ q. lined-declared n q)
    where
      by : (o : Option Class) → next (all_classes files) i p (all_classes files) ≡ o
          → ((q : List ℕ) → map Some (lined_up (all_classes files) i n q)
          ≡ map (λ c. declared_at files.classes c.number) (lined_up (all_classes files) i n q))
          → map Some (and_then o (λ c. lined_up (all_classes files) i n (p ++ c.number ∷ [])))
          ≡ map (λ c. declared_at files.classes c.number) (and_then o (λ c. lined_up (all_classes files) i n (p
          ++ c.number ∷ [])))
      by None e rest = refl
      by (Some c) e rest =
          ap (λ o. o ∷ map Some (lined_up (all_classes files) i n (p ++ c.number ∷ []))) (next-declared p c e)
          ∙ ap (λ os. declared_at files.classes c.number ∷ os) (rest (p ++ c.number ∷ []))

pub order_declared : (files : Files) (i : Bool) → map Some (in_order (all_classes files) i)
    ≡ map (λ c. declared_at files.classes c.number) (in_order (all_classes files) i)
unfolding in_order
order_declared files i = lined-declared files i (length (all_classes files)) []
