-- Two classes on the line of a class: of which one is of a class file, one stands on the line of the other.
use Rattle.std.proofs.Common.{◌≡◌, ℕ, refl, sym, ap, subst, ◌∙◌, false, List, [], ◌∷◌, Some, inl, inr}
use Rattle.std.specs.Prelude.{◌⊎◌}
use Rattle.cjc_world.specs.Classes.{Class, class_named}
use Rattle.cjc_world.specs.Supertypes.{Lists}
use Rattle.cjc_world.specs.Upwards.{IsOrdered, OnLine, here, up}
use Rattle.cjc_world.proofs.Cycles.{class_named-name}
use Rattle.cjc_world.proofs.UpwardLaws.Lines.{same_class}
use Rattle.cjc_joint_whole.proofs.WholeLaws.Nearest.{low, only}

-- A class on the line of a class is that one, or stands on the line of a superclass that it lists.
pub same_or_above : (w : List Class) (a b : Class) → class_named w a.name ≡ Some a → OnLine w a.name b
    → (a ≡ b) ⊎ ((s : List ℕ) × Lists s a.supers × OnLine w s b)
same_or_above w a b named on = go a.name b on refl refl
  where
    go : (x : List ℕ) (c : Class) → OnLine w x c → x ≡ a.name → c ≡ b → (a ≡ b) ⊎ ((s : List ℕ) × Lists s a.supers
        × OnLine w s b)
    go x c (here e) is_a is_b = inl (same_class (sym named ∙ ap (class_named w) (sym is_a) ∙ e) ∙ is_b)
    go x c (up {s = s} d e l rest) is_a is_b =
        let one : d ≡ a = same_class (sym e ∙ ap (class_named w) is_a ∙ named) in
        inr (s, subst (λ (v : Class). Lists s v.supers) one l, subst (OnLine w s) is_b rest)

module _ (w : List Class) (order : IsOrdered w) (single : (x : List ℕ) (c : Class) → class_named w x ≡ Some c
    → c.is_imported ≡ false → (s : List ℕ) × (c.supers ≡ s ∷ [])) where
  pub either_over : (x : List ℕ) (a b : Class) → OnLine w x a → a.is_imported ≡ false → OnLine w x b
      → OnLine w a.name b ⊎ OnLine w b.name a
  either_over x a b (here e) mine on = inl (subst (λ y. OnLine w y b) (sym (class_named-name w x a e)) on)
  either_over x a b (up {s = s} c e l rest) mine on = go x b on refl refl (λ more. either_over s a b rest mine more)
    where
      on_all : OnLine w x a
      on_all = up c e l rest

      go : (y : List ℕ) (d : Class) → OnLine w y d → y ≡ x → d ≡ b → (OnLine w s b → OnLine w a.name b
          ⊎ OnLine w b.name a) → OnLine w a.name b ⊎ OnLine w b.name a
      go y d (here f) is_x is_b next =
          let one : c ≡ b = same_class (sym e ∙ ap (class_named w) (sym is_x) ∙ f) ∙ is_b in
          inr (subst (λ (v : Class). OnLine w v.name a) one (subst (λ z. OnLine w z a) (sym (class_named-name w x c e))
          on_all))
      go y d (up {s = z} k f m more) is_x is_b next =
          let one : k ≡ c = same_class (sym f ∙ ap (class_named w) is_x ∙ e) in
          let r = single x c e (low w order single x c a e on_all mine) in
          let listed : Lists z c.supers = subst (λ (v : Class). Lists z v.supers) one m in
          let super : z ≡ s = only z r.0 (subst (Lists z) r.1 listed) ∙ sym (only s r.0 (subst (Lists s) r.1 l)) in
          next (subst (OnLine w s) is_b (subst (λ y. OnLine w y d) super more))
