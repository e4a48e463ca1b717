-- The method at a position, of either kind of class.
use Rattle.std.proofs.Common.{◌≡◌, ℕ, cond, refl, sym, ap, subst, ◌∙◌, Bool, true, false, List, [], ◌∷◌}
use Rattle.std.specs.Prelude.{◌==◌, map, slice_get, MatchOption, Option, Some, None, option_map}
use Rattle.std.specs.List.{find}
use Rattle.cjc_classfile.specs.declared.tree.ClassTree.{ClassTree}
use Rattle.cjc_classfile.specs.declared.tree.MethodTree.{MethodTree}
use Rattle.cjc_export.specs.declared.tree.ExportClass.{ExportClass}
use Rattle.cjc_export.specs.declared.tree.ExportMethod.{ExportMethod}
use Rattle.cjc_world.specs.Classes.{Member, method_of_class, method_of_export, declared, imported}
use Rattle.cjc_world.specs.Working.Asked.{IsNamed, positioned}
use Rattle.cjc_bytes.proofs.Gets.{get_mapped}

find-map : {A B : Type 0} (p : B → Bool) (f : A → B) (xs : List A)
    → find p (map f xs) ≡ option_map f (find (λ x. p (f x)) xs)
find-map p f [] = refl
find-map p f (x ∷ xs) = by (p (f x)) (find-map p f xs)
  where
    by : (b : Bool) → find p (map f xs) ≡ option_map f (find (λ x. p (f x)) xs)
        → cond b (Some (f x)) (find p (map f xs)) ≡ option_map f (cond b (Some x) (find (λ x. p (f x)) xs))
    by true e = refl
    by false e = e

module _ {A : Type 0} (name desc : A → List ℕ) where
  pub declared_at : (n : ℕ) (c : ClassTree) (k : ℕ) (o : Option A) → MatchOption o (slice_get c.methods k ≡ None)
      (λ p. (m : MethodTree) × (slice_get c.methods k ≡ Some m) × (m.name ≡ name p) × (m.desc ≡ desc p))
      → MatchOption o (positioned (declared n c) k ≡ None) (λ p. IsNamed (positioned (declared n c) k) (name p)
      (desc p))
  unfolding positioned
  declared_at n c k None h = get_mapped method_of_class c.methods k ∙ ap (option_map method_of_class) h
  declared_at n c k (Some p) h = subst (λ o. IsNamed o (name p) (desc p)) (sym (get_mapped method_of_class c.methods k
      ∙ ap (option_map method_of_class) h.1)) (h.2, h.3)

  pub imported_at : (n : ℕ) (c : ExportClass) (k : ℕ) (o : Option A)
      → MatchOption o (find (λ m. m.token == k) c.methods ≡ None) (λ p. (m : ExportMethod)
      × (find (λ m. m.token == k) c.methods ≡ Some m) × (m.name ≡ name p) × (m.desc ≡ desc p))
      → MatchOption o (positioned (imported n c) k ≡ None) (λ p. IsNamed (positioned (imported n c) k) (name p)
      (desc p))
  unfolding positioned
  imported_at n c k None h = find-map (λ (m : Member). m.token == k) method_of_export c.methods
      ∙ ap (option_map method_of_export) h
  imported_at n c k (Some p) h = subst (λ o. IsNamed o (name p) (desc p)) (sym (find-map (λ (m : Member). m.token == k)
      method_of_export c.methods ∙ ap (option_map method_of_export) h.1)) (h.2, h.3)
