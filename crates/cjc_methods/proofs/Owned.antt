-- The method that a member of a class is.
use Rattle.std.proofs.Common.{◌≡◌, ℕ, zero, suc, ◌-◌, refl, sym, ap, subst, ◌∙◌, arith, List, [], ◌∷◌, ◌++◌, length}
use Rattle.std.specs.Prelude.{map, slice_get, unwrap_or, Some, None, option_map}
use Rattle.std.proofs.lemmas.List.{length-map}
use Rattle.std.proofs.lemmas.Option.{slice_get-map}
use Rattle.cjc_world.specs.ClassFile.declared.tree.ClassTree.{ClassTree}
use Rattle.cjc_world.specs.ClassFile.declared.tree.MethodTree.{MethodTree}
use Rattle.cjc_world.specs.Added.{added, added_at, added_to, named_by}
use Rattle.cjc_world.specs.Classes.{Member, Class, declared, field_of_class, method_of_class, all_classes}
use Rattle.cjc_world.specs.Files.{Files}
use Rattle.cjc_components.specs.Descriptor.{as_added, method_in, no_member}
use Rattle.cjc_methods.specs.Working.Methods.{added_in, member_for}
use Rattle.cjc_bytes.proofs.Gets.{in_front}

in_back : {A : Type 0} (xs ys : List A) (i : ℕ) → slice_get xs i ≡ None → slice_get (xs ++ ys) i
    ≡ slice_get ys (i - length xs)
in_back [] ys i e = let same : i ≡ i - 0 = omega arith in ap (slice_get ys) same
in_back (x ∷ xs) ys zero e = cc
in_back (x ∷ xs) ys (suc i) e = let same : i - length xs ≡ suc i - suc (length xs) = omega arith in in_back xs ys i e
    ∙ ap (slice_get ys) same

-- of a class file, by the place among its methods
place_as : (n : ℕ) (t : ClassTree) (w : List Class) (p : ℕ) → method_in w (declared n t) p
    ≡ unwrap_or (slice_get (map method_of_class t.methods ++ map as_added (added w (declared n t)))
    (p - length t.fields)) no_member
place_as n t w p =
    ap (λ k. unwrap_or (slice_get (map method_of_class t.methods ++ map as_added (added w (declared n t))) (p - k))
    no_member) (length-map t.fields field_of_class)

-- a method of the class file itself
pub own_method : (w : List Class) (n : ℕ) (t : ClassTree) (c : Class) (p : ℕ) (m : MethodTree) → c ≡ declared n t
    → slice_get t.methods (p - length t.fields) ≡ Some m → method_in w c p ≡ method_of_class m
own_method w n t c p m same e =
    let here : slice_get (map method_of_class t.methods) (p - length t.fields) ≡ Some (method_of_class m) =
    slice_get-map method_of_class t.methods (p - length t.fields) ∙ ap (option_map method_of_class) e in
    ap (λ (d : Class). method_in w d p) same
    ∙ place_as n t w p
    ∙ ap (λ o. unwrap_or o no_member) (in_front (map method_of_class t.methods) (map as_added (added w (declared n t)))
    (p - length t.fields) (method_of_class m) here)

-- the same flags, name and descriptor
abbrev pub AreLike : Member → Member → Type 0
AreLike a b = (a.flags ≡ b.flags) × (a.name ≡ b.name) × (a.desc ≡ b.desc)

like_same : (a b c : Member) → AreLike a b → b ≡ c → AreLike a c
like_same a b c p e = subst (AreLike a) e p

added_like : (class : List ℕ) (ms : List Member) (j : ℕ)
    → AreLike (unwrap_or (option_map member_for (slice_get (map (named_by class) ms) j)) no_member)
    (unwrap_or (slice_get (map as_added ms) j) no_member)
added_like class [] j = (refl, refl, refl)
added_like class (m ∷ ms) zero = (refl, refl, refl)
added_like class (m ∷ ms) (suc j) = added_like class ms j

-- a method that the class gets
pub added_method : (files : Files) (n : ℕ) (t : ClassTree) (c : Class) (p : ℕ) → slice_get files.classes n ≡ Some t
    → c ≡ declared n t → slice_get t.methods (p - length t.fields) ≡ None
    → AreLike (added_in files n (p - length t.fields - length t.methods)) (method_in (all_classes files) c p)
unfolding added_at
added_method files n t c p is same e =
    let w = all_classes files in
    let i = p - length t.fields in
    let none : slice_get (map method_of_class t.methods) i ≡ None = slice_get-map method_of_class t.methods i
    ∙ ap (option_map method_of_class) e in
    let ids : added_to w n (slice_get files.classes n) ≡ map (named_by t.name) (added w (declared n t)) =
    ap (added_to w n) is in
    let in_class : method_in w c p ≡ unwrap_or (slice_get (map as_added (added w (declared n t)))
    (i - length t.methods)) no_member =
    ap (λ (d : Class). method_in w d p) same
    ∙ place_as n t w p
    ∙ ap (λ o. unwrap_or o no_member) (in_back (map method_of_class t.methods) (map as_added (added w (declared n t))) i
    none)
    ∙ ap (λ k. unwrap_or (slice_get (map as_added (added w (declared n t))) (i - k)) no_member)
    (length-map t.methods method_of_class) in
    subst (λ xs. AreLike (unwrap_or (option_map member_for (slice_get xs (i - length t.methods))) no_member)
    (method_in w c p)) (sym ids)
    (like_same (unwrap_or (option_map member_for (slice_get (map (named_by t.name) (added w (declared n t)))
    (i - length t.methods))) no_member) (unwrap_or (slice_get (map as_added (added w (declared n t)))
    (i - length t.methods)) no_member) (method_in w c p) (added_like t.name (added w (declared n t))
    (i - length t.methods)) (sym in_class))
