-- A name that is noted is found at its place, and other names as before.
use Rattle.std.proofs.Common.{◌≡◌, ℕ, zero, suc, ◌<◌, ◌+◌, refl, sym, ap, subst, ◌∙◌, arith, Bool, true, false, cond}
use Rattle.std.proofs.Common.{List, [], ◌∷◌, ◌++◌, length, get_or, take}
use Rattle.std.specs.Prelude.{if◌then◌else◌, Option, Some, None, option_map, option_to_list, slice_get}
use Rattle.std.specs.Str.{bytes_eq}
use Rattle.std.specs.HashMap as hash
use Rattle.std.specs.HashMap.{HashMap}
use Rattle.std.specs.Map.{KeepsOthers}
use Rattle.cjc_classfile.specs.declared.tree.ClassTree.{ClassTree}
use Rattle.cjc_export.specs.declared.tree.ExportTree.{ExportTree}
use Rattle.cjc_world.specs.declared.spot.ClassPlace.{ClassPlace}
use Rattle.cjc_world.specs.Classes.{Class}
use Rattle.cjc_world.specs.Working.Names.{is_named, spot_named}
use Rattle.cjc_world.specs.Working.Places.{place_named}
use Rattle.cjc_world.specs.Working.Spots.{at, stood}
use Rattle.cjc_bytes.proofs.Lists.{name_is, bytes_true, bytes_flip}

module _ {K X S : Type 0} (bytes : K → List ℕ) where
  pub noted : (name : List ℕ) (m n : HashMap K X S) (w : Option X)
      → hash.UpdatesBy (λ x y. bytes_eq (bytes x) (bytes y)) (λ k. bytes_eq name (bytes k)) m n w
      → (other : List ℕ) → hash.get_by (λ k. bytes_eq other (bytes k)) n ≡ cond (bytes_eq name other) w
      (hash.get_by (λ k. bytes_eq other (bytes k)) m)
  unfolding KeepsOthers
  noted name m n w h other = by (bytes_eq name other) refl
    where
      by : (b : Bool) → bytes_eq name other ≡ b → hash.get_by (λ k. bytes_eq other (bytes k)) n
          ≡ cond b w (hash.get_by (λ k. bytes_eq other (bytes k)) m)
      by true e = subst (λ z. hash.get_by (λ k. bytes_eq z (bytes k)) n ≡ w) (bytes_true name other e) h.1
      by false e = h.3 (λ k. bytes_eq other (bytes k))
          (λ x y f. ap (λ z. bytes_eq z (bytes y)) (bytes_true other (bytes x) f))
          (λ k f. bytes_flip other (bytes k) ∙ ap (λ z. bytes_eq z other) (sym (bytes_true name (bytes k) f)) ∙ e)

-- ---- spots

module _ (cs : List ClassTree) (es : List ExportTree) where
  -- one spot more
  or_here : Option ℕ → Bool → ℕ → Option ℕ
  or_here (Some p) b i = Some p
  or_here None true i = Some i
  or_here None false i = None

  more : (ss : List ClassPlace) (i : ℕ) (d : ClassPlace) (x : List ℕ) → i < length ss
      → spot_named cs es (take (i + 1) ss) x ≡ or_here (spot_named cs es (take i ss) x)
      (is_named (at cs es (get_or ss i d)) x) i
  unfolding spot_named or_here
  more [] i d x l = absurd (omega arith)
  more (s ∷ ss) zero d x l = by (is_named (at cs es s) x)
    where
      by : (b : Bool) → (if b then Some 0 else None) ≡ or_here None b 0
      by true = refl
      by false = refl
  more (s ∷ ss) (suc i) d x l = ap (λ n. spot_named cs es (take n (s ∷ ss)) x) (let e : suc i + 1
      ≡ suc (i + 1) = omega arith in e)
      ∙ by (is_named (at cs es s) x) (more ss i d x (omega arith))
    where
      by : (b : Bool) → spot_named cs es (take (i + 1) ss) x ≡ or_here (spot_named cs es (take i ss) x)
          (is_named (at cs es (get_or ss i d)) x) i
          → (if b then Some 0 else option_map suc (spot_named cs es (take (i + 1) ss) x)) ≡ or_here (if b then Some 0
          else option_map suc (spot_named cs es (take i ss) x)) (is_named (at cs es (get_or ss i d)) x) (suc i)
      by true e = refl
      by false e = ap (option_map suc) e ∙ inner (spot_named cs es (take i ss) x) (is_named (at cs es (get_or ss i d))
          x)
        where
          inner : (o : Option ℕ) (b : Bool) → option_map suc (or_here o b i) ≡ or_here (option_map suc o) b (suc i)
          inner (Some p) b = refl
          inner None true = refl
          inner None false = refl

  module _ (ss : List ClassPlace) (i : ℕ) (d : ClassPlace) (within : i < length ss) (old : List ℕ
      → Option ℕ) (kept : (x : List ℕ) → old x ≡ spot_named cs es (take i ss) x) where
    -- the spot has no class
    pub none_noted : at cs es (get_or ss i d) ≡ None → (x : List ℕ) → old x ≡ spot_named cs es (take (i + 1) ss) x
    unfolding or_here
    none_noted e x = kept x ∙ by (spot_named cs es (take i ss) x)
        ∙ ap (λ o. or_here (spot_named cs es (take i ss) x) (is_named o x) i) (sym e) ∙ sym (more ss i d x within)
      where
        by : (o : Option ℕ) → o ≡ or_here o false i
        by None = refl
        by (Some p) = refl

    -- the name of its class was noted before
    pub old_noted : (c : Class) → at cs es (get_or ss i d) ≡ Some c → (p : ℕ) → old c.name ≡ Some p → (x : List ℕ)
        → old x ≡ spot_named cs es (take (i + 1) ss) x
    unfolding or_here
    old_noted c e p f x = kept x ∙ by (bytes_eq c.name x) refl (spot_named cs es (take i ss) x) refl
        ∙ ap (λ o. or_here (spot_named cs es (take i ss) x) (is_named o x) i) (sym e) ∙ sym (more ss i d x within)
      where
        by : (b : Bool) → bytes_eq c.name x ≡ b → (o : Option ℕ) → spot_named cs es (take i ss) x ≡ o
            → o ≡ or_here o b i
        by b g (Some q) h = refl
        by false g None h = refl
        by true g None h = let same = bytes_true c.name x g in let k : old c.name ≡ None = ap old same ∙ kept x ∙ h
            in cc

    -- it is noted now
    pub new_noted : (c : Class) (new : List ℕ → Option ℕ) → at cs es (get_or ss i d) ≡ Some c → old c.name ≡ None
        → ((x : List ℕ) → new x ≡ cond (bytes_eq c.name x) (Some i) (old x)) → (x : List ℕ)
        → new x ≡ spot_named cs es (take (i + 1) ss) x
    unfolding or_here
    new_noted c new e f put x = put x ∙ by (bytes_eq c.name x) refl
        ∙ ap (λ o. or_here (spot_named cs es (take i ss) x) (is_named o x) i) (sym e) ∙ sym (more ss i d x within)
      where
        by : (b : Bool) → bytes_eq c.name x ≡ b → cond b (Some i) (old x) ≡ or_here (spot_named cs es (take i ss) x) b i
        by true g = let same = bytes_true c.name x g in let k : spot_named cs es (take i ss) x ≡ None = sym (kept x)
            ∙ ap old (sym same) ∙ f in ap (λ o. or_here o true i) (sym k)
        by false g = kept x ∙ inner (spot_named cs es (take i ss) x)
          where
            inner : (o : Option ℕ) → o ≡ or_here o false i
            inner None = refl
            inner (Some p) = refl

  pub stood-few : (ss : List ClassPlace) → length (stood cs es ss) < suc (length ss)
  stood-few [] = omega arith
  stood-few (s ∷ ss) = by (at cs es s) (stood-few ss)
    where
      by : (o : Option Class) → length (stood cs es ss) < suc (length ss)
          → length (option_to_list o ++ stood cs es ss) < suc (suc (length ss))
      by None l = omega arith
      by (Some c) l = omega arith

  -- where each spot has a class, the spots are at the places of the classes
  pub spot-place : (ss : List ClassPlace) → length ss ≡ length (stood cs es ss) → (x : List ℕ) → spot_named cs es ss x
      ≡ place_named (stood cs es ss) x
  unfolding spot_named place_named
  spot-place [] l x = refl
  spot-place (s ∷ ss) l x = by (at cs es s) l (spot-place ss)
    where
      by : (o : Option Class) → suc (length ss) ≡ length (option_to_list o ++ stood cs es ss)
          → (length ss ≡ length (stood cs es ss) → (x : List ℕ) → spot_named cs es ss x ≡ place_named (stood cs es ss)
          x)
          → (if is_named o x then Some 0 else option_map suc (spot_named cs es ss x)) ≡ place_named (option_to_list o
          ++ stood cs es ss) x
      by None l rest = let f = stood-few ss in absurd (omega arith)
      by (Some c) l rest = ap (λ o. if bytes_eq c.name x then Some 0 else option_map suc o) (rest (omega arith) x)

  pub spot-class : (ss : List ClassPlace) → length ss ≡ length (stood cs es ss) → (p : ℕ) (s : ClassPlace)
      → slice_get ss p ≡ Some s → at cs es s ≡ slice_get (stood cs es ss) p
  spot-class [] l p s e = cc
  spot-class (t ∷ ss) l p s e = by (at cs es t) refl p l e (spot-class ss)
    where
      by : (o : Option Class) → at cs es t ≡ o → (p : ℕ) → suc (length ss) ≡ length (option_to_list o ++ stood cs es ss)
          → slice_get (t ∷ ss) p ≡ Some s
          → (length ss ≡ length (stood cs es ss) → (p : ℕ) (s : ClassPlace) → slice_get ss p ≡ Some s
          → at cs es s ≡ slice_get (stood cs es ss) p)
          → at cs es s ≡ slice_get (option_to_list o ++ stood cs es ss) p
      by None h p l e rest = let f = stood-few ss in absurd (omega arith)
      by (Some c) h zero l e rest = let is : t ≡ s = cc in ap (at cs es) (sym is) ∙ h
      by (Some c) h (suc p) l e rest = rest (omega arith) p s e

  pub spot-past : (ss : List ClassPlace) → length ss ≡ length (stood cs es ss) → (p : ℕ) → slice_get ss p ≡ None
      → None ≡ slice_get (stood cs es ss) p
  spot-past ss l p e = past ss (stood cs es ss) p l e
    where
      past : (ss : List ClassPlace) (cs : List Class) (p : ℕ) → length ss ≡ length cs → slice_get ss p ≡ None
          → None ≡ slice_get cs p
      past [] [] p l e = refl
      past [] (c ∷ cs) p l e = absurd (omega arith)
      past (s ∷ ss) [] p l e = refl
      past (s ∷ ss) (c ∷ cs) zero l e = cc
      past (s ∷ ss) (c ∷ cs) (suc p) l e = past ss cs p (omega arith) e
