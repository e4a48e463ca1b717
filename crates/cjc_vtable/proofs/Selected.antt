-- The method that selection gives, and what a look-up tells of it.
use Rattle.std.proofs.Common.{◌≡◌, ℕ, zero, suc, ◌+◌, ◌-◌, arith, refl, sym, ap, ◌∙◌, Bool, true, false, List, [], ◌∷◌}
use Rattle.std.proofs.Common.{◌++◌}
use Rattle.std.specs.Prelude.{length, ◌&&◌, Option, Some, None, option_map, slice_get, if◌then◌else◌}
use Rattle.cjc_world.specs.declared.found.Found.{Found}
use Rattle.cjc_world.specs.Classes.{Member, Class, class_at}
use Rattle.cjc_world.specs.Lookup.{or_else, first, own_method, is_called, member_at}
use Rattle.cjc_subset.specs.Members.{ResolvedMember, hit, hit_of}
use Rattle.cjc_tokens.specs.Members.{Signature, all_methods, chosen}
use Rattle.cjc_tokens.specs.Slots.{own}
use Rattle.cjc_tokens.proofs.Facts.{position-cons, place, place-some}
use Rattle.cjc_vtable.specs.Calls.{selects}
use Rattle.cjc_vtable.proofs.Asked.{Among, at_head, further, chosen-front, chosen-behind}
use Rattle.cjc_vtable.proofs.Worlds.{first-selects}

placed : (test : Member → Bool) (s : Signature) (ms : List Member) (i : ℕ) → place test s ms ≡ Some i → (m : Member)
    × (chosen test s ms ≡ Some m) × (slice_get ms i ≡ Some m)
placed test s [] i e = cc
placed test s (n ∷ ms) i e = by (test n && is_called s.name s.desc n) i (sym (position-cons (λ m. test m
    && is_called s.name s.desc m) n ms) ∙ e) (λ j f. placed test s ms j f)
  where
    inner : (o : Option ℕ) (i : ℕ) → option_map suc o ≡ Some i → ((j : ℕ) → o ≡ Some j → (m : Member)
        × (chosen test s ms ≡ Some m) × (slice_get ms j ≡ Some m)) → (m : Member) × (chosen test s ms ≡ Some m)
        × (slice_get (n ∷ ms) i ≡ Some m)
    inner None i e rest = cc
    inner (Some j) zero e rest = cc
    inner (Some j) (suc i) e rest = rest i cc

    by : (b : Bool) (i : ℕ) → (if b then Some 0 else option_map suc (place test s ms)) ≡ Some i
        → ((j : ℕ) → place test s ms ≡ Some j → (m : Member) × (chosen test s ms ≡ Some m) × (slice_get ms j ≡ Some m))
        → (m : Member) × ((if b then Some n else chosen test s ms) ≡ Some m) × (slice_get (n ∷ ms) i ≡ Some m)
    by true zero e rest = (n, refl, refl)
    by true (suc i) e rest = cc
    by false i e rest = inner (place test s ms) i e rest

none-placed : (test : Member → Bool) (s : Signature) (ms : List Member) → place test s ms ≡ None
    → chosen test s ms ≡ None
none-placed test s ms e = by (chosen test s ms) refl
  where
    by : (o : Option Member) → chosen test s ms ≡ o → chosen test s ms ≡ None
    by None f = f
    by (Some m) f = let r = place-some test s ms m f in cc (r.1)

-- the class and the place of the method that selection gives
Selects : Signature → List Class → Found → Type 0
Selects s cs f = (d : Class) × (m : Member) × (i : ℕ) × Among d cs × (chosen selects s (all_methods cs) ≡ Some m)
    × (slice_get d.methods i ≡ Some m) × (f ≡ member_at d (length d.fields + i))

first-selected : (s : Signature) (cs : List Class) (f : Found) → first (own selects s) cs ≡ Some f → Selects s cs f
unfolding first own Selects
first-selected s [] f e = cc
first-selected s (c ∷ cs) f e = by (place selects s c.methods) refl e (first-selected s cs f)
  where
    by : (o : Option ℕ) → place selects s c.methods ≡ o
        → or_else (option_map (λ i. member_at c (length c.fields + i)) o) (first (own selects s) cs) ≡ Some f
        → (first (own selects s) cs ≡ Some f → (d : Class) × (m : Member) × (i : ℕ) × Among d cs
        × (chosen selects s (all_methods cs) ≡ Some m) × (slice_get d.methods i ≡ Some m)
        × (f ≡ member_at d (length d.fields + i)))
        → (d : Class) × (m : Member) × (i : ℕ) × Among d (c ∷ cs) × (chosen selects s (c.methods ++ all_methods cs)
        ≡ Some m) × (slice_get d.methods i ≡ Some m) × (f ≡ member_at d (length d.fields + i))
    by None g e rest = let r = rest e in (
      r.0,
      r.1,
      r.2,
      further r.3,
      chosen-behind selects s c.methods (all_methods cs)
          (none-placed selects s c.methods g) ∙ r.4,
      r.5,
      r.6,
    )
    by (Some i) g e rest = let p = placed selects s c.methods i g
        in (c, p.0, i, at_head, chosen-front selects s c.methods (all_methods cs) p.0 p.1, p.2, cc)

-- what is told of it has its flags
pub hit-selected : (w cs : List Class) (s : Signature) (h : ResolvedMember) → ((d : Class) → Among d cs
    → class_at w d.is_imported d.number ≡ Some d) → hit w false (first (own_method true s.name s.desc) cs) ≡ Some h
    → (n : Member) × (chosen selects s (all_methods cs) ≡ Some n) × (h.flags ≡ n.flags)
unfolding hit Selects
hit-selected w cs s h at e = by (first (own selects s) cs) refl (ap (hit w false) (sym (first-selects cs s)) ∙ e)
  where
    here : (d : Class) → Option Member → Option ResolvedMember
    here d o = option_map (λ m. record { owner = d; flags = m.flags }) o

    by : (o : Option Found) → first (own selects s) cs ≡ o → hit w false o ≡ Some h → (n : Member)
        × (chosen selects s (all_methods cs) ≡ Some n) × (h.flags ≡ n.flags)
    by None f g = cc
    by (Some f) e g =
        let r = first-selected s cs f e in
        let d = r.0 in
        let k = length d.fields + r.2 in
        let off : length d.fields + r.2 - length d.fields ≡ r.2 = omega arith in
        let told : hit w false (Some f) ≡ Some (record { owner = d; flags = r.1.flags }) =
        ap (λ (q : Found). hit_of false q (class_at w q.imported q.class)) r.6
        ∙ ap (hit_of false (member_at d k)) (at d r.3)
        ∙ ap (λ j. here d (slice_get d.methods j)) off
        ∙ ap (here d) r.5
        in
        let both : Some h ≡ Some (record { owner = d; flags = r.1.flags }) = sym g ∙ told in
        let is : h ≡ record { owner = d; flags = r.1.flags } = cc in
        (r.1, r.4, ap (λ (q : ResolvedMember). q.flags) is)
