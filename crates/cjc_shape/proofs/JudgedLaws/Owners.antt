-- The class that declares a method which a look-up finds.
use Rattle.std.proofs.Common.{◌≡◌, ℕ, ◌+◌, refl, ap, ◌∙◌, arith, Bool, true, false, List, [], ◌∷◌, ◌++◌, length}
use Rattle.std.proofs.Common.{get_or}
use Rattle.std.specs.Prelude.{◌-◌, ◌&&◌, Option, Some, None, option_and_then, option_map, position, slice_get}
use Rattle.std.specs.Str.{bytes_eq}
use Rattle.std.proofs.lemmas.List.Quantifiers.{position-Some}
use Rattle.std.proofs.lemmas.Option.{slice_get-get_or}
use Rattle.std.proofs.lemmas.Slice.Eq.{bytes_eq-Decides}
use Rattle.cjc_methods.specs.JvmSemantics.OnePackage.{method_hit}
use Rattle.cjc_narrow_proof.proofs.VTableAsked.{Among, at_head, further}
use Rattle.cjc_narrow_proof.proofs.VTableFiled.{at-number}
use Rattle.cjc_narrow_proof.proofs.VTableStood.{gathered-named, upwards-named}
use Rattle.cjc_methods.proofs.WorldSettled.{supertypes-AreSupertypes, supertypes-known}
use Rattle.cjc_exported.specs.World.Classes.{Class, Member, all_classes, class_named}
use Rattle.cjc_exported.specs.World.Files.{Files}
use Rattle.cjc_exported.specs.World.Interfaces.{gathered, known}
use Rattle.cjc_exported.specs.World.Supertypes.{IsAcyclic, supertypes, line, upwards}
use Rattle.cjc_exported.specs.World.Lookup.{find_method, first, is_called, is_wanted, member_at, or_else, own_method}
use Rattle.cjc_exported.specs.World.declared.found.Found.{Found}
use Rattle.cjc_methods.proofs.BytesBools.{both_front, both_back}

-- A method at its place in its class.
pub record IsOwn (owner : Class) (name desc : List ℕ) (f : Found) : Type 0 where
  pub place : ℕ
  pub member : Member
  pub is_member : slice_get owner.methods place ≡ Some member
  pub is_place : f ≡ member_at owner (length owner.fields + place)
  pub has_name : member.name ≡ name
  pub has_desc : member.desc ≡ desc

no_member : Member
no_member = record { flags = 0; name = []; desc = []; token = 0 }

pub own_at : (owner : Class) (name desc : List ℕ) (f : Found) → own_method false name desc owner ≡ Some f
    → IsOwn owner name desc f
unfolding own_method
own_at owner name desc f e = by (position wanted owner.methods) refl e
  where
    wanted : Member → Bool
    wanted m = is_wanted false m.flags && is_called name desc m

    by : (o : Option ℕ) → position wanted owner.methods ≡ o
        → option_map (λ i. member_at owner (length owner.fields + i)) o ≡ Some f → IsOwn owner name desc f
    by None g e = cc
    by (Some i) g e =
        let r = position-Some wanted owner.methods i no_member g in
        let m = get_or owner.methods i no_member in
        let called : (bytes_eq m.name name && bytes_eq m.desc desc) ≡ true = r.1 in
        record {
          place = i;
          member = m;
          is_member = slice_get-get_or owner.methods i no_member r.0;
          is_place = cc;
          has_name = (bytes_eq-Decides m.name name).0 (both_front (bytes_eq m.name name) (bytes_eq m.desc desc) called);
          has_desc = (bytes_eq-Decides m.desc desc).0 (both_back (bytes_eq m.name name) (bytes_eq m.desc desc) called);
        }

module _ (name desc : List ℕ) (f : Found) where
  first_own : (cs : List Class) → first (own_method false name desc) cs ≡ Some f → (d : Class) × Among d cs
      × (own_method false name desc d ≡ Some f)
  unfolding first
  first_own [] e = cc
  first_own (c ∷ cs) e = by (own_method false name desc c) refl e (first_own cs)
    where
      by : (o : Option Found) → own_method false name desc c ≡ o → or_else o (first (own_method false name desc) cs)
          ≡ Some f
          → (first (own_method false name desc) cs ≡ Some f → (d : Class) × Among d cs
          × (own_method false name desc d ≡ Some f)) → (d : Class) × Among d (c ∷ cs)
          × (own_method false name desc d ≡ Some f)
      by None g e rest = let r = rest e in (r.0, further r.1, r.2)
      by (Some h) g e rest = (c, at_head, g ∙ e)

  module _ (w : List Class) (acyclic : IsAcyclic w) where
    pub found_own : (class : List ℕ) → find_method w class name desc ≡ Some f → (d : Class)
        × (class_named w d.name ≡ Some d) × (own_method false name desc d ≡ Some f)
    unfolding find_method line
    found_own class e = by (first (own_method false name desc) (upwards (supertypes w (class ∷ [])))) refl e
      where
        by : (o : Option Found) → first (own_method false name desc) (upwards (supertypes w (class ∷ []))) ≡ o
            → or_else o (first (own_method false name desc) (known (gathered false (supertypes w (class ∷ [])))))
            ≡ Some f
            → (d : Class) × (class_named w d.name ≡ Some d) × (own_method false name desc d ≡ Some f)
        by None g e = let r = first_own (known (gathered false (supertypes w (class ∷ [])))) e
            in (
              r.0,
              gathered-named w false (class ∷ []) (supertypes w (class ∷ [])) r.0 (supertypes-AreSupertypes w
                  acyclic (class ∷ [])) r.1,
              r.2,
            )
        by (Some h) g e = let r = first_own (upwards (supertypes w (class ∷ []))) (g ∙ e)
            in (
              r.0,
              upwards-named w (class ∷ []) (supertypes w (class ∷ [])) r.0 (supertypes-AreSupertypes w acyclic
                  (class ∷ [])) r.1,
              r.2,
            )

    -- it is found again from its own class
    pub found_again : (d : Class) → class_named w d.name ≡ Some d → own_method false name desc d ≡ Some f
        → find_method w d.name name desc ≡ Some f
    unfolding find_method line first
    found_again d named own =
        ap (λ k. or_else (first (own_method false name desc) (upwards k)) (first (own_method false name desc)
        (known (gathered false (supertypes w (d.name ∷ [])))))) (supertypes-known w acyclic d.name d named)
        ∙ ap (λ o. or_else (or_else o (first (own_method false name desc) (upwards (supertypes w d.supers) ++ [])))
        (first (own_method false name desc) (known (gathered false (supertypes w (d.name ∷ [])))))) own

-- what is told of it
pub owner_hit : (files : Files) (d : Class) (name desc : List ℕ) (f : Found) → class_named (all_classes files) d.name
    ≡ Some d → (own : IsOwn d name desc f)
    → method_hit (all_classes files) f ≡ Some (record { owner = d; flags = own.member.flags })
owner_hit files d name desc f named own =
    let place : length d.fields + own.place - length d.fields ≡ own.place = omega arith in
    ap (method_hit (all_classes files)) own.is_place
    ∙ ap (option_and_then (λ c. option_map (λ m. record { owner = c; flags = m.flags })
    (slice_get c.methods (length d.fields + own.place - length c.fields)))) (at-number files d.name d named)
    ∙ ap (λ k. option_map (λ m. record { owner = d; flags = m.flags }) (slice_get d.methods k)) place
    ∙ ap (option_map (λ m. record { owner = d; flags = m.flags })) own.is_member
