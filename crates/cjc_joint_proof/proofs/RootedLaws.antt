-- What there is of several packages is of java/lang/Object by name.
use Rattle.std.proofs.Common.{◌≡◌, ℕ, zero, suc, refl, sym, ap, subst, ◌∙◌, Bool, true, false, List, [], ◌∷◌, ◌++◌, length}
use Rattle.std.proofs.Common.{Some, None, inl, inr, ⊎_elim}
use Rattle.std.specs.Prelude.{Option, is_some, slice_get, ◌||◌, ◌⊎◌}
use Rattle.std.specs.List.{list_any}
use Rattle.std.specs.Str.{bytes_eq}
use Rattle.std.proofs.lemmas.Bool.{and_parts}
use Rattle.cjc_card_semantics.specs.Bytecode.Effects.{HeapObject, shape}
use Rattle.cjc_card_semantics.specs.Bytecode.Renaming.{KnownHeapObject, numbers_known, object_known, references_known}
use Rattle.cjc_card_semantics.specs.Bytes.AccessFlags.{is_interface}
use Rattle.cjc_card_semantics.specs.Bytes.declared.fault.MemberId.{MemberId}
use Rattle.cjc_card_semantics.specs.Script.Sorts.{Booleans, Bytes, Element, Ints, OfNumbers, OfReferences}
use Rattle.cjc_card_semantics.specs.Script.Sorts.{Shorts, shape_name}
use Rattle.cjc_world.proofs.Settled.{Settles, clear_settles, lists-front, nothing, something}
use Rattle.cjc_world.specs.Supertypes.{Above, Lists, after, directly, foremost}
use Rattle.cjc_world.specs.Upwards.{Below}
use Rattle.cjc_exported.specs.World.Classes.{Class, class_named, imported}
use Rattle.cjc_exported.specs.World.Lookup.{object}
use Rattle.cjc_exported.specs.World.Subtype.{is_subtype}
use Rattle.cjc_link_semantics.specs.Components.Package.{Package, world}
use Rattle.cjc_token_proof.proofs.BytesLists.{bytes_true}
use Rattle.cjc_token_proof.proofs.TablesLaws.Clean.{has_named}
use Rattle.cjc_token_proof.proofs.TablesLaws.Filed.{import_filed}
use Rattle.cjc_token_proof.proofs.TablesLaws.Rooted.{import_root}
use Rattle.cjc_token_proof.proofs.WorldProofTypes.{below_type, receiver_class}
use Rattle.cjc_token_proof.specs.NCode.Lowering.Agreement.{known_by}
use Rattle.cjc_token_proof.specs.Tables.Known.{is_holder}
use Rattle.cjc_token_proof.specs.Tables.Sound.{AreTyped}
use Rattle.cjc_joint_proof.specs.JointPackages.{AreLinked}
use Rattle.cjc_joint_proof.specs.JointTables.{KeepSupers, known_together as known_names, world_together}
use Rattle.cjc_joint_proof.proofs.ClassLaws.{sound_at}
use Rattle.cjc_joint_proof.proofs.FieldedLaws.{above_step, holder_plain, plain_above, super_there}
use Rattle.cjc_joint_proof.proofs.MeantLaws.{class_there, no_array}
use Rattle.cjc_joint_proof.proofs.StandLaws.{Inside, Outside, known_together, stands}

root_listed : (xs : List (List ℕ)) → list_any (λ x. bytes_eq x object) xs ≡ true → Lists object xs
root_listed [] e = cc
root_listed (x ∷ xs) e = by (bytes_eq x object) refl e (root_listed xs)
  where
    by : (b : Bool) → bytes_eq x object ≡ b → (b || list_any (λ x. bytes_eq x object) xs) ≡ true
        → (list_any (λ x. bytes_eq x object) xs ≡ true → Lists object xs) → Lists object (x ∷ xs)
    by true f g rest = subst (λ y. Lists object (y ∷ xs)) (sym (bytes_true x object f)) foremost
    by false f g rest = after (rest g)

module _ (packages : List Package) (linked : AreLinked packages) (keep : KeepSupers packages)
    (typed : (q : ℕ) (p : Package) → slice_get packages q ≡ Some p → AreTyped p.files) where
  abbrev w : List Class
  w = world_together packages

  -- a class from outside is java/lang/Object or lists it
  outside_rooted : (x : List ℕ) (c : Class) → class_named w x ≡ Some c → Outside packages linked x c → Below w x object
  outside_rooted x c e o =
      let p = o.importer in
      let s = sound_at packages linked o.part p o.here in
      let sound = s.sound in
      let d = imported o.import_number o.class in
      let r = import_filed p.files sound.classes sound.exports d (has_named (world p) x d o.imported_there) refl in
      ⊎_elim
      (λ same. inl (sym o.name ∙ (ap (λ (v : Class). v.name) r.3 ∙ same)))
      (λ root. inr (directly c e (subst (λ (v : Class). Lists object (v.supers ++ v.interfaces)) (sym o.is) (lists-front
      object (let v = o.class in v.supers) (let v = o.class in v.interfaces) (subst (λ (v : Class). Lists object
      v.supers) (sym r.3) (root_listed (let v = r.1 in v.supers) root))))))
      (import_root p.files (let v = sound.read in v.exports) r.0 r.1 r.2)

  rooted : (m : ℕ) (x : List ℕ) → Settles w m x → (c : Class) → class_named w x ≡ Some c
      → (c.is_imported ≡ false → is_interface c.flags ≡ false) → Below w x object
  rooted zero x settles c e plain = elim settles [ ]
  rooted (suc m) x (nothing none) c e plain = cc
  rooted (suc m) x (something b named_b up) c e plain =
      let both : Some b ≡ Some c = sym named_b ∙ e in
      let is : b ≡ c = cc in
      by is (stands packages linked x c e) (λ y j d f pl. rooted m y (up y (lists-front y b.supers b.interfaces j)) d f
      pl)
    where
      by : b ≡ c → Inside packages linked x c ⊎ Outside packages linked x c → ((y : List ℕ) → Lists y b.supers
          → (d : Class) → class_named w y ≡ Some d → (d.is_imported ≡ false → is_interface d.flags ≡ false)
          → Below w y object) → Below w x object
      by is (inr o) rest = outside_rooted x c e o
      by is (inl i) rest =
          let t = i.tree in
          let t_plain : is_interface t.flags ≡ false = sym (ap (λ (v : Class). is_interface v.flags) i.is)
          ∙ plain (ap (λ (v : Class). v.is_imported) i.is) in
          let s = super_there packages linked keep typed i.part i.«package» i.here i.place i.tree i.file t_plain in
          let d = class_there w t.superclass (known_together packages linked i.part i.«package» i.here t.superclass s.0
          s.1) in
          let listed : Lists t.superclass b.supers = subst (λ (v : Class). Lists t.superclass v.supers) (sym (is
          ∙ i.is)) foremost in
          inr (subst (λ z. Above w z object) i.name (above_step packages linked keep typed i.part i.«package» i.here
          i.place i.tree i.file t_plain object (rest t.superclass listed d.0 d.1 (plain_above packages linked keep typed
          i.part i.«package» i.here i.place i.tree i.file t_plain d.0 d.1))))

  module _ (first : Package) (here : slice_get packages 0 ≡ Some first) where
    class_is : (x : List ℕ) (c : Class) → class_named w x ≡ Some c → is_holder (Some c) ≡ true
        → is_subtype w x object ≡ true
    class_is x c e holds =
        below_type w x object refl (subst (λ z. Below w z object) (sym (receiver_class x (no_array packages linked first
        here keep x (ap is_some e)))) (rooted (suc (length w)) x (clear_settles w x (λ z way far. keep.acyclic z far)) c
        e (holder_plain packages linked keep typed c holds)))

    numbers_are : (element : Element) → is_subtype w (shape_name (OfNumbers element)) object ≡ true
    numbers_are Booleans = below_type w (shape_name (OfNumbers Booleans)) object refl (inl refl)
    numbers_are Bytes = below_type w (shape_name (OfNumbers Bytes)) object refl (inl refl)
    numbers_are Shorts = below_type w (shape_name (OfNumbers Shorts)) object refl (inl refl)
    numbers_are Ints = below_type w (shape_name (OfNumbers Ints)) object refl (inl refl)

    -- what is known is of it
    pub things_are : (t : HeapObject (List ℕ) MemberId) → KnownHeapObject (known_by (known_names packages)) t
        → is_subtype w (shape_name (shape t)) object ≡ true
    things_are _ (numbers_known {element = element}) = numbers_are element
    things_are _ (references_known {c = c} known) = below_type w (shape_name (OfReferences c)) object refl (inl refl)
    things_are _ (object_known {c = c} known holds) = by (class_named w c) refl (and_parts (is_holder (class_named w c))
        _ holds).0
      where
        by : (o : Option Class) → class_named w c ≡ o → is_holder (class_named w c) ≡ true
            → is_subtype w c object ≡ true
        by None e h = let never : is_holder None ≡ true = ap is_holder (sym e) ∙ h in absurd cc
        by (Some d) e h = class_is c d e (ap is_holder (sym e) ∙ h)
