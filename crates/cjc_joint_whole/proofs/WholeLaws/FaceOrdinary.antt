-- No method of an interface is a constructor or an initialiser.
use Rattle.std.proofs.Common.{◌≡◌, ℕ, sym, ap, subst, ◌∙◌, Bool, true, false, List, [], ◌++◌, map, Some, ⊎_elim}
use Rattle.std.specs.Prelude.{◌⊎◌, slice_get, if◌then◌else◌}
use Rattle.cjc_bytes.specs.AccessFlags.{is_interface}
use Rattle.cjc_tokens.proofs.Held.{new-offered}
use Rattle.cjc_tokens.specs.Members.{In, Signature, signature_of}
use Rattle.cjc_tokens.specs.Methods.{interface_methods}
use Rattle.cjc_vtable.proofs.Asked.{Among, among-split, has-In, has-here}
use Rattle.cjc_vtable.proofs.Given.{In-split}
use Rattle.cjc_vtable.proofs.Stood.{gathered-interface, gathered-named, in-interface}
use Rattle.cjc_vtable.specs.Calls.{is_special}
use Rattle.cjc_vtable.specs.Laws.{KeepsInterfaces}
use Rattle.cjc_world.proofs.Rising.{known-append}
use Rattle.cjc_world.specs.Added.{asked_by, own_methods}
use Rattle.cjc_world.specs.Classes.{Class, Member, class_named}
use Rattle.cjc_world.specs.Interfaces.{gathered, known}
use Rattle.cjc_world.specs.Supertypes.{AreSupertypes, supertypes}

never : {A : Type 0} → false ≡ true → A
never e = absurd cc

module _ (w : List Class) (keep : KeepsInterfaces w) (are : (xs : List (List ℕ)) → AreSupertypes w xs (supertypes w xs))
    (y : List ℕ) (i : Class) (known_i : class_named w y ≡ Some i) (face : is_interface i.flags ≡ true) where
  own_ordinary : (m : Member) → In m (own_methods i) → is_special (signature_of m) ≡ false
  own_ordinary m h = keep.plain y i m known_i h face

  asked_ordinary : (m : Member) → In m (asked_by (supertypes w i.supers) (supertypes w i.interfaces))
      → is_special (signature_of m) ≡ false
  unfolding asked_by
  asked_ordinary m h =
      let A = gathered false (supertypes w i.supers) in
      let B = gathered true (supertypes w i.interfaces) in
      let r = in-interface m (known (A ++ B)) h in
      by r.0 (among-split r.0 (known A) (known B) (subst (Among r.0) (known-append A B) r.1)) r.2
    where
      of : (d : Class) → class_named w d.name ≡ Some d → is_interface d.flags ≡ true → In m (own_methods d)
          → is_special (signature_of m) ≡ false
      of d named kind h = keep.plain d.name d m named h kind

      by : (d : Class) → Among d (known (gathered false (supertypes w i.supers))) ⊎ Among d (known (gathered true
          (supertypes w i.interfaces))) → In m (own_methods d) → is_special (signature_of m) ≡ false
      by d either h = ⊎_elim
          (λ a. of d (gathered-named w false i.supers (supertypes w i.supers) d (are i.supers) a)
          (gathered-interface w keep.listed false i.supers (supertypes w i.supers) d (are i.supers)
          (λ no z e l g. never no) a) h)
          (λ a. of d (gathered-named w true i.interfaces (supertypes w i.interfaces) d (are i.interfaces) a)
          (gathered-interface w keep.listed true i.interfaces (supertypes w i.interfaces) d (are i.interfaces)
          (λ yes z e l g. keep.listed y z i e known_i l g) a) h)
          either

  pub face_ordinary : (k : ℕ) (s : Signature) → slice_get (interface_methods w i) k ≡ Some s → is_special s ≡ false
  unfolding interface_methods
  face_ordinary k s at =
      let ms = if i.is_imported then own_methods i else asked_by (supertypes w i.supers) (supertypes w i.interfaces)
      ++ own_methods i in
      let r = has-In ms s (new-offered [] (map signature_of ms) s (has-here (interface_methods w i) k s at)) in
      ap is_special (sym r.2) ∙ by i.is_imported r.0 r.1
    where
      by : (b : Bool) (m : Member) → In m (if b then own_methods i else asked_by (supertypes w i.supers) (supertypes w
          i.interfaces) ++ own_methods i) → is_special (signature_of m) ≡ false
      by true m h = own_ordinary m h
      by false m h = ⊎_elim (λ a. asked_ordinary m a) (λ a. own_ordinary m a) (In-split m (asked_by (supertypes w
          i.supers) (supertypes w i.interfaces)) (own_methods i) h)
