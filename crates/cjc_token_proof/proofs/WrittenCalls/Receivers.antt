-- Classes whose objects receive calls.
use Rattle.std.proofs.Common.{◌≡◌, ℕ, refl, sym, ap, subst, ◌∙◌, Bool, true, false, List, [], ◌∷◌}
use Rattle.std.specs.Prelude.{Option, Some, None, is_some}
use Rattle.cjc_bytes.specs.AccessFlags.{is_interface}
use Rattle.cjc_jvm_semantics.specs.OnePackage.{is_initialiser}
use Rattle.cjc_token_proof.specs.ByToken.Supers.{SaysKinds}
use Rattle.cjc_token_proof.specs.Calls.Reaching.{SaysReceiver, StandsInMethod, is_in_method}
use Rattle.cjc_components.specs.Package.{Package, world}
use Rattle.cjc_token_proof.specs.Tables.Loading.{naming}
use Rattle.cjc_vtable.specs.Laws.{Under}
use Rattle.cjc_vtable.specs.Naming.{named}
use Rattle.cjc_world.specs.declared.found.Found.{Found}
use Rattle.cjc_world.specs.Classes.{Class, class_named}
use Rattle.cjc_world.specs.Supertypes.{AreSupertypes, Supertypes, Known, Unknown, End, supertypes, known_here, line}
use Rattle.cjc_world.specs.Supertypes.{unknown_here, upwards}
use Rattle.cjc_world.specs.Lookup.{first, or_else, own_method}
use Rattle.cjc_world.specs.Subtype.{is_subtype}
use Rattle.cjc_token_proof.proofs.WrittenCalls.Facts.{Facts}
use Rattle.cjc_token_proof.proofs.WrittenCalls.Files.{first_imported_found}
use Rattle.cjc_token_proof.proofs.WrittenCalls.Found.{first_own, line_named, own_is, own_named, stands_in_method}
use Rattle.cjc_token_proof.proofs.WrittenCalls.Towers.{class_stands, line_is, line_of_names}
use Rattle.cjc_world_proof.proofs.CallsLaws.Types.{receiver_class}

own_kind : (b : Bool) (name desc : List ℕ) (w : List Class) (d : Class) (f : Found) → own_method b name desc d ≡ Some f
    → f.imported ≡ d.is_imported
own_kind b name desc w d f e = let o = own_is w b name desc d f e in ap (λ (g : Found). g.imported) o.is

pub first_step : (own : Class → Option Found) (c : Class) (cs : List Class)
    → first own (c ∷ cs) ≡ or_else (own c) (first own cs)
unfolding first
first_step own c cs = refl

module _ (p : Package) (facts : Facts p) where
  abbrev w : List Class
  w = world p

  -- what is found from a class over superclasses and is of the package stands in Method
  found_by : (b : Bool) (name desc : List ℕ) (plain : is_initialiser name ≡ false) (k : Supertypes) (x : List ℕ)
      (c : Class) → AreSupertypes w (x ∷ []) k → class_named w x ≡ Some c → is_interface c.flags ≡ false
      → (f : Found) → first (own_method b name desc) (line w x) ≡ Some f → StandsInMethod w f
  found_by b name desc plain End x c h e class_here f found own = elim h [ ]
  found_by b name desc plain (Unknown y next) x c (unknown_here none rest) e class_here f found own = absurd (cc)
  found_by b name desc plain (Known d supers interfaces next) x c (known_here known ks ki kn) e class_here f found own =
      by c.is_imported refl
      (λ s a is named_s not_interface. found_by b name desc plain supers s a is named_s not_interface f)
      (let same : d ≡ c = (let both : Some d ≡ Some c = sym known ∙ e in cc)
      in subst (λ (q : Class). AreSupertypes w q.supers supers) same ks)
    where
      by : (t : Bool) → c.is_imported ≡ t → ((s : List ℕ) (a : Class) → AreSupertypes w (s ∷ []) supers
          → class_named w s ≡ Some a → is_interface a.flags ≡ false → first (own_method b name desc) (line w s) ≡ Some f
          → StandsInMethod w f) → AreSupertypes w c.supers supers → is_in_method w f ≡ true
      by true is rest ks =
          let import = first_imported_found p facts x c e is (own_method b name desc) (own_kind b name desc w) f
          (sym (ap (first (own_method b name desc)) (line_is p facts x c e)) ∙ found) in
          let clash : false ≡ true = sym own ∙ import in absurd (cc)
      by false is rest ks =
          let one = facts.rules.single x c e is in
          let up = facts.super_there x one.0 c e is one.1 in
          split (own_method b name desc c) refl (sym (ap (first (own_method b name desc)) (line_is p facts x c e))
          ∙ found)
          (λ h. rest one.0 up.0 (subst (λ ss. AreSupertypes w ss supers) one.1 ks) up.1 up.2
          (ap (first (own_method b name desc)) (line_of_names p facts one.0)
          ∙ sym (ap (λ ss. first (own_method b name desc) (upwards (supertypes w ss))) one.1) ∙ h) own)
        where
          split : (o : Option Found) → own_method b name desc c ≡ o
              → first (own_method b name desc) (c ∷ upwards (supertypes w c.supers)) ≡ Some f
              → (first (own_method b name desc) (upwards (supertypes w c.supers)) ≡ Some f → is_in_method w f ≡ true)
              → is_in_method w f ≡ true
          split None none h rest = rest (sym (first_step (own_method b name desc) c (upwards (supertypes w c.supers))
              ∙ ap (λ o. or_else o (first (own_method b name desc) (upwards (supertypes w c.supers)))) none) ∙ h)
          split (Some g) there h rest =
              let o = own_is w b name desc c g there in
              let i = facts.own x c e is in
              let both : Some g ≡ Some f = sym (first_step (own_method b name desc) c (upwards (supertypes w c.supers))
              ∙ ap (λ q. or_else q (first (own_method b name desc) (upwards (supertypes w c.supers)))) there) ∙ h in
              let same : g ≡ f = cc in
              ap (is_in_method w) (sym same ∙ o.is) ∙ stands_in_method w i.number c i.ordered class_here is o.place
              o.method o.there (ap is_initialiser o.name_is ∙ plain)

  pub found_stands : (b : Bool) (name desc : List ℕ) → is_initialiser name ≡ false → (x : List ℕ) (c : Class)
      → class_named w x ≡ Some c → is_interface c.flags ≡ false → (f : Found)
      → first (own_method b name desc) (line w x) ≡ Some f → StandsInMethod w f
  found_stands b name desc plain x c e class_here f found = found_by b name desc plain (supertypes w (x ∷ [])) x c
      (facts.are_supertypes (x ∷ [])) e class_here f found

  pub line_found : (b : Bool) (name desc : List ℕ) (x : List ℕ) (f : Found) → first (own_method b name desc) (line w x)
      ≡ Some f → named w f ≡ Some (record { name = name; desc = desc })
  line_found b name desc x f e =
      let d = first_own w (own_method b name desc) (line w x) f (line_named w x) e in
      own_named w b name desc d.0 f (facts.placed d.0.name d.0 d.1) (own_is w b name desc d.0 f d.2)

  -- classes that are no interfaces stand above one another over superclasses
  abbrev pub Climbs : Type 0
  Climbs = (x y : List ℕ) (c d : Class) → class_named w x ≡ Some c → is_interface c.flags ≡ false
      → class_named w y ≡ Some d → is_interface d.flags ≡ false → is_subtype w x y ≡ true → Under w x y

  pub receiver_says : Climbs → SaysKinds w (naming p) → (x : List ℕ) (c : Class) (e : class_named w x ≡ Some c)
      (class_here : is_interface c.flags ≡ false) → SaysReceiver w x (let s = class_stands p facts x c e class_here
      in s.foot)
  receiver_says climbs kinds x c e class_here = record {
    itself = receiver_class x (kinds.no_array x (ap is_some e));
    imported = (let s = class_stands p facts x c e class_here in s.imported);
    climbs = λ y d f not_interface sub. climbs x y c d e class_here f not_interface sub;
    found = λ m f h. line_found true m.name m.desc x f h;
    written = λ m f plain h. found_stands true m.name m.desc plain x c e class_here f h;
  }
