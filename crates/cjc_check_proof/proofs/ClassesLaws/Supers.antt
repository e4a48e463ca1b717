-- Superclasses are classes, and interfaces are interfaces.
use Rattle.std.proofs.Common.{◌≡◌, ℕ, ◌==◌, refl, sym, ap, ◌∙◌, Bool, true, false, List, [], ◌∷◌, ◌++◌, inl, inr}
use Rattle.std.proofs.Common.{⊎_elim}
use Rattle.std.specs.Prelude.{not, cond, ◌⊎◌, Option, Some, option_and_then, option_to_list, if◌then◌else◌}
use Rattle.std.specs.List.{find}
use Rattle.cjc_bytes.specs.AccessFlags.{is_interface}
use Rattle.cjc_world.specs.ExportFile.declared.tree.ExportClass.{ExportClass}
use Rattle.cjc_world.specs.ExportFile.declared.tree.ExportTree.{ExportTree}
use Rattle.cjc_token_proof.specs.CardSemantics.Machine.Classes.{with_token}
use Rattle.cjc_check_rules.specs.Classes.{class_with, imported, is_exported_interface, is_exported_class}
use Rattle.cjc_check_rules.specs.Classes.{names_interface, names_class}
use Rattle.cjc_world.specs.Classes.{Class, class_named}
use Rattle.cjc_world.specs.Interfaces.{Interface, each_once, gathered, is_among, known}
use Rattle.cjc_world.specs.Supertypes.{supertypes, Lists}
use Rattle.cjc_world.specs.Order.{class_order, in_order}
use Rattle.cjc_world.specs.Rules.{is_class_of}
use Rattle.cjc_world.proofs.Settled.{supertypes-AreSupertypes}
use Rattle.cjc_world.proofs.Unbroken.{unbroken_is_acyclic}
use Rattle.cjc_tokens.specs.Methods.{interfaces_at}
use Rattle.cjc_vtable.proofs.Asked.{Among, at_head, further, among-split}
use Rattle.cjc_vtable.proofs.Filed.{Has, at_front, behind, has-get, has-either}
use Rattle.cjc_vtable.proofs.Stood.{gathered-interface}
use Rattle.cjc_components.specs.Package.{Package, world}
use Rattle.cjc_components.specs.Names.{class_ref}
use Rattle.cjc_token_proof.specs.Components.Whole.{exports_of}
use Rattle.cjc_token_proof.specs.Tables.Infos.{HasEntry}
use Rattle.cjc_token_proof.specs.Tables.Sound.{IsSound}
use Rattle.cjc_token_proof.proofs.TablesLaws.Clean.{has_named, kept}
use Rattle.cjc_token_proof.proofs.TablesLaws.Lists.{right_supers}
use Rattle.cjc_token_proof.proofs.TablesLaws.Named.{has_entry}
use Rattle.cjc_token_proof.proofs.TablesLaws.Order.{kind-in, order_has, own_names}
use Rattle.cjc_check_proof.proofs.ClassesLaws.Refs.{info, interface_begins, class_begins_at}

-- ---- lists

among_has : (d : Class) (cs : List Class) → Has d cs → Among d cs
among_has d [] h = elim h [ ]
among_has d (c ∷ cs) at_front = at_head
among_has d (c ∷ cs) (behind h) = further (among_has d cs h)

among_front : (d : Class) (a b : List Class) → Among d a → Among d (a ++ b)
among_front d [] b i = elim i [ ]
among_front d (c ∷ a) b at_head = at_head
among_front d (c ∷ a) b (further i) = further (among_front d a b i)

among_back : (d : Class) (a b : List Class) → Among d b → Among d (a ++ b)
among_back d [] b i = i
among_back d (c ∷ a) b i = further (among_back d a b i)

once_known : (d : Class) (seen is : List Interface) → Among d (known (each_once seen is)) → Among d (known is)
unfolding known
once_known d seen [] i = i
once_known d seen (x ∷ is) i = by (is_among seen x.name) i (once_known d seen is) (once_known d (seen ++ x ∷ []) is)
  where
    by : (b : Bool) → Among d (known (if b then each_once seen is else x ∷ each_once (seen ++ x ∷ []) is))
        → (Among d (known (each_once seen is)) → Among d (known is)) → (Among d (known (each_once (seen ++ x ∷ []) is))
        → Among d (known is)) → Among d (option_to_list x.class ++ known is)
    by true j r s = among_back d (option_to_list x.class) (known is) (r j)
    by false j r s = ⊎_elim (λ a. among_front d (option_to_list x.class) (known is) a)
        (λ a. among_back d (option_to_list x.class) (known is) (s a)) (among-split d (option_to_list x.class)
        (known (each_once (seen ++ x ∷ []) is)) j)

known_both : (d : Class) (is js : List Interface) → Among d (known (is ++ js)) → Among d (known is) ⊎ Among d (known js)
unfolding known
known_both d [] js i = inr i
known_both d (x ∷ is) js i = ⊎_elim
    (λ a. inl (among_front d (option_to_list x.class) (known is) a))
    (λ a. ⊎_elim (λ b. inl (among_back d (option_to_list x.class) (known is) b)) (λ b. inr b) (known_both d is js a))
    (among-split d (option_to_list x.class) (known (is ++ js)) i)

abbrev class_with_in : List ExportClass → ℕ → Option ExportClass
class_with_in cs token = find (λ c. c.token == token) cs

found_with : (cs : List ExportClass) (token : ℕ) → class_with_in cs token ≡ with_token cs token
found_with [] token = refl
found_with (c ∷ cs) token = by (c.token == token) (found_with cs token)
  where
    by : (b : Bool) → class_with_in cs token ≡ with_token cs token → cond b (Some c) (class_with_in cs token)
        ≡ (if b then Some c else with_token cs token)
    by true e = refl
    by false e = e

module _ (list : List ℕ) (p : Package) (sound : IsSound list p.files) where
  abbrev w : List Class
  w = world p

  pub entry_there : (c : Class) (r : HasEntry p c) → imported (exports_of p) r.file r.entry.token ≡ Some r.entry
  entry_there c r =
      ap (option_and_then (class_with r.entry.token)) r.in_list ∙ found_with r.tree.classes r.entry.token
      ∙ sym (ap (option_and_then (λ (t : ExportTree). with_token t.classes r.entry.token)) r.in_list) ∙ r.there

  same_flags : (c : Class) (r : HasEntry p c) → (let e = r.entry in e.flags) ≡ c.flags
  same_flags c r = sym (ap (λ (v : Class). v.flags) r.class)

  pub in_place : (c : Class) (b : Bool) → Has c w → c.is_imported ≡ false → is_interface c.flags ≡ b
      → Has c (in_order w b)
  unfolding class_order
  in_place c b h own kind = ⊎_elim (λ g. first b g kind) (λ g. second b g kind) (has-either c (in_order w true)
      (in_order w false) (order_parts (order_has list p.files sound c h own)))
    where
      order_parts : Has c (class_order w) → Has c (in_order w true ++ in_order w false)
      order_parts g = g

      first : (b : Bool) → Has c (in_order w true) → is_interface c.flags ≡ b → Has c (in_order w b)
      first true g e = g
      first false g e = let k = (kind-in list p.files sound true c g).2 in absurd (cc)

      second : (b : Bool) → Has c (in_order w false) → is_interface c.flags ≡ b → Has c (in_order w b)
      second false g e = g
      second true g e = let k = (kind-in list p.files sound false c g).2 in let no : not (is_interface c.flags)
          ≡ false = ap not e in absurd (cc)

  pub interface_named : (c : Class) → class_named w c.name ≡ Some c → is_interface c.flags ≡ true
      → names_interface (info p) (exports_of p) (class_ref p c.name) ≡ true
  interface_named c e kind = by c.is_imported refl
    where
      h : Has c w
      h = has_named w c.name c e

      by : (b : Bool) → c.is_imported ≡ b → names_interface (info p) (exports_of p) (class_ref p c.name) ≡ true
      by true f =
          let r = has_entry list p sound c h f in
          ap (names_interface (info p) (exports_of p)) r.ref ∙ ap is_exported_interface (entry_there c r)
          ∙ ap is_interface (same_flags c r) ∙ kind
      by false f =
          let k = has-get c (in_order w true) (in_place c true h f kind) in
          let r = interface_begins p (own_names list p.files sound) k.0 c k.1 in
          ap (names_interface (info p) (exports_of p)) r.1 ∙ r.2

  pub class_named_is : (c : Class) → class_named w c.name ≡ Some c → is_interface c.flags ≡ false
      → names_class (info p) (exports_of p) (class_ref p c.name) ≡ true
  class_named_is c e kind = by c.is_imported refl
    where
      h : Has c w
      h = has_named w c.name c e

      by : (b : Bool) → c.is_imported ≡ b → names_class (info p) (exports_of p) (class_ref p c.name) ≡ true
      by true f =
          let r = has_entry list p sound c h f in
          ap (names_class (info p) (exports_of p)) r.ref ∙ ap is_exported_class (entry_there c r)
          ∙ ap (λ n. not (is_interface n)) (same_flags c r) ∙ ap not kind
      by false f =
          let k = has-get c (in_order w false) (in_place c false h f kind) in
          let r = class_begins_at p (own_names list p.files sound) k.0 c k.1 in
          ap (names_class (info p) (exports_of p)) r.1 ∙ r.2

  -- ---- what classes list

  listed_is : (x y : List ℕ) (c d : Class) → class_named w x ≡ Some c → Lists y c.interfaces → class_named w y ≡ Some d
      → is_interface d.flags ≡ true
  listed_is x y c d e l f =
      let k = kept list p.files sound c (has_named w x c e) in
      let r = right_supers w c k.supers in
      by (is_interface d.flags) (sym (ap is_class_of f) ∙ r.interfaces y l)
    where
      by : (b : Bool) → not b ≡ false → b ≡ true
      by true g = refl
      by false g = absurd (cc)

  pub is_one : (x : List ℕ) (c d : Class) → class_named w x ≡ Some c → Has d (known (interfaces_at w c))
      → is_interface d.flags ≡ true
  unfolding interfaces_at
  is_one x c d e h =
      let acyclic = unbroken_is_acyclic list p.files sound.unbroken in
      let all = once_known d [] (gathered false (supertypes w c.supers) ++ gathered true (supertypes w c.interfaces))
      (among_has d _ h) in
      ⊎_elim
      (λ j. gathered-interface w listed_is false c.supers (supertypes w c.supers) d (supertypes-AreSupertypes w acyclic
      c.supers) (λ l y g v h. absurd (cc)) j)
      (λ j. gathered-interface w listed_is true c.interfaces (supertypes w c.interfaces) d (supertypes-AreSupertypes w
      acyclic c.interfaces) (λ l y g v f. listed_is x y c g e v f) j)
      (known_both d (gathered false (supertypes w c.supers)) (gathered true (supertypes w c.interfaces)) all)
