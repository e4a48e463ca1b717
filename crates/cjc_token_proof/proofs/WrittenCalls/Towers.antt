-- A class and its superclasses, as class infos and export files say them.
use Rattle.std.proofs.Common.{◌≡◌, ℕ, suc, ◌+◌, ◌<◌, ◌≤◌, refl, sym, ap, subst, ◌∙◌, arith, Bool, true, false, List, []}
use Rattle.std.proofs.Common.{◌∷◌, length, length-append}
use Rattle.std.specs.Prelude.{Some, slice_get, map, if◌then◌else◌}
use Rattle.std.proofs.lemmas.List.{append-nil, length-map}
use Rattle.std.proofs.lemmas.Option.{slice_get_within}
use Rattle.cjc_bytes.specs.AccessFlags.{is_interface}
use Rattle.cjc_jvm_semantics.specs.OnePackage.{first_imported}
use Rattle.cjc_token_proof.specs.Calls.Dispatching.{SaysTower, of_file, of_package}
use Rattle.cjc_card_semantics.specs.Machine.Classes.{IsClass, IsInterface, depth}
use Rattle.cjc_components.specs.Class.{class_entry, interface_entry}
use Rattle.cjc_components.specs.Names.{class_ref}
use Rattle.cjc_components.specs.Methods.{method_offset}
use Rattle.cjc_components.specs.Package.{Package, world}
use Rattle.cjc_token_proof.specs.Tables.Loading.{loaded, naming}
use Rattle.cjc_world.specs.Classes.{Class, class_named}
use Rattle.cjc_world.specs.Supertypes.{AreSupertypes, Supertypes, Known, Unknown, End, supertypes, known_here, line}
use Rattle.cjc_world.specs.Supertypes.{unknown_here, upwards}
use Rattle.cjc_world.specs.Order.{class_order, in_order}
use Rattle.cjc_world.proofs.Cycles.{class_named-name}
use Rattle.cjc_tokens.proofs.Walks.{supertypes-known}
use Rattle.cjc_token_proof.proofs.WrittenCalls.Facts.{Facts}
use Rattle.cjc_token_proof.proofs.WrittenCalls.Files.{file_says}
use Rattle.cjc_token_proof.proofs.WrittenCalls.Tables.{tables}

module _ (p : Package) (facts : Facts p) where
  abbrev w : List Class
  w = world p

  -- the towers of a class, with its height and the imported class at its foot
  pub record Stands (x : List ℕ) : Type 0 where
    pub height : ℕ
    pub foot : List ℕ
    pub tower : SaysTower w (naming p) (method_offset p) height x foot
    pub imported : first_imported (line w x) ≡ foot
    -- no higher than the number of its info
    pub low : (c : Class) (k : ℕ) → class_named w x ≡ Some c → slice_get (class_order w) k ≡ Some c → height ≤ suc k
    -- an imported class is its own foot
    pub flat : (c : Class) → class_named w x ≡ Some c → c.is_imported ≡ true → height ≡ 0

  pub line_is : (x : List ℕ) (c : Class) → class_named w x ≡ Some c → line w x ≡ c ∷ upwards (supertypes w c.supers)
  unfolding line
  line_is x c e = ap upwards (supertypes-known w facts.are_supertypes facts.one_supertypes x c e)
      ∙ ap (λ cs. c ∷ cs) (append-nil (upwards (supertypes w c.supers)))

  pub line_of_names : (x : List ℕ) → line w x ≡ upwards (supertypes w (x ∷ []))
  unfolding line
  line_of_names x = refl

  tower_file : (x : List ℕ) (c : Class) → class_named w x ≡ Some c → c.is_imported ≡ true → is_interface c.flags ≡ false
      → Stands x
  tower_file x c e import class_here = record {
    height = 0;
    foot = x;
    tower = of_file c e import (file_says p facts x c e import class_here);
    imported = ap first_imported (line_is x c e) ∙ ap (λ t. if t then c.name
        else first_imported (upwards (supertypes w c.supers))) import ∙ class_named-name w x c e;
    low = λ d k f g. omega arith;
    flat = λ d f g. refl;
  }

  tower_own : (x s : List ℕ) (c d : Class) (e : class_named w x ≡ Some c) (own : c.is_imported ≡ false)
      (class_here : is_interface c.flags ≡ false) (supers : c.supers ≡ s ∷ []) → class_named w s ≡ Some d → Stands s
      → Stands x
  tower_own x s c d e own class_here supers super_is r = record {
    height = suc r.height;
    foot = r.foot;
    tower = of_package c s e own supers (tables p facts x s c e own class_here supers) r.tower;
    imported = ap first_imported (line_is x c e) ∙ ap (λ t. if t then c.name
        else first_imported (upwards (supertypes w c.supers))) own
        ∙ ap (λ ss. first_imported (upwards (supertypes w ss))) supers ∙ ap first_imported (sym (line_of_names s))
        ∙ r.imported;
    low = λ b k f g. let same : c ≡ b = (let both : Some c ≡ Some b = sym e ∙ f in cc)
        in below k (g ∙ ap Some (sym same)) d.is_imported refl;
    flat = λ b f g. let same : c ≡ b = (let both : Some c ≡ Some b = sym e ∙ f in cc) in let clash : false ≡ true =
        sym own ∙ ap (λ (q : Class). q.is_imported) same ∙ g in absurd (cc);
  }
    where
      below : (k : ℕ) → slice_get (class_order w) k ≡ Some c → (t : Bool) → d.is_imported ≡ t → suc r.height ≤ suc k
      below k g true is = let z = r.flat d super_is is in omega (arith, z)
      below k g false is =
          let h = facts.own s d super_is is in
          let low = r.low d h.number super_is h.ordered in
          let less = facts.before k h.number c d s g class_here supers super_is h.ordered in omega (arith, low, less)

  tower_by : (k : Supertypes) (x : List ℕ) (c : Class) → AreSupertypes w (x ∷ []) k → class_named w x ≡ Some c
      → is_interface c.flags ≡ false → Stands x
  tower_by End x c h e class_here = elim h [ ]
  tower_by (Unknown name next) x c (unknown_here none rest) e class_here = absurd (cc)
  tower_by (Known d supers interfaces next) x c (known_here known ks ki kn) e class_here =
      by c.is_imported refl (λ s b is named_s not_interface. tower_by supers s b is named_s not_interface) (let same : d
      ≡ c = (let both : Some d ≡ Some c = sym known ∙ e in cc)
      in subst (λ (q : Class). AreSupertypes w q.supers supers) same ks)
    where
      by : (t : Bool) → c.is_imported ≡ t → ((s : List ℕ) (b : Class) → AreSupertypes w (s ∷ []) supers
          → class_named w s ≡ Some b → is_interface b.flags ≡ false → Stands s) → AreSupertypes w c.supers supers
          → Stands x
      by true is rest ks = tower_file x c e is class_here
      by false is rest ks =
          let one = facts.rules.single x c e is in
          let up = facts.super_there x one.0 c e is one.1 in
          tower_own x one.0 c up.0 e is class_here one.1 up.1 (rest one.0 up.0 (subst (λ ss. AreSupertypes w ss supers)
          one.1 ks) up.1 up.2)

  -- each class that is no interface
  pub class_stands : (x : List ℕ) (c : Class) → class_named w x ≡ Some c → is_interface c.flags ≡ false → Stands x
  class_stands x c e class_here = tower_by (supertypes w (x ∷ [])) x c (facts.are_supertypes (x ∷ [])) e class_here

  depth_is : depth (loaded p) ≡ 1 + (length (class_order w) + 0)
  unfolding class_order
  depth_is =
      let is = in_order w true in
      let cs = in_order w false in
      let i : length (map IsInterface (map (interface_entry (class_ref p) w) is)) ≡ length is =
      length-map (map (interface_entry (class_ref p) w) is) IsInterface
      ∙ length-map is (interface_entry (class_ref p) w) in
      let c : length (map IsClass (map (class_entry (class_ref p) p) cs)) ≡ length cs =
      length-map (map (class_entry (class_ref p) p) cs) IsClass ∙ length-map cs (class_entry (class_ref p) p) in
      ap (λ n. 1 + (n + 0)) (length-append (map IsInterface (map (interface_entry (class_ref p) w) is))
      (map IsClass (map (class_entry (class_ref p) p) cs))
      ∙ ap (λ n. n + length (map IsClass (map (class_entry (class_ref p) p) cs))) i ∙ ap (λ n. length is + n) c
      ∙ sym (length-append is cs))

  -- the superclasses of a class are no more than there are infos
  pub height_fits : (x : List ℕ) (c : Class) (e : class_named w x ≡ Some c) → (s : Stands x)
      → s.height ≤ depth (loaded p)
  height_fits x c e s = by c.is_imported refl
    where
      by : (t : Bool) → c.is_imported ≡ t → s.height ≤ depth (loaded p)
      by true is = let z = s.flat c e is in omega (arith, z)
      by false is =
          let h = facts.own x c e is in
          let low = s.low c h.number e h.ordered in
          let less = slice_get_within (class_order w) h.number c h.ordered in
          let d = depth_is in omega (arith, low, less, d)

  -- those of its superclass are fewer
  pub super_fits : (x super : List ℕ) (c d : Class) → class_named w x ≡ Some c → c.is_imported ≡ false
      → is_interface c.flags ≡ false → c.supers ≡ super ∷ [] → class_named w super ≡ Some d → (s : Stands super)
      → s.height < depth (loaded p)
  super_fits x super c d e own class_here supers known s = by d.is_imported refl
    where
      by : (t : Bool) → d.is_imported ≡ t → s.height < depth (loaded p)
      by true is = let z = s.flat d known is in omega (arith, z)
      by false is =
          let h = facts.own x c e own in
          let g = facts.own super d known is in
          let low = s.low d g.number known g.ordered in
          let up = facts.before h.number g.number c d super h.ordered class_here supers known g.ordered in
          let less = slice_get_within (class_order w) h.number c h.ordered in
          let all = depth_is in omega (arith, low, up, less, all)
