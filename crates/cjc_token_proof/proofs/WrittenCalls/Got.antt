-- The class of the package that a token's method is found in, which declares the method or got it from an interface.
use Rattle.std.proofs.Common.{◌≡◌, ℕ, zero, suc, ◌+◌, ◌-◌, ◌<◌, refl, sym, ap, subst, ◌∙◌, arith, Bool, true, false}
use Rattle.std.proofs.Common.{List, [], ◌∷◌, length, inl, inr}
use Rattle.std.specs.Prelude.{Option, Some, None, slice_get, map, option_map, option_and_then, position, not, unwrap_or}
use Rattle.std.specs.Prelude.{◌&&◌, ◌||◌, ◌⊎◌, if◌then◌else◌}
use Rattle.std.specs.List.{list_any}
use Rattle.std.specs.Str.{bytes_eq}
use Rattle.std.proofs.lemmas.List.{length-map}
use Rattle.std.proofs.lemmas.Option.{slice_get-map, slice_get_past}
use Rattle.std.proofs.lemmas.Bool.{or_right}
use Rattle.std.proofs.lemmas.Map.Keys.{any_passes_from_place}
use Rattle.cjc_bytes.specs.AccessFlags.{is_interface}
use Rattle.cjc_bytes.proofs.Bools.{and_true}
use Rattle.cjc_bytes.proofs.Gets.{get_behind, get_below}
use Rattle.cjc_bytes.proofs.Quantified.{any_both}
use Rattle.cjc_jvm_semantics.specs.OnePackage.{method_at, method_by, method_in}
use Rattle.cjc_token_proof.proofs.ByToken.Members.{bytes_tell}
use Rattle.cjc_token_proof.specs.Calls.Reaching.{is_in_method, is_same}
use Rattle.cjc_world.specs.ClassFile.declared.tree.MethodTree.{MethodTree}
use Rattle.cjc_components.specs.Descriptor.{as_added, methods_with_added, no_member}
use Rattle.cjc_components.specs.Package.{Package, world}
use Rattle.cjc_components.specs.Written.{added_words}
use Rattle.cjc_components.specs.LowerNarrow.Rows.Resolved.{argument_words, parameter_words}
use Rattle.cjc_script.specs.Sorts as sorts
use Rattle.cjc_token_proof.specs.Tables.Sound.{IsSound}
use Rattle.cjc_token_proof.proofs.TablesLaws.Clean.{has_named}
use Rattle.cjc_token_proof.proofs.TablesLaws.Filed.{own_filed}
use Rattle.cjc_tokens.specs.Lines.{Declared, Imported, line_in}
use Rattle.cjc_tokens.specs.Members.{Signature, is_constructor, is_exposed, is_initialiser, is_shown, is_virtual}
use Rattle.cjc_tokens.specs.Slots.{got, implementing, own}
use Rattle.cjc_tokens.proofs.Facts.{own-at}
use Rattle.cjc_world.specs.declared.found.Found.{Found}
use Rattle.cjc_world.specs.Added.{added}
use Rattle.cjc_world.specs.Classes.{Class, Member, class_named, field_of_class, method_of_class}
use Rattle.cjc_world.specs.Supertypes.{End, AreSupertypes, Supertypes, Known, Unknown, supertypes, known_here}
use Rattle.cjc_world.specs.Supertypes.{unknown_here, upwards}
use Rattle.cjc_world.specs.Lookup.{first, is_called, is_selectable, member_at, or_else}
use Rattle.cjc_world.specs.Order.{class_order, in_order, method_order, places, written}
use Rattle.cjc_token_proof.proofs.WrittenCalls.Begins.{same_itself}
use Rattle.cjc_token_proof.proofs.WrittenCalls.Facts.{Facts}
use Rattle.cjc_token_proof.proofs.WrittenCalls.Files.{first_imported_found, position_has, some_member}
use Rattle.cjc_token_proof.proofs.WrittenCalls.Found.{Own, among_classes, turn_has}
use Rattle.cjc_token_proof.proofs.WrittenCalls.Orders.{order_own}

-- what a class got, by its place among its methods
pub record Got (w : List Class) (d : Class) (s : Signature) (f : Found) : Type 0 where
  pub place : ℕ
  pub method : Member
  pub there : slice_get (added w d) place ≡ Some method
  pub is : f ≡ member_at d (length d.fields + length d.methods + place)
  pub desc_is : method.desc ≡ s.desc

pub got_is : (w : List Class) (d : Class) (s : Signature) (f : Found) → got (added w d) s d ≡ Some f → Got w d s f
unfolding got
got_is w d s f e = by (position (λ (m : Member). is_called s.name s.desc m) (added w d)) refl e
  where
    by : (o : Option ℕ) → position (λ (m : Member). is_called s.name s.desc m) (added w d) ≡ o
        → option_map (λ i. member_at d (length d.fields + length d.methods + i)) o ≡ Some f → Got w d s f
    by None pos h = absurd (cc)
    by (Some i) pos h =
        let r = position_has (λ (m : Member). is_called s.name s.desc m) (added w d) i some_member pos in
        let names = and_true (bytes_eq r.0.name s.name) (bytes_eq r.0.desc s.desc) r.2 in
        let same : member_at d (length d.fields + length d.methods + i) ≡ f = cc in
        record { place = i; method = r.0; there = r.1; is = sym same; desc_is = bytes_tell r.0.desc s.desc names.1 }

-- a public or protected virtual method that a class declares is its own method that selection may end at
pub shown_is : (w : List Class) (d : Class) (s : Signature) (f : Found) → own is_shown s d ≡ Some f
    → Own w true s.name s.desc d f
unfolding own
shown_is w d s f e = by (position (λ (m : Member). is_shown m && is_called s.name s.desc m) d.methods) refl e
  where
    selectable : (m : Member) → is_shown m ≡ true → is_selectable m.flags ≡ true
    selectable m h = part (is_exposed m.flags) (is_selectable m.flags) (not (is_constructor m.name
        || is_initialiser m.name)) h
      where
        part : (a b c : Bool) → (a && (b && c)) ≡ true → b ≡ true
        part true true c g = refl
        part true false c g = absurd (cc)
        part false b c g = absurd (cc)

    by : (o : Option ℕ) → position (λ (m : Member). is_shown m && is_called s.name s.desc m) d.methods ≡ o
        → option_map (λ i. member_at d (length d.fields + i)) o ≡ Some f → Own w true s.name s.desc d f
    by None pos h = absurd (cc)
    by (Some i) pos h =
        let r = position_has (λ (m : Member). is_shown m && is_called s.name s.desc m) d.methods i some_member pos in
        let two = and_true (is_shown r.0) (is_called s.name s.desc r.0) r.2 in
        let names = and_true (bytes_eq r.0.name s.name) (bytes_eq r.0.desc s.desc) two.1 in
        let same : member_at d (length d.fields + i) ≡ f = cc in
        record {
          place = i;
          method = r.0;
          there = r.1;
          is = sym same;
          wanted = selectable r.0 two.0;
          name_is = bytes_tell r.0.name s.name names.0;
          desc_is = bytes_tell r.0.desc s.desc names.1;
        }

places_at : (c : Class) (i n k : ℕ) → k < n → slice_get (places c i n) k ≡ Some (member_at c (i + k))
places_at c i zero k lt = absurd (omega (arith, lt))
places_at c i (suc n) zero lt = let z : i ≡ i + 0 = omega arith in ap (λ j. Some (member_at c j)) z
places_at c i (suc n) (suc k) lt = let next : i + 1 + k ≡ i + suc k = omega arith
    in places_at c (i + 1) n k (omega (arith, lt)) ∙ ap (λ j. Some (member_at c j)) next

module _ (p : Package) (facts : Facts p) where
  abbrev w : List Class
  w = world p

  -- the class of the package that has a method
  pub record Holder (s : Signature) (f : Found) : Type 0 where
    pub class : Class
    pub known : class_named w class.name ≡ Some class
    pub own_class : class.is_imported ≡ false
    pub class_here : is_interface class.flags ≡ false
    pub has : (own is_shown s class ≡ Some f) ⊎ (got (added w class) s class ≡ Some f)

  holder_by : (s : Signature) (f : Found) → f.imported ≡ false → (k : Supertypes) (x : List ℕ)
      → AreSupertypes w (x ∷ []) k → ((d : Class) → class_named w x ≡ Some d → is_interface d.flags ≡ false)
      → implementing (line_in w k) s ≡ Some f → Holder s f
  holder_by s f here End x h classes e = elim h [ ]
  holder_by s f here (Unknown y next) x (unknown_here none rest) classes e = absurd (cc)
  holder_by s f here (Known d supers interfaces next) x (known_here known ks ki kn) classes e =
      by d.is_imported refl e (λ y a is not_interface h. holder_by s f here supers y a (λ b g. not_interface b g) h)
    where
      Rest : Type 0
      Rest = (y : List ℕ) → AreSupertypes w (y ∷ []) supers → (b : Class) → ((c : Class) → class_named w y ≡ Some c
          → is_interface c.flags ≡ false) → implementing (line_in w supers) s ≡ Some f → Holder s f

      kind : (c : Class) (g : Found) → own is_virtual s c ≡ Some g → g.imported ≡ c.is_imported
      kind c g h = let r = own-at is_virtual s c g h in ap (λ (q : Found). q.imported) r.1

      same : supertypes w d.supers ≡ supers
      same = facts.one_supertypes d.supers (supertypes w d.supers) supers (facts.are_supertypes d.supers) ks

      by : (b : Bool) → d.is_imported ≡ b → implementing (if b then Imported (d ∷ upwards supers)
          else Declared d (added w d) (line_in w supers)) s ≡ Some f → Rest → Holder s f
      by true is h rest =
          let import = first_imported_found p facts x d known is (own is_virtual s) kind f
          (ap (λ q. first (own is_virtual s) (d ∷ upwards q)) same ∙ h) in
          let clash : false ≡ true = sym here ∙ import in absurd (cc)
      by false is h rest = split (own is_shown s d) refl (got (added w d) s d) refl h
        where
          holder : (own is_shown s d ≡ Some f) ⊎ (got (added w d) s d ≡ Some f) → Holder s f
          holder has = record {
            class = d;
            known = Rattle.cjc_token_proof.proofs.WrittenCalls.SupertypeTrees.by_own_name
                w x d known;
            own_class = is;
            class_here = classes d known;
            has = has;
          }

          split : (o : Option Found) → own is_shown s d ≡ o → (q : Option Found) → got (added w d) s d ≡ q
              → or_else o (or_else q (implementing (line_in w supers) s)) ≡ Some f → Holder s f
          split (Some g) i q j h = holder (inl (i ∙ h))
          split None i (Some g) j h = holder (inr (j ∙ h))
          split None i None j h =
              let one = facts.rules.single x d known is in
              let up = facts.super_there x one.0 d known is one.1 in
              rest one.0 (subst (λ ss. AreSupertypes w ss supers) one.1 ks) up.0 (λ c g. (let both : Some up.0
              ≡ Some c = sym up.1 ∙ g in let one_class : up.0 ≡ c = cc
              in sym (ap (λ (q : Class). is_interface q.flags) one_class) ∙ up.2)) h

  -- the class of the package whose method a class has by a token
  pub holder : (s : Signature) (f : Found) → f.imported ≡ false → (x : List ℕ) (c : Class) → class_named w x ≡ Some c
      → is_interface c.flags ≡ false → implementing (line_in w (supertypes w (x ∷ []))) s ≡ Some f → Holder s f
  holder s f here x c known class_here e =
      holder_by s f here (supertypes w (x ∷ [])) x (facts.are_supertypes (x ∷ [])) (λ d g. (let both : Some c
      ≡ Some d = sym known ∙ g in let same : c ≡ d = cc in sym (ap (λ (q : Class). is_interface q.flags) same)
      ∙ class_here)) e

  -- ---- a method that a class got

  module _ (d : Class) (known : class_named w d.name ≡ Some d) (own_class : d.is_imported ≡ false)
      (class_here : is_interface d.flags ≡ false) (s : Signature) (f : Found) (g : Got w d s f) where
    -- it stands in Method
    pub got_in_method : is_in_method w f ≡ true
    unfolding class_order method_order
    got_in_method =
        let i = facts.own d.name d known own_class in
        let j = among_classes w (in_order w true) (in_order w false) i.number d (λ n c h. (order_own w true n c h).1)
        i.ordered class_here in
        let from = length d.fields + length d.methods in
        let at = places_at d from (length (added w d)) g.place (get_below (added w d) g.place g.method g.there) in
        turn_has w f (in_order w false) j.0 d j.1
        (any_both (is_same f) (written d (length d.fields) d.methods) (places d from (length (added w d)))
        ∙ or_right (list_any (is_same f) (written d (length d.fields) d.methods))
        (list_any (is_same f) (places d from (length (added w d))))
        (any_passes_from_place (is_same f) (places d from (length (added w d))) g.place f (at ∙ ap Some (sym g.is))
        (same_itself f (ap (λ (q : Found). q.imported) g.is ∙ own_class))))

    -- it has the words of its descriptor, and a receiver
    pub got_words : added_words w f (Rattle.cjc_world.specs.Classes.class_at w f.imported f.class)
        ≡ 1 + parameter_words (sorts.signature_of s.desc)
    got_words =
        let past : length d.fields + length d.methods + g.place - length d.fields ≡ length d.methods + g.place =
        omega arith in
        ap (λ (q : Found). added_words w q (Rattle.cjc_world.specs.Classes.class_at w q.imported q.class)) g.is
        ∙ ap (added_words w (member_at d (length d.fields + length d.methods + g.place))) (facts.placed d.name d known)
        ∙ ap (λ n. (let m = unwrap_or (slice_get (methods_with_added w d) n) no_member
        in argument_words m.flags m.desc)) past
        ∙ ap (λ o. (let m = unwrap_or o no_member in argument_words m.flags m.desc))
        (get_behind d.methods (map as_added (added w d)) g.place ∙ slice_get-map as_added (added w d) g.place
        ∙ ap (option_map as_added) g.there)
        ∙ ap (λ y. 1 + parameter_words (sorts.signature_of y)) g.desc_is

-- it has no code of a class file
pub got_no_code : (list : List ℕ) (p : Package) → IsSound list p.files → (d : Class) → class_named (world p) d.name
    ≡ Some d → d.is_imported ≡ false → (s : Signature) (f : Found) → Got (world p) d s f → method_at p.files f ≡ None
got_no_code list p sound d known own_class s f g =
    let r = own_filed p.files sound.classes sound.exports d (has_named (world p) d.name d known) own_class in
    let n = r.0 in
    let tree = r.1 in
    let fields : length (map field_of_class tree.fields) ≡ length tree.fields = length-map tree.fields field_of_class in
    let methods : length (map method_of_class tree.methods) ≡ length tree.methods =
    length-map tree.methods method_of_class in
    let left : length (map field_of_class tree.fields) + length (map method_of_class tree.methods) + g.place - length
    tree.fields ≡ length tree.methods + g.place = omega (arith, fields, methods) in
    ap (method_at p.files) g.is
    ∙ ap (λ (q : Class). method_at p.files (member_at q (length q.fields + length q.methods + g.place))) r.3
    ∙ ap (option_and_then (method_in (length (map field_of_class tree.fields) + length
    (map method_of_class tree.methods) + g.place))) r.2
    ∙ ap (λ j. option_map (λ (q : MethodTree). method_by tree q q.code) (slice_get tree.methods j)) left
    ∙ ap (option_map (λ (q : MethodTree). method_by tree q q.code)) (slice_get_past tree.methods (length tree.methods +
    g.place) (omega arith))
