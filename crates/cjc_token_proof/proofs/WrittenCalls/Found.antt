-- What look-ups of methods find: methods of classes that are found by their names, with the name and descriptor that
-- are sought, and which of them stand in Method.
use Rattle.std.proofs.Common.{◌≡◌, ℕ, zero, suc, ◌+◌, ◌-◌, refl, sym, ap, ◌∙◌, arith, Bool, true, false, List, [], ◌∷◌}
use Rattle.std.proofs.Common.{◌++◌, length}
use Rattle.std.specs.Prelude.{Option, Some, None, slice_get, option_map, option_and_then, position, nat_lt, ◌&&◌, ◌||◌}
use Rattle.std.specs.Prelude.{if◌then◌else◌, codes}
use Rattle.std.specs.List.{list_any}
use Rattle.std.specs.Str.{bytes_eq}
use Rattle.std.proofs.lemmas.Bool.Decides.{nat_tests}
use Rattle.std.proofs.lemmas.Map.Keys.{any_passes_from_place}
use Rattle.cjc_bytes.specs.AccessFlags.{is_interface}
use Rattle.cjc_bytes.proofs.Bools.{and_true}
use Rattle.cjc_bytes.proofs.Gets.{in_front}
use Rattle.cjc_bytes.proofs.Quantified.{any_both}
use Rattle.cjc_jvm_semantics.specs.OnePackage.{is_initialiser}
use Rattle.cjc_token_proof.proofs.ByToken.Members.{bytes_tell}
use Rattle.cjc_token_proof.specs.Calls.Reaching.{is_in_method, is_same}
use Rattle.cjc_tokens.specs.Members.{signature_of}
use Rattle.cjc_vtable.specs.Naming.{member_named, method_named, named}
use Rattle.cjc_world.specs.declared.found.Found.{Found}
use Rattle.cjc_world.specs.Added.{added}
use Rattle.cjc_world.specs.Classes.{Class, Member, class_at, class_named}
use Rattle.cjc_world.specs.Supertypes.{Supertypes, End, Known, Unknown, supertypes, line, upwards}
use Rattle.cjc_world.specs.Lookup.{first, is_called, is_wanted, member_at, or_else, own_method}
use Rattle.cjc_world.specs.Order.{class_order, in_order, method_order, methods_in_turn, methods_of_class, places}
use Rattle.cjc_world.specs.Order.{written}
use Rattle.cjc_token_proof.proofs.WrittenCalls.Files.{position_has, some_member}
use Rattle.cjc_token_proof.proofs.WrittenCalls.SupertypeTrees.{SupertypesFine, supertypes_fine}
use Rattle.cjc_token_proof.proofs.WrittenCalls.Orders.{order_own}
use Rattle.cjc_token_proof.proofs.WrittenCalls.Begins.{same_itself}

module _ (w : List Class) where
  -- found by their names
  abbrev pub AllNamed : List Class → Type 0
  AllNamed [] = Unit {0}
  AllNamed (c ∷ cs) = (class_named w c.name ≡ Some c) × AllNamed cs

  named_both : (cs ds : List Class) → AllNamed cs → AllNamed ds → AllNamed (cs ++ ds)
  named_both [] ds a b = b
  named_both (c ∷ cs) ds a b = (a.0, named_both cs ds a.1 b)

  upwards_named : (k : Supertypes) → SupertypesFine w k → AllNamed (upwards k)
  upwards_named End f = tt
  upwards_named (Unknown name next) f = upwards_named next f
  upwards_named (Known c supers interfaces next) f =
      (f.0, named_both (upwards supers) (upwards next) (upwards_named supers f.1) (upwards_named next f.3))

  pub line_named : (x : List ℕ) → AllNamed (line w x)
  unfolding line
  line_named x = upwards_named (supertypes w (x ∷ [])) (supertypes_fine w (x ∷ []))

  pub first_own : (own : Class → Option Found) (cs : List Class) (f : Found) → AllNamed cs → first own cs ≡ Some f
      → (d : Class) × (class_named w d.name ≡ Some d) × (own d ≡ Some f)
  unfolding first
  first_own own [] f all e = absurd (cc)
  first_own own (c ∷ cs) f all e = by (own c) refl e (first_own own cs f all.1)
    where
      by : (o : Option Found) → own c ≡ o → or_else o (first own cs) ≡ Some f → (first own cs ≡ Some f → (d : Class)
          × (class_named w d.name ≡ Some d) × (own d ≡ Some f)) → (d : Class) × (class_named w d.name ≡ Some d)
          × (own d ≡ Some f)
      by None is h rest = rest h
      by (Some g) is h rest = (c, all.0, is ∙ h)

  -- a class's own method: its place, and what it is called
  pub record Own (b : Bool) (name desc : List ℕ) (d : Class) (f : Found) : Type 0 where
    pub place : ℕ
    pub method : Member
    pub there : slice_get d.methods place ≡ Some method
    pub is : f ≡ member_at d (length d.fields + place)
    pub wanted : is_wanted b method.flags ≡ true
    pub name_is : method.name ≡ name
    pub desc_is : method.desc ≡ desc

  pub own_is : (b : Bool) (name desc : List ℕ) (d : Class) (f : Found) → own_method b name desc d ≡ Some f
      → Own b name desc d f
  unfolding own_method
  own_is b name desc d f e = by (position (λ (m : Member). is_wanted b m.flags && is_called name desc m) d.methods) refl
      e
    where
      by : (o : Option ℕ) → position (λ (m : Member). is_wanted b m.flags && is_called name desc m) d.methods ≡ o
          → option_map (λ i. member_at d (length d.fields + i)) o ≡ Some f → Own b name desc d f
      by None pos h = absurd (cc)
      by (Some i) pos h =
          let r = position_has (λ (m : Member). is_wanted b m.flags && is_called name desc m) d.methods i some_member
          pos in
          let two = and_true (is_wanted b r.0.flags) (is_called name desc r.0) r.2 in
          let names = and_true (bytes_eq r.0.name name) (bytes_eq r.0.desc desc) two.1 in
          let same : member_at d (length d.fields + i) ≡ f = cc in
          record {
            place = i;
            method = r.0;
            there = r.1;
            is = sym same;
            wanted = two.0;
            name_is = bytes_tell r.0.name name names.0;
            desc_is = bytes_tell r.0.desc desc names.1;
          }

  -- a method at a place has its name
  pub place_named : (d : Class) (i : ℕ) (m : Member) → class_at w d.is_imported d.number ≡ Some d
      → slice_get d.methods i ≡ Some m → named w (member_at d (length d.fields + i)) ≡ Some (signature_of m)
  unfolding named
  place_named d i m placed there =
      let past : nat_lt (length d.fields + i) (length d.fields) ≡ false = grind (arith, nat_tests) in
      let left : length d.fields + i - length d.fields ≡ i = omega arith in
      ap (option_and_then (member_named w (length d.fields + i))) placed
      ∙ ap (λ b. if b then None else method_named w d (length d.fields + i - length d.fields)) past
      ∙ ap (method_named w d) left
      ∙ ap (option_map signature_of) (in_front d.methods (added w d) i m there)

  pub own_named : (b : Bool) (name desc : List ℕ) (d : Class) (f : Found) → class_at w d.is_imported d.number ≡ Some d
      → Own b name desc d f → named w f ≡ Some (record { name = name; desc = desc })
  own_named b name desc d f placed o =
      ap (named w) o.is ∙ place_named d o.place o.method placed o.there
      ∙ ap (λ x. Some (record { name = x; desc = o.method.desc })) o.name_is
      ∙ ap (λ x. Some (record { name = name; desc = x })) o.desc_is

  -- ---- methods of Method

  written_has : (c : Class) (at : ℕ) (ms : List Member) (i : ℕ) (m : Member) → slice_get ms i ≡ Some m
      → is_initialiser m.name ≡ false → (k : ℕ) × (slice_get (written c at ms) k ≡ Some (member_at c (at + i)))
  written_has c at [] i m e plain = absurd (cc)
  written_has c at (n ∷ ms) zero m e plain =
      let same : n ≡ m = cc in
      let z : at ≡ at + 0 = omega arith in (
        0,
        ap (λ t. slice_get (if t then written c (at + 1) ms else member_at c at ∷ written c (at + 1) ms) 0)
            (ap (λ (q : Member). bytes_eq q.name (codes "<clinit>")) same ∙ plain) ∙ ap (λ n. Some (member_at c n)) z,
      )
  written_has c at (n ∷ ms) (suc i) m e plain = by (bytes_eq n.name (codes "<clinit>")) (written_has c (at + 1) ms i m e
      plain)
    where
      by : (t : Bool) → (k : ℕ) × (slice_get (written c (at + 1) ms) k ≡ Some (member_at c (at + 1 + i))) → (k : ℕ)
          × (slice_get (if t then written c (at + 1) ms else member_at c at ∷ written c (at + 1) ms) k
          ≡ Some (member_at c (at + suc i)))
      by true r = let z : at + 1 + i ≡ at + suc i = omega arith in (r.0, r.1 ∙ ap (λ n. Some (member_at c n)) z)
      by false r = let z : at + 1 + i ≡ at + suc i = omega arith in (suc r.0, r.1 ∙ ap (λ n. Some (member_at c n)) z)

  pub turn_has : (f : Found) (cs : List Class) (k : ℕ) (c : Class) → slice_get cs k ≡ Some c
      → list_any (is_same f) (methods_of_class w c) ≡ true → list_any (is_same f) (methods_in_turn w cs) ≡ true
  turn_has f [] k c e any = absurd (cc)
  turn_has f (d ∷ cs) zero c e any =
      let same : d ≡ c = cc in
      any_both (is_same f) (methods_of_class w d) (methods_in_turn w cs)
      ∙ ap (λ t. t || list_any (is_same f) (methods_in_turn w cs))
      (ap (λ q. list_any (is_same f) (methods_of_class w q)) same ∙ any)
  turn_has f (d ∷ cs) (suc k) c e any =
      any_both (is_same f) (methods_of_class w d) (methods_in_turn w cs)
      ∙ by (list_any (is_same f) (methods_of_class w d)) (turn_has f cs k c e any)
    where
      by : (t : Bool) → list_any (is_same f) (methods_in_turn w cs) ≡ true
          → (t || list_any (is_same f) (methods_in_turn w cs)) ≡ true
      by true h = refl
      by false h = h

  -- a class of the order that is no interface stands among the classes
  pub among_classes : (is cs : List Class) (k : ℕ) (c : Class) → ((j : ℕ) (d : Class) → slice_get is j ≡ Some d
      → is_interface d.flags ≡ true) → slice_get (is ++ cs) k ≡ Some c → is_interface c.flags ≡ false → (j : ℕ)
      × (slice_get cs j ≡ Some c)
  among_classes [] cs k c all e class_here = (k, e)
  among_classes (i ∷ is) cs zero c all e class_here =
      let same : i ≡ c = cc in
      let clash : false ≡ true = sym class_here ∙ sym (ap (λ (q : Class). is_interface q.flags) same) ∙ all 0 i refl
      in absurd (cc)
  among_classes (i ∷ is) cs (suc k) c all e class_here = among_classes is cs k c (λ j d h. all (suc j) d h) e class_here

  -- A method of a class that is no interface, and no initialiser, stands in Method.
  pub stands_in_method : (k : ℕ) (c : Class) → slice_get (class_order w) k ≡ Some c → is_interface c.flags ≡ false
      → c.is_imported ≡ false → (i : ℕ) (m : Member) → slice_get c.methods i ≡ Some m → is_initialiser m.name ≡ false
      → is_in_method w (member_at c (length c.fields + i)) ≡ true
  unfolding class_order method_order
  stands_in_method k c e class_here own i m there plain =
      let j = among_classes (in_order w true) (in_order w false) k c (λ n d h. (order_own w true n d h).1) e class_here
      in
      let r = written_has c (length c.fields) c.methods i m there plain in
      turn_has (member_at c (length c.fields + i)) (in_order w false) j.0 c j.1
      (any_passes_from_place (is_same (member_at c (length c.fields + i))) (methods_of_class w c) r.0
      (member_at c (length c.fields + i)) (in_front (written c (length c.fields) c.methods)
      (places c (length c.fields + length c.methods) (length (added w c))) r.0 (member_at c (length c.fields + i))
      r.1) (same_itself (member_at c (length c.fields + i)) own))
