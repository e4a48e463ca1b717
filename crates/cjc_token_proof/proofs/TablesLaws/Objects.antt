-- Objects of a class: class infos and their names say of instance fields what the class files say.
use Rattle.std.proofs.Common.{◌≡◌, ℕ, zero, suc, ◌+◌, ◌<◌, ◌≤◌, refl, sym, ap, subst, ◌∙◌, arith, Bool, true, false}
use Rattle.std.proofs.Common.{List, [], ◌∷◌, ◌++◌, length, inl, inr, ⊎_elim, append-nil}
use Rattle.std.specs.Prelude.{not, ◌&&◌, ◌||◌, ◌⊎◌, map, reverse, nat_le, nat_lt, position, Option, Some, None, is_some}
use Rattle.std.specs.Prelude.{slice_get, if◌then◌else◌}
use Rattle.std.specs.List.{flat_map, list_any}
use Rattle.std.specs.Str.{bytes_eq}
use Rattle.std.proofs.lemmas.Grind.{flat_map-append, reverse_onto}
use Rattle.std.proofs.lemmas.List.Folds.{list_any-append}
use Rattle.cjc_bytes.specs.AccessFlags.{is_abstract, is_static, is_interface}
use Rattle.cjc_bytes.specs.declared.fault.MemberId.{MemberId}
use Rattle.cjc_world.specs.ClassFile.declared.tree.ClassTree.{ClassTree}
use Rattle.cjc_world.specs.ClassFile.declared.tree.FieldTree.{FieldTree}
use Rattle.cjc_card_semantics.specs.Machine.Classes.{Class as CardClass, Info, IsInterface, IsClass, Own, External}
use Rattle.cjc_card_semantics.specs.Machine.Classes.{class_of, depth, info_of, info_size, infos, offset_from}
use Rattle.cjc_card_semantics.specs.Machine.Classes.{superclass as superclass_on_card, superclass_by}
use Rattle.cjc_world_proof.specs.LowerClinit.Image.{field_id}
use Rattle.cjc_script.specs.Sorts.{field_sort}
use Rattle.cjc_tokens.specs.Fields.{instance_cells, instance_token, is_instance}
use Rattle.cjc_vtable.proofs.Filed.{Has, at_front, behind, has-either}
use Rattle.cjc_world.specs.Classes.{Class, class_named, declared, field_of_class}
use Rattle.cjc_world.specs.Supertypes.{AreSupertypes, ends, unknown_here, known_here, Supertypes, Lists, foremost}
use Rattle.cjc_world.specs.Supertypes.{after, supertypes, line, upwards}
use Rattle.cjc_world.specs.Order.{class_order}
use Rattle.cjc_world.specs.Rules.{is_interface_of, is_of_class_file}
use Rattle.cjc_world.proofs.Cycles.{class_named-name}
use Rattle.cjc_world.proofs.Settled.{Settles, nothing, something, clear_settles, supertypes-AreSupertypes, lists-front}
use Rattle.cjc_world.proofs.Unbroken.{unbroken_is_acyclic}
use Rattle.cjc_world.proofs.Upwards.{line_goes_up}
use Rattle.cjc_jvm_semantics.specs.OnePackage.{declared_fields, instance_fields, member_of, object_fields}
use Rattle.cjc_ncode.specs.PoolOrder.{same_member}
use Rattle.cjc_token_proof.specs.ByToken.Cells.{are_apart, is_one_of}
use Rattle.cjc_token_proof.specs.ByToken.Objects.{Declares, imported, declares, HasFields, HasObjects, StandsBefore}
use Rattle.cjc_token_proof.specs.ByToken.Objects.{own, imported as stands_imported, is_reference as is_reference_sort}
use Rattle.cjc_token_proof.proofs.ByToken.Members.{member_same, member_tells}
use Rattle.cjc_components.specs.Package.{Package, tokens, world}
use Rattle.cjc_components.specs.Class.{class_entry, fields_in, fields_of, interface_entry, first_reference_token}
use Rattle.cjc_components.specs.Class.{reference_count}
use Rattle.cjc_components.specs.Names.{class_at, class_ref, field_token}
use Rattle.cjc_components.specs.Paired.Naming.{class_names, fields_from}
use Rattle.cjc_token_proof.specs.Tables.Infos.{HasInfo}
use Rattle.cjc_token_proof.specs.Tables.Known.{is_field_of, is_holder, may_hold, may_name, own_exceptions, same_members}
use Rattle.cjc_token_proof.specs.Tables.Loading.{loaded, naming, part}
use Rattle.cjc_token_proof.specs.Tables.Sound.{AreTyped, IsSound}
use Rattle.cjc_token_proof.proofs.TablesLaws.Above.{class_refs_mean, class_there, entry_of_name, info_of_name, once}
use Rattle.cjc_token_proof.proofs.TablesLaws.Above.{rules_of}
use Rattle.cjc_token_proof.proofs.TablesLaws.Clean.{has_named}
use Rattle.cjc_token_proof.proofs.TablesLaws.Fields.{class_in, field_names, fields_apart, named, own_among, token_is}
use Rattle.cjc_token_proof.proofs.TablesLaws.Filed.{own_filed}
use Rattle.cjc_token_proof.proofs.TablesLaws.Infos.{some_bytes, not_before}
use Rattle.cjc_token_proof.proofs.TablesLaws.Lists.{right_supers, supers_there}
use Rattle.cjc_token_proof.proofs.TablesLaws.Named.{has_info}
use Rattle.cjc_token_proof.proofs.TablesLaws.Order.{one_number, own_names, super_before}
use Rattle.cjc_token_proof.proofs.TablesLaws.Spans.{no_cells, span_is, token_below, token_once}

-- ---- fields of one class

none_are : (name : List ℕ) (fs : List FieldTree) → instance_fields name (map field_of_class fs) ≡ []
    → (i : ℕ) (f : FieldTree) → slice_get fs i ≡ Some f → is_instance f ≡ false
none_are name [] e i f h = cc
none_are name (g ∷ fs) e i f h = by (is_static g.flags) refl e i h (none_are name fs)
  where
    by : (b : Bool) → is_static g.flags ≡ b → (if b then instance_fields name (map field_of_class fs)
        else member_of name (field_of_class g) ∷ instance_fields name (map field_of_class fs)) ≡ []
        → (i : ℕ) → slice_get (g ∷ fs) i ≡ Some f → (instance_fields name (map field_of_class fs) ≡ []
        → (i : ℕ) (f : FieldTree) → slice_get fs i ≡ Some f → is_instance f ≡ false) → is_instance f ≡ false
    by true s k zero j rest = let is : g ≡ f = cc in ap (λ (v : FieldTree). is_instance v) (sym is) ∙ ap not s
    by true s k (suc i) j rest = rest k i f j
    by false s k i j rest = cc

module _ (list : List ℕ) (p : Package) (sound : IsSound list p.files) (typed : AreTyped p.files) where
  abbrev w : List Class
  w = world p

  module _ (n : ℕ) (t : ClassTree) (is_class : slice_get (let files = p.files in files.classes) n ≡ Some t) where
    abbrev c : Class
    c = declared n t

    abbrev own_fields : List MemberId
    own_fields = instance_fields t.name (map field_of_class t.fields)

    fields_are : fields_of p.files c ≡ t.fields
    fields_are = ap fields_in is_class

    pub own_entry : HasInfo p c
    own_entry = has_info list p sound c (class_in list p sound n t is_class) refl

    by_name : class_named w t.name ≡ Some c
    by_name = named list p sound n t is_class

    token_of : (m : MemberId) (i : ℕ) (f : FieldTree) → slice_get t.fields i ≡ Some f → is_instance f ≡ true
        → field_id t.name f ≡ m → field_token p m ≡ instance_token t.fields i f
    token_of m i f e h same = ap (field_token p) (sym same) ∙ token_is list p sound n t is_class i f e h

    pub has_fields : HasFields (naming p) (may_name w) 0 (let r = own_entry in r.offset) (class_entry (class_ref p) p c)
        (class_names p.files (tokens p) c) own_fields
    has_fields = record {
      order = ap (fields_from (tokens p) c 0) fields_are ∙ field_names list p sound n t is_class;
      class = λ f e. (let r = own_among t.name t.fields f e in ap (λ (m : MemberId). m.class) (sym r.4));
      on_card = λ f e. (let r = own_among t.name t.fields f e in ap (λ (m : MemberId). class_at p m.class) (sym r.4)
          ∙ (let i = own_entry in i.on_card));
      all = λ f e at. only f e at (class_named w f.class) refl;
      named = λ f e. (let r = own_among t.name t.fields f e
          in ap (λ o. is_field_of f o) (ap (λ (m : MemberId). class_named w m.class) (sym r.4) ∙ by_name) ∙ e);
      sized = λ f e. (let r = own_among t.name t.fields f e in
          let below = token_below t.fields r.0 r.1 r.2 r.3 in
          let token = token_of f r.0 r.1 r.2 r.3 r.4 in
          let size : instance_cells (fields_of p.files c) ≡ instance_cells t.fields = ap instance_cells fields_are in
          omega (arith, below, token, size));
      references = λ f e. (let r = own_among t.name t.fields f e in
          let type = typed n r.0 t r.1 is_class r.2 in
          ap (λ fs. nat_le (first_reference_token fs) (field_token p f)
          && nat_lt (field_token p f) (first_reference_token fs + reference_count fs)) fields_are
          ∙ ap (λ k. nat_le (first_reference_token t.fields) k
          && nat_lt k (first_reference_token t.fields + reference_count t.fields)) (token_of f r.0 r.1 r.2 r.3 r.4)
          ∙ span_is t.fields r.0 r.1 r.2 r.3
          ∙ sym type.reference
          ∙ ap (λ (m : MemberId). is_reference_sort (field_sort m.desc)) r.4);
      once = λ f g e h same. (let r = own_among t.name t.fields f e in
          let s = own_among t.name t.fields g h in
          let places = token_once t.fields r.0 s.0 r.1 s.1 r.2 s.2 r.3 s.3 (sym (token_of f r.0 r.1 r.2 r.3 r.4) ∙ same
          ∙ token_of g s.0 s.1 s.2 s.3 s.4) in
          let both : Some r.1 ≡ Some s.1 = sym r.2 ∙ ap (slice_get t.fields) places ∙ s.2 in
          let is : r.1 ≡ s.1 = cc in
          sym r.4 ∙ ap (λ (v : FieldTree). field_id t.name v) is ∙ s.4);
      empty = λ e. ap instance_cells fields_are ∙ no_cells t.fields (none_are t.name t.fields e);
    }
      where
        only : (f : MemberId) → may_name w f ≡ true → class_at p f.class ≡ Own 0 (let r = own_entry in r.offset)
            → (o : Option Class) → class_named w f.class ≡ o → is_one_of f own_fields ≡ true
        only f e at None h = let no : is_field_of f None ≡ true = ap (is_field_of f) (sym h) ∙ e in cc
        only f e at (Some d) h = by d.is_imported refl (ap (is_field_of f) (sym h) ∙ e)
          where
            by : (b : Bool) → d.is_imported ≡ b → (d.is_imported || is_one_of f (declared_fields d)) ≡ true
                → is_one_of f own_fields ≡ true
            by true im g =
                let r = entry_of_name list p sound f.class d h im in
                let clash : External r.file (let q = r.entry in q.token) ≡ Own 0 (let r = own_entry in r.offset) =
                sym r.on_card ∙ ap (class_at p) (class_named-name w f.class d h) ∙ at in
                cc
            by false im g =
                let same = once list p sound f.class t.name (ap is_some h) (ap is_some by_name) (at
                ∙ sym (let i = own_entry in i.on_card)) in
                let both : Some d ≡ Some c = sym h ∙ ap (class_named w) same ∙ by_name in
                let is : d ≡ c = cc in
                sym (ap (λ b. b || is_one_of f (declared_fields d)) im
                ∙ ap (λ (v : Class). is_one_of f (declared_fields v)) is) ∙ g

  -- ---- going upwards

  none_in : (f : Class → List MemberId) (cs : List Class) → ((d : Class) → Has d cs → f d ≡ [])
      → flat_map f (reverse cs) ≡ []
  none_in f [] h = refl
  none_in f (d ∷ cs) h =
      ap (flat_map f) (reverse_onto cs d []) ∙ flat_map-append f (reverse cs) (d ∷ [])
      ∙ ap (λ xs. xs ++ (f d ++ [])) (none_in f cs (λ e g. h e (behind g))) ∙ ap (λ xs. xs ++ []) (h d at_front)

  imports_up : (xs : List (List ℕ)) (k : Supertypes) → AreSupertypes w xs k → ((y : List ℕ) (d : Class) → Lists y xs
      → class_named w y ≡ Some d → d.is_imported ≡ true) → (d : Class) → Has d (upwards k) → d.is_imported ≡ true
  imports_up xs k ends h d g = elim g [ ]
  imports_up (x ∷ xs) k (unknown_here {next = next} e rest) h d g =
      imports_up xs next rest (λ y b l m. h y b (after l) m) d g
  imports_up (x ∷ xs) k (known_here {c = b} {supers = supers} {interfaces = interfaces} {next = next} e s i rest) h d
      g =
      let im = h x b foremost e in
      let rules = rules_of list p sound x b e in
      let right = right_supers w b rules.supers in
      by im g (imports_up b.supers supers s (λ y q l m. above y q m (right.of_import im y (lists-front y b.supers
      b.interfaces l)))) (imports_up xs next rest (λ y q l m. h y q (after l) m))
    where
      above : (y : List ℕ) (q : Class) → class_named w y ≡ Some q → is_of_class_file (class_named w y) ≡ false
          → q.is_imported ≡ true
      above y q m n = go q.is_imported (sym (ap is_of_class_file m) ∙ n)
        where
          go : (v : Bool) → not v ≡ false → v ≡ true
          go true u = refl
          go false u = cc

      by : b.is_imported ≡ true → Has d (b ∷ upwards supers ++ upwards next) → ((d : Class) → Has d (upwards supers)
          → d.is_imported ≡ true) → ((d : Class) → Has d (upwards next) → d.is_imported ≡ true) → d.is_imported ≡ true
      by im g u v = front d b (upwards supers ++ upwards next) im (λ r. ⊎_elim (λ q. u d q) (λ q. v d q)
          (has-either d (upwards supers) (upwards next) r)) g
        where
          front : (d b : Class) (cs : List Class) → b.is_imported ≡ true → (Has d cs → d.is_imported ≡ true)
              → Has d (b ∷ cs) → d.is_imported ≡ true
          front d b cs im h at_front = im
          front d b cs im h (behind g) = h g

  -- an object of an imported class holds nothing
  imported_fields : (x : List ℕ) (c : Class) → class_named w x ≡ Some c → c.is_imported ≡ true → object_fields w x ≡ []
  unfolding line
  imported_fields x c e im =
      none_in declared_fields (upwards (supertypes w (x ∷ []))) (λ d h. ap (λ b. if b then []
      else instance_fields d.name d.fields) (imports_up (x ∷ []) (supertypes w (x ∷ [])) (supertypes-AreSupertypes w
      (unbroken_is_acyclic list p.files sound.unbroken) (x ∷ [])) (λ y b l m. one y b l m) d h))
    where
      one : (y : List ℕ) (b : Class) → Lists y (x ∷ []) → class_named w y ≡ Some b → b.is_imported ≡ true
      one y b foremost m = let both : Some b ≡ Some c = sym m ∙ e in let is : b ≡ c = cc
          in ap (λ (v : Class). v.is_imported) is ∙ im
      one y b (after l) m = elim l [ ]

  -- an object of a class of the package holds what its superclass's objects hold, and the fields of the class
  own_object_fields : (x s : List ℕ) (c : Class) → class_named w x ≡ Some c → c.supers ≡ s ∷ []
      → object_fields w x ≡ object_fields w s ++ declared_fields c
  own_object_fields x s c e one =
      ap (λ cs. flat_map declared_fields (reverse cs)) (line_goes_up w (unbroken_is_acyclic list p.files sound.unbroken)
      x s c e one)
      ∙ ap (flat_map declared_fields) (reverse_onto (line w s) c [])
      ∙ flat_map-append declared_fields (reverse (line w s)) (c ∷ [])
      ∙ ap (λ xs. object_fields w s ++ xs) (append-nil (declared_fields c))

  offsets_rise : (at : ℕ) (is : List Info) (j k a b : ℕ) → offset_from at is j ≡ Some a → offset_from at is k ≡ Some b
      → j < k → a < b
  offsets_rise at [] j k a b e f lt = cc
  offsets_rise at (i ∷ is) j zero a b e f lt = absurd (omega (arith, lt))
  offsets_rise at (i ∷ is) zero (suc k) a b e f lt =
      let same : at ≡ a = cc in
      let le = not_before (at + info_size i) is k b f in
      let size = some_bytes i in
      omega (arith, same, le, size)
  offsets_rise at (i ∷ is) (suc j) (suc k) a b e f lt = offsets_rise (at + info_size i) is j k a b e f (omega (
    arith,
    lt,
  ))

  offset_within : (at : ℕ) (is : List Info) (k offset : ℕ) → offset_from at is k ≡ Some offset → k < length is
  offset_within at [] k offset e = cc
  offset_within at (i ∷ is) zero offset e = omega arith
  offset_within at (i ∷ is) (suc k) offset e = let r = offset_within (at + info_size i) is k offset e
      in omega (arith, r)

  apart_both : (xs ys : List MemberId) → are_apart xs ≡ true → are_apart ys ≡ true
      → ((f : MemberId) → is_one_of f xs ≡ true → is_one_of f ys ≡ true → ⊥) → are_apart (xs ++ ys) ≡ true
  apart_both [] ys a b h = b
  apart_both (x ∷ xs) ys a b h =
      let parts = split (is_one_of x xs) (are_apart xs) a in
      ap (λ q. not q && are_apart (xs ++ ys)) (list_any-append (λ g. same_member g x) xs ys
      ∙ none (is_one_of x xs) (is_one_of x ys) parts.0 (λ t. h x (here x xs) t))
      ∙ apart_both xs ys parts.1 b (λ f t u. h f (later f x xs t) u)
    where
      split : (q r : Bool) → (not q && r) ≡ true → (q ≡ false) × (r ≡ true)
      split false true e = (refl, refl)
      split false false e = cc
      split true r e = cc

      none : (q r : Bool) → q ≡ false → (r ≡ true → ⊥) → (q || r) ≡ false
      none false false e k = refl
      none false true e k = absurd (k refl)
      none true r e k = cc

      here : (f : MemberId) (fs : List MemberId) → is_one_of f (f ∷ fs) ≡ true
      here f fs = ap (λ q. q || is_one_of f fs) (member_same f)

      later : (f g : MemberId) (fs : List MemberId) → is_one_of f fs ≡ true → is_one_of f (g ∷ fs) ≡ true
      later f g fs t = go (same_member g f) t
        where
          go : (q : Bool) → is_one_of f fs ≡ true → (q || is_one_of f fs) ≡ true
          go true u = refl
          go false u = u

  one_of_either : (f : MemberId) (xs ys : List MemberId) → is_one_of f (xs ++ ys) ≡ true → (is_one_of f xs ≡ true)
      ⊎ (is_one_of f ys ≡ true)
  one_of_either f xs ys e = go (is_one_of f xs) (is_one_of f ys) (sym (list_any-append (λ g. same_member g f) xs ys)
      ∙ e)
    where
      go : (q r : Bool) → (q || r) ≡ true → (q ≡ true) ⊎ (r ≡ true)
      go true r u = inl refl
      go false r u = inr u

  -- ---- objects of a class

  record Holds (x : List ℕ) (c : Class) : Type 0 where
    height : ℕ
    declared : Declares (naming p) (may_name w) height (Some (class_at p x)) (object_fields w x)
    low : (k : ℕ) → slice_get (class_order w) k ≡ Some c → height ≤ suc k
    depth : height ≤ depth (loaded p)
    apart : are_apart (object_fields w x) ≡ true
    among : (f : MemberId) → is_one_of f (object_fields w x) ≡ true → (j : ℕ) × (d : Class)
        × (slice_get (class_order w) j ≡ Some d) × (f.class ≡ d.name) × ((k : ℕ) → slice_get (class_order w) k ≡ Some c
        → j ≤ k)

  of_import : (x : List ℕ) (c : Class) → class_named w x ≡ Some c → c.is_imported ≡ true → Holds x c
  of_import x c e im =
      let none = imported_fields x c e im in
      let r = entry_of_name list p sound x c e im in
      let place : class_at p x ≡ External r.file (let q = r.entry in q.token) =
      ap (class_at p) (sym (class_named-name w x c e)) ∙ r.on_card in
      record {
        height = 0;
        declared = subst (λ fs. Declares (naming p) (may_name w) 0 (Some (class_at p x)) fs) (sym none)
            (subst (λ q. Declares (naming p) (may_name w) 0 (Some q) []) (sym place) imported);
        low = λ k h. omega arith;
        depth = omega arith;
        apart = ap are_apart none;
        among = λ f h. (let no : is_one_of f [] ≡ true = ap (is_one_of f) (sym none) ∙ h in absurd (cc));
      }

  -- from the superclass's objects to the class's
  of_class : (x s : List ℕ) (c d : Class) (n : ℕ) (t : ClassTree) → slice_get (let files = p.files in files.classes) n
      ≡ Some t → c ≡ declared n t → class_named w x ≡ Some c → c.supers ≡ s ∷ [] → is_interface c.flags ≡ false
      → class_named w s ≡ Some d → is_interface d.flags ≡ false → Holds s d → Holds x c
  of_class x s c d n t is_class is e one plain f super_plain h =
      let own_c : c.is_imported ≡ false = ap (λ (v : Class). v.is_imported) is in
      let i = own_entry n t is_class in
      let name_is : t.name ≡ x = sym (ap (λ (v : Class). v.name) is) ∙ class_named-name w x c e in
      let on_card : class_at p x ≡ Own 0 i.offset = ap (class_at p) (sym name_is) ∙ i.on_card in
      let entry = class_entry (class_ref p) p (declared n t) in
      let t_plain : is_interface t.flags ≡ false = ap (λ (v : Class). is_interface v.flags) (sym is) ∙ plain in
      let info : info_of (loaded p) 0 i.offset ≡ Some (IsClass entry) = i.info
      ∙ ap (λ b. Some (if b then IsInterface (interface_entry (class_ref p) w (declared n t)) else IsClass entry))
      t_plain in
      let one' : t.superclass ∷ [] ≡ s ∷ [] = ap (λ (v : Class). v.supers) (sym is) ∙ one in
      let s_is : t.superclass ≡ s = cc in
      let super : superclass_on_card (loaded p) 0 i.offset ≡ Some (class_at p s) =
      ap (superclass_by (loaded p) 0) info ∙ ap (λ y. class_of (loaded p) 0 (class_ref p y)) s_is
      ∙ class_refs_mean list p sound s (ap is_some f) in
      let fields : object_fields w x ≡ object_fields w s ++ instance_fields t.name (map field_of_class t.fields) =
      own_object_fields x s c e one ∙ ap (λ (v : Class). object_fields w s ++ declared_fields v) is in
      let made : Declares (naming p) (may_name w) (suc h.height) (Some (Own 0 i.offset)) (object_fields w s
      ++ instance_fields t.name (map field_of_class t.fields)) =
      declares info i.names (has_fields n t is_class) (subst (StandsBefore 0 i.offset) (sym super)
      (before i (class_at p s) refl)) (subst (λ o. Declares (naming p) (may_name w) h.height o (object_fields w s))
      (sym super) h.declared) in
      let ordered_c : slice_get (class_order w) i.number ≡ Some c = i.ordered ∙ ap (λ (v : Class). Some v) (sym is) in
      let height_low : suc h.height ≤ suc i.number = height_at i.number ordered_c in
      let inside = offset_within 2 (infos (part p)) i.number i.offset i.at in
      record {
        height = suc h.height;
        declared = subst (λ fs. Declares (naming p) (may_name w) (suc h.height) (Some (class_at p x)) fs) (sym fields)
            (subst (λ q. Declares (naming p) (may_name w) (suc h.height) (Some q) (object_fields w s
            ++ instance_fields t.name (map field_of_class t.fields))) (sym on_card) made);
        low = height_at;
        depth = omega (arith, height_low, inside);
        apart = ap are_apart fields
            ∙ apart_both (object_fields w s) (instance_fields t.name (map field_of_class t.fields)) h.apart
            (fields_apart list p sound n t is_class) (λ g a b. clash i.number ordered_c g a b);
        among = λ g a. ⊎_elim
            (λ b. (let r = above_place g b i.number ordered_c
            in (
              r.0,
              r.1,
              r.2,
              r.3,
              λ k q. (let same = one_number list p.files sound i.number k c ordered_c q
                  in let lt = r.4 in omega (arith, same, lt)),
            )))
            (λ b. (
              i.number,
              declared n t,
              i.ordered,
              (let r = own_among t.name t.fields g b
                  in ap (λ (m : MemberId). m.class) (sym r.4)),
              λ k q. (let same = one_number list p.files sound i.number
                  k c ordered_c q in omega (arith, same)),
            ))
            (one_of_either g (object_fields w s) (instance_fields t.name (map field_of_class t.fields))
            (sym (ap (is_one_of g) fields) ∙ a));
      }
    where
      listed : Lists s c.supers
      listed = subst (Lists s) (sym one) foremost

      own_d_number : (b : Bool) → d.is_imported ≡ b → (b ≡ true) ⊎ ((j : ℕ) × (slice_get (class_order w) j ≡ Some d))
      own_d_number true im = inl refl
      own_d_number false im = let r = info_of_name list p sound s d f im in inr (r.number, r.ordered)

      before_it : (j k : ℕ) → slice_get (class_order w) j ≡ Some d → slice_get (class_order w) k ≡ Some c → j < k
      before_it j k a b = super_before list p.files sound j k c d s b a plain super_plain listed f

      height_at : (k : ℕ) → slice_get (class_order w) k ≡ Some c → suc h.height ≤ suc k
      height_at k q = go d.is_imported refl
        where
          zero_height : (height : ℕ) (fs : List MemberId) (file token : ℕ)
              → Declares (naming p) (may_name w) height (Some (External file token)) fs → height ≡ 0
          zero_height height fs file token imported = refl

          go : (b : Bool) → d.is_imported ≡ b → suc h.height ≤ suc k
          go true im =
              let r = entry_of_name list p sound s d f im in
              let place : class_at p s ≡ External r.file (let v = r.entry in v.token) =
              ap (class_at p) (sym (class_named-name w s d f)) ∙ r.on_card in
              let none = zero_height h.height (object_fields w s) r.file (let v = r.entry
              in v.token) (subst (λ v. Declares (naming p) (may_name w) h.height (Some v) (object_fields w s)) place
              h.declared) in
              omega (arith, none)
          go false im =
              let r = info_of_name list p sound s d f im in
              let lt = before_it r.number k r.ordered q in
              let low = h.low r.number r.ordered in
              omega (arith, lt, low)

      above_place : (g : MemberId) → is_one_of g (object_fields w s) ≡ true → (k : ℕ) → slice_get (class_order w) k
          ≡ Some c → (j : ℕ) × (b : Class) × (slice_get (class_order w) j ≡ Some b) × (g.class ≡ b.name) × (j < k)
      above_place g a k q = go d.is_imported refl
        where
          go : (b : Bool) → d.is_imported ≡ b → (j : ℕ) × (b : Class) × (slice_get (class_order w) j ≡ Some b)
              × (g.class ≡ b.name) × (j < k)
          go true im = let no : is_one_of g [] ≡ true = ap (is_one_of g) (sym (imported_fields s d f im)) ∙ a
              in absurd (cc)
          go false im =
              let r = h.among g a in
              let i = info_of_name list p sound s d f im in
              let lt = before_it i.number k i.ordered q in
              let le = r.4 i.number i.ordered in
              (r.0, r.1, r.2, r.3, omega (arith, lt, le))

      before : (i : HasInfo p (declared n t)) (q : CardClass) → class_at p s ≡ q → StandsBefore 0 i.offset (Some q)
      before i q g = go d.is_imported refl
        where
          go : (b : Bool) → d.is_imported ≡ b → StandsBefore 0 i.offset (Some q)
          go true im =
              let r = entry_of_name list p sound s d f im in
              let place : q ≡ External r.file (let v = r.entry in v.token) = sym g
              ∙ ap (class_at p) (sym (class_named-name w s d f)) ∙ r.on_card in
              subst (λ v. StandsBefore 0 i.offset (Some v)) (sym place) stands_imported
          go false im =
              let r = info_of_name list p sound s d f im in
              let place : q ≡ Own 0 r.offset = sym g ∙ ap (class_at p) (sym (class_named-name w s d f)) ∙ r.on_card in
              let lt = before_it r.number i.number r.ordered (i.ordered ∙ ap (λ (v : Class). Some v) (sym is)) in
              subst (λ v. StandsBefore 0 i.offset (Some v)) (sym place) (own (offsets_rise 2 (infos (part p)) r.number
              i.number r.offset i.offset r.at i.at lt))

      clash : (k : ℕ) → slice_get (class_order w) k ≡ Some c → (g : MemberId) → is_one_of g (object_fields w s) ≡ true
          → is_one_of g (instance_fields t.name (map field_of_class t.fields)) ≡ true → ⊥
      clash k q g a b =
          let r = above_place g a k q in
          let m = own_among t.name t.fields g b in
          let names : r.1.name ≡ c.name = sym r.3 ∙ ap (λ (v : MemberId). v.class) (sym m.4)
          ∙ ap (λ (v : Class). v.name) (sym is) in
          let both : Some r.0 ≡ Some k = sym (own_names list p.files sound r.0 r.1 r.2)
          ∙ ap (λ x. position (λ d. bytes_eq d.name x) (class_order w)) names ∙ own_names list p.files sound k c q
          in
          let same : r.0 ≡ k = cc in
          let lt = r.4 in
          omega (arith, same, lt)

  -- ---- each class that is no interface

  holds : (m : ℕ) (x : List ℕ) → Settles w m x → (c : Class) → class_named w x ≡ Some c → is_interface c.flags ≡ false
      → Holds x c
  holds zero x settles c e plain = elim settles [ ]
  holds (suc m) x (nothing none) c e plain = cc
  holds (suc m) x (something b named_b up) c e plain =
      let both : Some b ≡ Some c = sym named_b ∙ e in
      let is : b ≡ c = cc in
      by c.is_imported refl (λ y l d f g. holds m y
      (up y (lists-front y b.supers b.interfaces (subst (λ (v : Class). Lists y v.supers) (sym is) l))) d f g)
    where
      by : (q : Bool) → c.is_imported ≡ q → ((y : List ℕ) → Lists y c.supers → (d : Class) → class_named w y ≡ Some d
          → is_interface d.flags ≡ false → Holds y d) → Holds x c
      by true im rest = of_import x c e im
      by false im rest =
          let r = own_filed p.files sound.classes sound.exports c (has_named w x c e) im in
          let one : c.supers ≡ (let t = r.1 in t.superclass) ∷ [] = ap (λ (v : Class). v.supers) r.3 in
          let s = (let t = r.1 in t.superclass) in
          let listed : Lists s c.supers = subst (Lists s) (sym one) foremost in
          let rules = rules_of list p sound x c e in
          let there = class_there w s (supers_there w c (rules.there im) s listed) in
          let right = right_supers w c rules.supers in
          let super_plain : is_interface there.0.flags ≡ false = ap is_interface_of (sym there.1)
          ∙ right.supers s listed in
          of_class x s c there.0 r.0 r.1 r.2 r.3 e one plain there.1 super_plain (rest s listed there.0 there.1
          super_plain)

  same_tells : (xs ys : List MemberId) → same_members xs ys ≡ true → xs ≡ ys
  same_tells [] [] e = refl
  same_tells (x ∷ xs) (y ∷ ys) e = go (same_member x y) refl e (same_tells xs ys)
    where
      go : (q : Bool) → same_member x y ≡ q → (q && same_members xs ys) ≡ true → (same_members xs ys ≡ true → xs ≡ ys)
          → (x ∷ xs) ≡ (y ∷ ys)
      go true t u rest = ap (λ v. v ∷ xs) (member_tells x y t) ∙ ap (λ vs. y ∷ vs) (rest u)
      go false t u rest = cc
  same_tells [] (y ∷ ys) e = cc
  same_tells (x ∷ xs) [] e = cc

  pub import_holds : (x : List ℕ) (c : Class) → class_named w x ≡ Some c → c.is_imported ≡ true
      → is_holder (Some c) ≡ true → may_hold w x [] ≡ true
  import_holds x c e im holds_some = ap (λ o. is_holder o && same_members [] (object_fields w x)) e
      ∙ ap (λ b. b && same_members [] (object_fields w x)) holds_some ∙ ap (same_members []) (imported_fields x c e im)

  pub has_objects : (x : List ℕ) (fields : List MemberId) → may_hold w x fields ≡ true
      → HasObjects (naming p) (may_name w) x fields
  has_objects x fields e = by (class_named w x) refl (parts (is_holder (class_named w x))
      (same_members fields (object_fields w x)) e)
    where
      parts : (q r : Bool) → (q && r) ≡ true → (q ≡ true) × (r ≡ true)
      parts true true u = (refl, refl)
      parts true false u = cc
      parts false r u = cc

      taken : (c : Class) → Holds x c → same_members fields (object_fields w x) ≡ true
          → HasObjects (naming p) (may_name w) x fields
      taken c h q =
          let same = same_tells fields (object_fields w x) q in
          record {
            height = h.height;
            low = h.depth;
            declared = subst (Declares (naming p) (may_name w) h.height (Some (class_at p x))) (sym same) h.declared;
            once = ap are_apart same ∙ h.apart;
          }

      kind : (c : Class) → class_named w x ≡ Some c → (b i : Bool) → c.is_imported ≡ b → is_interface c.flags ≡ i
          → (if i then b && list_any (λ name. bytes_eq name c.name) own_exceptions
          else (b || not (is_abstract c.flags))) ≡ true → Holds x c
      kind c m true i im f u = of_import x c m im
      kind c m false true im f u = cc
      kind c m false false im f u = holds (suc (length w)) x (clear_settles w x (λ z way far. unbroken_is_acyclic list
          p.files sound.unbroken z far)) c m f

      by : (o : Option Class) → class_named w x ≡ o → (is_holder (class_named w x) ≡ true)
          × (same_members fields (object_fields w x) ≡ true) → HasObjects (naming p) (may_name w) x fields
      by None m q = let never : is_holder None ≡ true = ap is_holder (sym m) ∙ q.0 in absurd (cc)
      by (Some c) m q = taken c (kind c m c.is_imported (is_interface c.flags) refl refl (ap is_holder (sym m) ∙ q.0))
          q.1
