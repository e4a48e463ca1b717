-- The maps of interfaces hold each token that Descriptor gives a method of the interface.
use Rattle.std.proofs.Common.{◌≡◌, ℕ, zero, suc, ◌+◌, ◌<◌, ◌==◌, refl, sym, ap, subst, ◌∙◌, arith, Bool, true, false}
use Rattle.std.proofs.Common.{List, [], ◌∷◌, ◌++◌, length, inl, inr, ⊎_elim}
use Rattle.std.specs.Prelude.{not, ◌&&◌, ◌||◌, ◌⊎◌, codes, map, nat_lt, option_and_then, option_map, position}
use Rattle.std.specs.Prelude.{slice_get, unwrap_or, if◌then◌else◌, Option, Some, None}
use Rattle.std.specs.List.{list_all}
use Rattle.std.specs.Str.{bytes_eq}
use Rattle.std.proofs.lemmas.Bool.{eqb-true}
use Rattle.std.proofs.lemmas.Bool.Decides.{nat_tests}
use Rattle.std.proofs.lemmas.List.{length-map}
use Rattle.std.proofs.lemmas.Option.{slice_get-map}
use Rattle.cjc_bytes.specs.AccessFlags.{is_interface}
use Rattle.cjc_bytes.proofs.Numbers.{like_number}
use Rattle.cjc_bytes.proofs.Gets.{get_behind}
use Rattle.cjc_capread.specs.declared.tree.ClassDescriptor.{ClassDescriptor}
use Rattle.cjc_capread.specs.declared.tree.ClassEntry.{ClassEntry}
use Rattle.cjc_capread.specs.declared.tree.ImplementedInterface.{ImplementedInterface}
use Rattle.cjc_capread.specs.declared.tree.MethodDescriptor.{MethodDescriptor}
use Rattle.cjc_capread.specs.ClassRefs.{is_inside}
use Rattle.cjc_world.specs.ClassFile.declared.tree.ClassTree.{ClassTree}
use Rattle.cjc_check_rules.specs.Tables.{has_methods, holds_tokens, is_long_enough}
use Rattle.cjc_world.specs.declared.found.Found.{Found}
use Rattle.cjc_world.specs.Added.{added}
use Rattle.cjc_world.specs.Classes.{Member, Class, class_named, declared, field_of_class}
use Rattle.cjc_world.specs.Exported.{is_exported}
use Rattle.cjc_world.specs.Interfaces.{known}
use Rattle.cjc_world.specs.Lookup.{member_at}
use Rattle.cjc_world.specs.Order.{class_order, in_order, methods_of_class, places, written}
use Rattle.cjc_world.proofs.Unbroken.{unbroken_is_acyclic}
use Rattle.cjc_world.proofs.Places.{position_within}
use Rattle.cjc_tokens.specs.Fields.{field_tokens}
use Rattle.cjc_tokens.specs.Lines.{line_at}
use Rattle.cjc_tokens.specs.Members.{Signature, is_initialiser, same, signature_of}
use Rattle.cjc_tokens.specs.Methods.{class_method_tokens, interface_methods, interface_token, interfaces_at}
use Rattle.cjc_tokens.specs.Slots.{hidden_slots, shown_token}
use Rattle.cjc_tokens.specs.Tokens.{OfClass, assigned, joined, method_tokens, of_class}
use Rattle.cjc_vtable.specs.Tables.{interface_map, or_zero, table_of}
use Rattle.cjc_vtable.proofs.Filed.{Has, at_front, behind, get-has, has-either}
use Rattle.cjc_components.specs.Package.{Package, has_applets, world}
use Rattle.cjc_components.specs.Class.{class_entry, implemented}
use Rattle.cjc_components.specs.Descriptor.{class_descriptor, method_descriptor}
use Rattle.cjc_components.specs.Names.{class_ref, member_token}
use Rattle.cjc_token_proof.specs.Components.Whole.{exports_of, whole}
use Rattle.cjc_token_proof.specs.Tables.Sound.{IsSound}
use Rattle.cjc_token_proof.proofs.TablesLaws.Clean.{has_named, own_name}
use Rattle.cjc_token_proof.proofs.TablesLaws.Filed.{own_filed}
use Rattle.cjc_token_proof.proofs.TablesLaws.Interfaces.{interface_is}
use Rattle.cjc_token_proof.proofs.TablesLaws.Named.{has_entry, has_info}
use Rattle.cjc_token_proof.proofs.TablesLaws.Order.{kind-in, order_in}
use Rattle.cjc_check_proof.specs.Classes.Premises.{ImportsAreWhole}
use Rattle.cjc_check_proof.proofs.ClassesLaws.Exporting.{one_offset}
use Rattle.cjc_token_proof.proofs.WrittenSends.Tokens.{fields_long}
use Rattle.cjc_check_proof.proofs.ClassesLaws.Lists.{has-mapped}
use Rattle.cjc_check_proof.proofs.ClassesLaws.Supers.{entry_there, is_one}
use Rattle.cjc_tokens.proofs.Means.{kept-at}

-- ---- lists

all_map : {A B : Type 0} (test : B → Bool) (f : A → B) (xs : List A) → ((x : A) → Has x xs → test (f x) ≡ true)
    → list_all test (map f xs) ≡ true
all_map test f [] each = refl
all_map test f (x ∷ xs) each = ap (λ b. b && list_all test (map f xs)) (each x at_front)
    ∙ all_map test f xs (λ y h. each y (behind h))

-- ---- methods of a class stand behind its fields

Placed : Class → (from : ℕ) → Found → Type 0
Placed c from f = (j : ℕ) × (f ≡ member_at c (from + j))

later : (c : Class) (from : ℕ) (f : Found) → Placed c (from + 1) f → Placed c from f
unfolding Placed
later c from f r = let s : from + 1 + r.0 ≡ from + suc r.0 = omega arith in (suc r.0, r.1 ∙ ap (member_at c) s)

first : (c : Class) (from : ℕ) → Placed c from (member_at c from)
unfolding Placed
first c from = let z : from ≡ from + 0 = omega arith in (0, ap (member_at c) z)

of_places : (c : Class) (from n : ℕ) (f : Found) → Has f (places c from n) → Placed c from f
of_places c from zero f h = elim h [ ]
of_places c from (suc n) f at_front = first c from
of_places c from (suc n) f (behind h) = later c from f (of_places c (from + 1) n f h)

either : {A : Type 0} (x y : A) (xs : List A) → Has x (y ∷ xs) → (x ≡ y) ⊎ Has x xs
either x y xs at_front = inl refl
either x y xs (behind h) = inr h

of_written : (c : Class) (from : ℕ) (ms : List Member) (f : Found) → Has f (written c from ms) → Placed c from f
of_written c from [] f h = elim h [ ]
of_written c from (m ∷ ms) f h = by (bytes_eq m.name (codes "<clinit>")) h (of_written c (from + 1) ms f)
  where
    by : (b : Bool) → Has f (if b then written c (from + 1) ms else member_at c from ∷ written c (from + 1) ms)
        → (Has f (written c (from + 1) ms) → Placed c (from + 1) f) → Placed c from f
    by true g rest = later c from f (rest g)
    by false g rest = ⊎_elim (λ e. subst (Placed c from) (sym e) (first c from)) (λ k. later c from f (rest k))
        (either f (member_at c from) (written c (from + 1) ms) g)

of_class_at : (w : List Class) (c : Class) (f : Found) → Has f (methods_of_class w c) → Placed c (length c.fields) f
unfolding Placed
of_class_at w c f h =
    let nf = length c.fields in
    ⊎_elim (λ g. of_written c nf c.methods f g)
    (λ g.
    let r = of_places c (nf + length c.methods) (length (added w c)) f g in
    let s : nf + length c.methods + r.0 ≡ nf + (length c.methods + r.0) = omega arith in
    (length c.methods + r.0, r.1 ∙ ap (member_at c) s))
    (has-either f (written c nf c.methods) (places c (nf + length c.methods) (length (added w c))) h)

-- ---- tokens

-- a token that so many indices hold
abbrev is_held : (count token : ℕ) → Bool
is_held count token = token == 0xFF || nat_lt token count

small : (ss : List Signature) (o : Option Member)
    → is_held (length ss) (unwrap_or (joined (option_map (interface_token ss) o)) 0xFF) ≡ true
small ss None = refl
small ss (Some m) = by (is_initialiser m.name) (position (λ s. same s (signature_of m)) ss)
    (position_within (λ s. same s (signature_of m)) ss)
  where
    last : (a : Bool) {b : Bool} → b ≡ true → (a || b) ≡ true
    last true f = refl
    last false f = f

    by : (b : Bool) (o : Option ℕ) → ((k : ℕ) → o ≡ Some k → k < length ss)
        → is_held (length ss) (unwrap_or (if b then None else o) 0xFF) ≡ true
    by true o f = refl
    by false None f = refl
    by false (Some k) f = let lt = f k refl in let less : nat_lt k (length ss) ≡ true = grind (arith, nat_tests, lt)
        in last (k == 0xFF) less

module _ (list : List ℕ) (p : Package) (sound : IsSound list p.files) where
  abbrev w : List Class
  w = world p

  -- a method of an interface of the package
  its_token : (n : ℕ) (t : ClassTree) → (let files = p.files in slice_get files.classes n ≡ Some t)
      → (let c = declared n t in is_interface c.flags ≡ true
      → (j : ℕ) → is_held (length (interface_methods w c)) (member_token p (Some (member_at c (length c.fields + j))))
      ≡ true)
  unfolding assigned
  its_token n t e kind j =
      let c = declared n t in
      let r = kept-at p.files (has_applets p) n t e in
      let ex = is_exported w (has_applets p) c in
      let all = of_class w (has_applets p) r.0 n t in
      let fields = field_tokens ex t.fields 0 t.fields in
      let ss = interface_methods w c in
      let own = map (interface_token ss) c.methods in
      let long : length c.fields ≡ length fields = length-map t.fields field_of_class
      ∙ sym (fields_long ex t.fields 0 t.fields) in
      let tokens_are : method_tokens w ex c ≡ own =
      ap (λ b. if b then own else class_method_tokens ex (shown_token (line_at w c)) (hidden_slots (line_at w c))
      c.methods 0
      c.methods ++ map (λ m. shown_token (line_at w c) (signature_of m)) (added w c)) kind in
      let there : slice_get all.members (length c.fields + j) ≡ option_map (interface_token ss)
      (slice_get c.methods j) =
      ap (λ q. slice_get (fields ++ method_tokens w ex c) (q + j)) long ∙ get_behind fields (method_tokens w ex c) j
      ∙ ap (λ ts. slice_get ts j) tokens_are ∙ slice_get-map (interface_token ss) c.methods j in
      let is : member_token p (Some (member_at c (length c.fields + j)))
      ≡ unwrap_or (joined (option_map (interface_token ss) (slice_get c.methods j))) 0xFF =
      ap (λ o. unwrap_or (option_and_then (λ (k : OfClass). joined (slice_get k.members (length c.fields + j))) o) 0xFF)
      r.1
      ∙ ap (λ o. unwrap_or (joined o) 0xFF) there in
      ap (is_held (length ss)) is ∙ small ss (slice_get c.methods j)

  its_descriptor : (c : Class) → Has c w → c.is_imported ≡ false → is_interface c.flags ≡ true
      → holds_tokens (length (interface_methods w c)) (class_descriptor p c) ≡ true
  unfolding Placed
  its_descriptor c h own kind =
      let r = own_filed p.files sound.classes sound.exports c h own in
      all_map (λ (m : MethodDescriptor). is_held (length (interface_methods w c)) m.token) (method_descriptor p c)
      (methods_of_class w c)
      (λ f g.
      let at = of_class_at w c f g in
      ap (λ q. is_held (length (interface_methods w c)) (member_token p (Some q))) at.1
      ∙ subst (λ (d : Class). is_held (length (interface_methods w d))
      (member_token p (Some (member_at d (length d.fields + at.0)))) ≡ true) (sym r.3)
      (its_token r.0 r.1 r.2 (sym (ap (λ (d : Class). is_interface d.flags) r.3) ∙ kind) at.0))

  module _ (imports : ImportsAreWhole p) where
    long : (i : Class) → class_named w i.name ≡ Some i → is_interface i.flags ≡ true
        → is_long_enough (whole p) (exports_of p) (class_ref p i.name) (length (interface_methods w i)) ≡ true
    long i named kind = by i.is_imported refl
      where
        h : Has i w
        h = has_named w i.name i named

        by : (b : Bool) → i.is_imported ≡ b → is_long_enough (whole p) (exports_of p) (class_ref p i.name)
            (length (interface_methods w i)) ≡ true
        by true f =
            let r = has_entry list p sound i h f in
            let e = r.entry in
            let count = imports i.name r.number e (named ∙ ap (λ (d : Class). Some d) r.class)
            (sym (ap (λ (d : Class). is_interface d.flags) r.class) ∙ kind) in
            ap (λ q. is_long_enough (whole p) (exports_of p) q (length (interface_methods w i))) r.ref
            ∙ ap (λ o. has_methods o (length (interface_methods w i))) (entry_there list p sound i r)
            ∙ ap (λ n. length e.methods == n) (ap (λ (d : Class). length (interface_methods w d)) r.class ∙ count)
            ∙ like_number (length e.methods)
        by false f =
            let a = has_info list p sound i h f in
            let count = length (interface_methods w i) in
            ap (λ q. is_long_enough (whole p) (exports_of p) q count) a.ref
            ∙ all_map (λ (d : ClassDescriptor). not (is_inside d.this_class a.offset) || holds_tokens count d)
            (class_descriptor p) (class_order w)
            (λ y g.
            let k = order_in list p.files sound y g in
            let b = has_info list p sound y k.0 k.1 in
            here y (is_inside (class_ref p y.name) a.offset) (λ e.
            let is = one_offset p i y a b (eqb-true b.offset a.offset (ap (λ q. is_inside q a.offset) (sym b.ref) ∙ e))
            in
            ap (λ (d : Class). holds_tokens count (class_descriptor p d)) is ∙ its_descriptor i h f kind))
          where
            here : (y : Class) (b : Bool)
                → (b ≡ true → holds_tokens (length (interface_methods w i)) (class_descriptor p y) ≡ true)
                → (not b || holds_tokens (length (interface_methods w i)) (class_descriptor p y)) ≡ true
            here y true f = f refl
            here y false f = refl

    of_map : (c : Class) → Has c w → (m : ImplementedInterface) → Has m (let x = class_entry (class_ref p) p c
        in x.interfaces) → is_long_enough (whole p) (exports_of p) m.interface (length m.index) ≡ true
    of_map c h m g =
        let table = table_of w c in
        let r = has-mapped (implemented (class_ref p)) m table.maps g in
        let s = has-mapped (interface_map w (shown_token (line_at w c))) r.0 (known (interfaces_at w c)) r.1 in
        let i = s.0 in
        let named = own_name list p.files sound c h in
        let is = interface_is w (unbroken_is_acyclic list p.files sound.unbroken) c c.name i named s.1 in
        let indices = length-map (interface_methods w i) (λ q. or_zero (shown_token (line_at w c) q)) in
        ap (λ (q : ImplementedInterface). is_long_enough (whole p) (exports_of p) q.interface (length q.index)) (sym r.2
        ∙ ap (implemented (class_ref p)) (sym s.2))
        ∙ ap (is_long_enough (whole p) (exports_of p) (class_ref p i.name)) indices
        ∙ long i is.0 (is_one list p sound c.name c i named s.1)

    pub all_long : (j k : ℕ) (x : ClassEntry) (m : ImplementedInterface)
        → slice_get (map (class_entry (class_ref p) p) (in_order w false)) j ≡ Some x → slice_get x.interfaces k
        ≡ Some m → is_long_enough (whole p) (exports_of p) m.interface (length m.index) ≡ true
    all_long j k x m e f =
        let r = has-mapped (class_entry (class_ref p) p) x (in_order w false)
        (get-has x (map (class_entry (class_ref p) p) (in_order w false)) j e) in
        of_map r.0 (kind-in list p.files sound false r.0 r.1).0 m
        (subst (λ (q : ClassEntry). Has m q.interfaces) (sym r.2) (get-has m x.interfaces k f))
