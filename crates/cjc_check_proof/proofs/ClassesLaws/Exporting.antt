-- What Export names is there, by the tokens that Descriptor gives.
use Rattle.std.proofs.Common.{◌≡◌, ℕ, zero, suc, ◌+◌, ◌-◌, ◌*◌, ◌/◌, ◌≤◌, ◌==◌, refl, sym, ap, subst, ◌∙◌, arith, Bool}
use Rattle.std.proofs.Common.{true, false, List, [], ◌∷◌, ◌++◌, length}
use Rattle.std.specs.Prelude.{not, ◌&&◌, ◌||◌, bit_and, cond, count_by, filter, map, nat_lt, option_and_then}
use Rattle.std.specs.Prelude.{option_map, take, slice_get, unwrap_or, if◌then◌else◌, Option, Some, None}
use Rattle.std.specs.List.{find}
use Rattle.std.proofs.lemmas.Bool.{eqb-true}
use Rattle.std.proofs.lemmas.Bool.Decides.{nat_tests}
use Rattle.std.proofs.lemmas.List.{length-map}
use Rattle.std.proofs.lemmas.Nat.{and_shr}
use Rattle.cjc_bytes.specs.AccessFlags.{has, is_interface, is_private, is_static, acc_public, acc_private}
use Rattle.cjc_bytes.specs.AccessFlags.{acc_protected, acc_static, acc_final, acc_abstract}
use Rattle.cjc_bytes.proofs.Numbers.{like_number}
use Rattle.cjc_bytes.proofs.Gets.{in_front, get_behind}
use Rattle.cjc_capread.specs.declared.tree.ClassDescriptor.{ClassDescriptor}
use Rattle.cjc_capread.specs.declared.tree.FieldDescriptor.{FieldDescriptor}
use Rattle.cjc_capread.specs.declared.tree.FieldPlace.TheVariants as places
use Rattle.cjc_capread.specs.declared.tree.MethodDescriptor.{MethodDescriptor}
use Rattle.cjc_capread.specs.declared.tree.ExportedClass.{ExportedClass}
use Rattle.cjc_capread.specs.ClassRefs.{is_inside}
use Rattle.cjc_world.specs.ClassFile.declared.tree.ClassTree.{ClassTree}
use Rattle.cjc_world.specs.ClassFile.declared.tree.FieldTree.{FieldTree}
use Rattle.cjc_pool.specs.Clinit.Image.{field_id}
use Rattle.cjc_check_rules.specs.declared.spot.ComponentPlace.{ComponentPlace}
use Rattle.cjc_check_rules.specs.Spots.{in_info, numbered, begins, unless}
use Rattle.cjc_check_rules.specs.Classes.{classes_at, interfaces_at, is_start}
use Rattle.cjc_check_rules.specs.Complete.{exported_size}
use Rattle.cjc_check_rules.specs.Exports.{class_for, export_spots, has_field, has_method, in_exported}
use Rattle.cjc_check_rules.specs.Exports as sentences
use Rattle.cjc_check_rules.specs.Members.{is_cell_at, is_method_start}
use Rattle.cjc_check_rules.specs.Members as members
use Rattle.cjc_world.specs.declared.found.Found.{Found}
use Rattle.cjc_world.specs.Added.{added}
use Rattle.cjc_world.specs.Classes.{Member, Class, declared, field_of_class}
use Rattle.cjc_world.specs.Exported.{is_exported}
use Rattle.cjc_world.specs.Lookup.{member_at}
use Rattle.cjc_world.specs.Order.{class_order, in_order, methods_of_class, written}
use Rattle.cjc_tokens.specs.Fields.{field_token, field_tokens, is_constant, is_open_static, instance_token}
use Rattle.cjc_tokens.specs.Lines.{line_at}
use Rattle.cjc_tokens.specs.Members.{Signature, is_constructor, is_exposed, is_hidden, is_initialiser, is_shown}
use Rattle.cjc_tokens.specs.Members.{signature_of}
use Rattle.cjc_tokens.specs.Methods.{class_method_token, class_method_tokens, interface_methods, interface_token}
use Rattle.cjc_tokens.specs.Methods.{is_open_bound, with_high_bit}
use Rattle.cjc_tokens.specs.Slots.{Slots, hidden_slots, shown_token, token}
use Rattle.cjc_tokens.specs.Tokens.{OfClass, assigned, classes_from, joined, method_tokens, of_class, token_of_class}
use Rattle.cjc_vtable.proofs.Filed.{Has, at_front, behind, has-get}
use Rattle.cjc_token_proof.specs.CardSemantics.Machine.Classes.{number_of}
use Rattle.cjc_components.specs.Package.{Package, has_applets, tokens, world}
use Rattle.cjc_components.specs.Class.{fields_in, fields_of}
use Rattle.cjc_components.specs.Descriptor.{as_added, class_descriptor, field_descriptor, field_flags, fields_from}
use Rattle.cjc_components.specs.Descriptor.{flag_where, method_descriptor, method_flags, method_in, methods_with_added}
use Rattle.cjc_components.specs.Descriptor.{no_member}
use Rattle.cjc_components.specs.Exports.{exported_class, exported_classes, export_with, open_methods}
use Rattle.cjc_components.specs.Methods.{method_offset}
use Rattle.cjc_components.specs.Names.{class_offset, class_ref, info_starts, member_token}
use Rattle.cjc_components.specs.Statics.{cell_offset}
use Rattle.cjc_token_proof.specs.Components.Methods.{HasMethods}
use Rattle.cjc_token_proof.specs.Components.Whole.{whole}
use Rattle.cjc_token_proof.proofs.ComponentsLaws.Starts.{ref_is_start}
use Rattle.cjc_token_proof.proofs.ComponentsLaws.Tests.{passes, none_in_both}
use Rattle.cjc_token_proof.specs.Tables.Infos.{HasInfo}
use Rattle.cjc_token_proof.specs.Tables.Loading.{part}
use Rattle.cjc_token_proof.specs.Tables.Sound.{IsSound}
use Rattle.cjc_token_proof.proofs.TablesLaws.Clean.{own_name}
use Rattle.cjc_token_proof.proofs.TablesLaws.Filed.{own_in}
use Rattle.cjc_token_proof.proofs.TablesLaws.Named.{has_info}
use Rattle.cjc_token_proof.proofs.TablesLaws.Order.{order_has, order_in, own_names}
use Rattle.cjc_check_proof.specs.Classes.Premises.{InterfacesAreUnbound}
use Rattle.cjc_check_proof.proofs.ClassesLaws.Installs.{any_has, described_static, method_start, written_has}
use Rattle.cjc_check_proof.proofs.ClassesLaws.Listing.{exported_at, kept_at, open_at}
use Rattle.cjc_check_proof.proofs.ClassesLaws.Lists.{has-back, has-front, has-map}
use Rattle.cjc_check_proof.proofs.ClassesLaws.Refs.{class_begins_at, info, interface_begins}
use Rattle.cjc_check_proof.proofs.ClassesLaws.Supers.{in_place}
use Rattle.cjc_token_proof.proofs.WrittenSends.Tokens.{fields_long, method_row}

-- ---- lists

-- the only one that passes is found
found_only : {A B : Type 0} (test : B → Bool) (f : A → B) (x : A) (xs : List A) → Has x xs → test (f x) ≡ true
    → ((y : A) → Has y xs → test (f y) ≡ true → y ≡ x) → find test (map f xs) ≡ Some (f x)
found_only test f x [] h e only = elim h [ ]
found_only test f x (y ∷ xs) at_front e only = ap (λ b. cond b (Some (f x)) (find test (map f xs))) e
found_only test f x (y ∷ xs) (behind h) e only =
    by (test (f y)) refl (found_only test f x xs h e (λ z k. only z (behind k)))
  where
    by : (b : Bool) → test (f y) ≡ b → find test (map f xs) ≡ Some (f x) → cond b (Some (f y)) (find test (map f xs))
        ≡ Some (f x)
    by true g rest = ap (λ z. Some (f z)) (only y at_front g)
    by false g rest = rest

none_numbered : {X A : Type 0} (size : A → ℕ) (broken : ℕ → ℕ → A → List ComponentPlace) (f : X
    → A) (n at : ℕ) (xs : List X) → ((k at : ℕ) (x : X) → slice_get xs k ≡ Some x → broken (n + k) at (f x) ≡ [])
    → numbered size broken n at (map f xs) ≡ []
unfolding numbered
none_numbered size broken f n at [] h = refl
none_numbered size broken f n at (x ∷ xs) h =
    let first : n + 0 ≡ n = omega arith in
    none_in_both (ap (λ m. broken m at (f x)) (sym first) ∙ h 0 at x refl)
    (none_numbered size broken f (n + 1) (at + size (f x)) xs (λ k at y e. let next : n + 1 + k
    ≡ n + suc k = omega arith in ap (λ m. broken m at (f y)) next ∙ h (suc k) at y e))

-- ---- flags

upto : (b : Bool) (n : ℕ) → (if b then n else 0) ≤ n
upto true n = omega arith
upto false n = omega arith

some_bits : (n : ℕ) → n / 128 ≡ 1 → nat_lt 0 n ≡ true
some_bits n e = grind (arith, nat_tests, e)

eighth : (n : ℕ) → n / 128 ≡ 1 → has n 0x80 ≡ true
eighth n e =
    let m : bit_and n 128 / 128 ≡ bit_and (n / 128) 1 = and_shr n 128 7 in
    some_bits (bit_and n 128) (m ∙ ap (λ k. bit_and k 1) e)

constructor_flag : (a b c s d e : Bool) → has (((if a then 0x01 else 0) + (if b then 0x02 else 0) + (if c then 0x04
    else 0) + (if s then 0x08 else 0) + (if d then 0x10 else 0)) + (if e then 0x40 else 0) + 0x80) 0x80 ≡ true
constructor_flag a b c s d e =
    let u = upto a 0x01 in
    let v = upto b 0x02 in
    let x = upto c 0x04 in
    let y = upto s 0x08 in
    let z = upto d 0x10 in
    let q = upto e 0x40 in
    eighth _ (omega (arith, u, v, x, y, z, q))

described_constructor : (m : Member) → is_constructor m.name ≡ true → members.is_constructor (method_flags m) ≡ true
described_constructor m e =
    ap (λ b. members.is_constructor (field_flags m.flags + flag_where m.flags acc_abstract 0x40 + (if b then 0x80
    else 0))) e
    ∙ constructor_flag (has m.flags acc_public) (has m.flags acc_private) (has m.flags acc_protected)
    (has m.flags acc_static) (has m.flags acc_final) (has m.flags acc_abstract)

bound_parts : (a b c d : Bool) → (a && (b || c) && not d) ≡ true → ((b || c) ≡ true) × (d ≡ false)
bound_parts true true c false e = (refl, refl)
bound_parts true true c true e = absurd (cc)
bound_parts true false true false e = (refl, refl)
bound_parts true false true true e = absurd (cc)
bound_parts true false false d e = absurd (cc)
bound_parts false b c d e = absurd (cc)

described_bound : (m : Member) → (is_static m.flags || is_constructor m.name) ≡ true
    → (is_static (method_flags m) || members.is_constructor (method_flags m)) ≡ true
described_bound m e = by (is_static m.flags) refl e
  where
    right : (a : Bool) {b : Bool} → b ≡ true → (a || b) ≡ true
    right true f = refl
    right false f = f

    by : (b : Bool) → is_static m.flags ≡ b → (b || is_constructor m.name) ≡ true
        → (is_static (method_flags m) || members.is_constructor (method_flags m)) ≡ true
    by true f g = ap (λ b. b || members.is_constructor (method_flags m)) (described_static m f)
    by false f g = right (is_static (method_flags m)) (described_constructor m g)

-- a static method or constructor is no virtual one
not_virtual : (v p s c i : Bool) → (s || c) ≡ true → (v && ((not p && not s) && not (c || i))) ≡ false
not_virtual false p s c i e = refl
not_virtual true true s c i e = refl
not_virtual true false true c i e = refl
not_virtual true false false true i e = refl
not_virtual true false false false i e = absurd (cc)

static_parts : (a b c : Bool) → (a && b && not c) ≡ true → (a ≡ true) × (c ≡ false)
static_parts true true false e = (refl, refl)
static_parts true true true e = absurd (cc)
static_parts true false c e = absurd (cc)
static_parts false b c e = absurd (cc)

-- ---- tokens by place

field_row : (exported : Bool) (fs : List FieldTree) (k : ℕ) (rest : List FieldTree) (i : ℕ) (f : FieldTree)
    → slice_get rest i ≡ Some f → slice_get (field_tokens exported fs k rest) i
    ≡ Some (field_token exported fs (k + i) f)
unfolding field_tokens
field_row exported fs k [] i f e = absurd (cc)
field_row exported fs k (g ∷ rest) zero f e = let is : g ≡ f = cc in let z : k ≡ k + 0 = omega arith
    in ap (λ v. Some (field_token exported fs k v)) is ∙ ap (λ m. Some (field_token exported fs m f)) z
field_row exported fs k (g ∷ rest) (suc i) f e = let s : k + 1 + i ≡ k + suc i = omega arith
    in field_row exported fs (k + 1) rest i f e ∙ ap (λ m. Some (field_token exported fs m f)) s

open_field : (fs : List FieldTree) (i : ℕ) (f : FieldTree) → is_open_static f ≡ true → field_token true fs i f
    ≡ Some (count_by is_open_static (take i fs))
unfolding field_token
open_field fs i f e =
    let s = static_parts (is_static f.flags) (is_exposed f.flags) (is_constant f) e in
    ap (λ b. if not b then Some (instance_token fs i f) else if is_open_static f
    then Some (count_by is_open_static (take i fs)) else None) s.0
    ∙ ap (λ b. if b then Some (count_by is_open_static (take i fs)) else None) e

open_method : (shown : Signature → Option ℕ) (hidden : Slots) (ms : List Member) (i : ℕ) (m : Member) → is_open_bound
    m ≡ true
    → class_method_token true shown hidden ms i m ≡ Some (count_by is_open_bound (take i ms))
unfolding class_method_token
open_method shown hidden ms i m e =
    let s = bound_parts (is_exposed m.flags) (is_static m.flags) (is_constructor m.name) (is_initialiser m.name) e in
    let no_shown : is_shown m ≡ false = not_virtual (is_exposed m.flags) (is_private m.flags) (is_static m.flags)
    (is_constructor m.name) (is_initialiser m.name) s.0 in
    let no_hidden : is_hidden m ≡ false = not_virtual (not (is_exposed m.flags)) (is_private m.flags)
    (is_static m.flags) (is_constructor m.name) (is_initialiser m.name) s.0 in
    skip (shown (signature_of m)) (option_map with_high_bit (token hidden (signature_of m))) _ (is_shown m)
    (is_hidden m) no_shown no_hidden
    ∙ ap (λ b. if b then Some (count_by is_open_bound (take i ms)) else None) e
  where
    skip : (x y z : Option ℕ) (a b : Bool) → a ≡ false → b ≡ false → (if a then x else if b then y else z) ≡ z
    skip x y z true b f g = absurd (cc)
    skip x y z false true f g = absurd (cc)
    skip x y z false false f g = refl

-- ---- what Descriptor has

module _ (p : Package) (c : Class) where
  described_field : (i : ℕ) (fs : List FieldTree) (k : ℕ) (f : FieldTree) → slice_get fs k ≡ Some f
      → is_constant f ≡ false → Has (field_descriptor p c (i + k) f) (fields_from p c i fs)
  described_field i [] k f e plain = absurd (cc)
  described_field i (g ∷ fs) zero f e plain =
      let is : g ≡ f = cc in
      let z : i + 0 ≡ i = omega arith in
      subst (λ j. Has (field_descriptor p c j f) (fields_from p c i (g ∷ fs))) (sym z)
      (subst (λ (q : FieldTree). Has (field_descriptor p c i f) ((if is_constant q then [] else field_descriptor p c i q
      ∷ []) ++ fields_from p c (i + 1) fs)) (sym is)
      (subst (λ b. Has (field_descriptor p c i f) ((if b then [] else field_descriptor p c i f ∷ [])
      ++ fields_from p c (i + 1) fs)) (sym plain) at_front))
  described_field i (g ∷ fs) (suc k) f e plain =
      let s : i + 1 + k ≡ i + suc k = omega arith in
      has-back (field_descriptor p c (i + suc k) f) (if is_constant g then [] else field_descriptor p c i g
      ∷ []) (fields_from p c (i + 1) fs)
      (subst (λ j. Has (field_descriptor p c j f) (fields_from p c (i + 1) fs)) s (described_field (i + 1) fs k f e
      plain))

-- classes of one offset are one
pub one_offset : (p : Package) (c d : Class) (a : HasInfo p c) (b : HasInfo p d) → b.offset ≡ a.offset → d ≡ c
one_offset p c d a b e =
    let numbers : Some b.number ≡ Some a.number = sym b.numbered ∙ ap (number_of (part p)) e ∙ a.numbered in
    let is : b.number ≡ a.number = cc in
    let both : Some d ≡ Some c = sym b.ordered ∙ ap (slice_get (class_order (world p))) is ∙ a.ordered in
    cc

with_classes : (p : Package) (cs : List Class) → sentences.exported_classes (export_with p cs) ≡ map (exported_class p)
    cs
with_classes p [] = refl
with_classes p (c ∷ cs) = refl

-- ---- one class

module _ (list : List ℕ) (p : Package) (sound : IsSound list p.files) (methods : HasMethods p)
    (unbound : InterfacesAreUnbound p) where
  abbrev w : List Class
  w = world p

  abbrev trees : List ClassTree
  trees = let files = p.files in files.classes

  module _ (n j : ℕ) (t : ClassTree) (is_class : slice_get trees j ≡ Some t) (exported : is_exported w (has_applets p)
      (declared j t) ≡ true)
      (row : slice_get (classes_from w (has_applets p) 0 0 trees) j ≡ Some (of_class w (has_applets p) n j t)) where
    abbrev c : Class
    c = declared j t

    class_in : Has c w
    class_in = own_in p.files sound.classes sound.exports j t is_class

    placed : HasInfo p c
    placed = has_info list p sound c class_in refl

    abbrev offset : ℕ
    offset = let q = placed in q.offset

    offset_is : class_offset p c.name ≡ Some offset
    offset_is =
        let q = placed in
        let names = own_names list p.files sound in
        let s = ref_is_start p names q.number c q.ordered in
        let refs = sym s.2 ∙ q.ref in
        let is : s.0 ≡ q.offset = cc in
        ap (option_and_then (slice_get (info_starts p))) (names q.number c q.ordered) ∙ s.1 ∙ ap (λ (o : ℕ). Some o) is

    -- its start

    starts : (b : Bool) → is_interface c.flags ≡ b → is_start (info p) offset ≡ true
    starts true kind =
        let q = placed in
        let k = has-get c (in_order w true) (in_place list p sound c true class_in refl kind) in
        let r = interface_begins p (own_names list p.files sound) k.0 c k.1 in
        let refs = sym r.1 ∙ q.ref in
        let is : r.0 ≡ q.offset = cc in
        ap (λ b. b || begins (classes_at (info p)) offset) (ap (begins (interfaces_at (info p))) (sym is) ∙ r.2)
    starts false kind =
        let q = placed in
        let k = has-get c (in_order w false) (in_place list p sound c false class_in refl kind) in
        let r = class_begins_at p (own_names list p.files sound) k.0 c k.1 in
        let refs = sym r.1 ∙ q.ref in
        let is : r.0 ≡ q.offset = cc in
        last (begins (interfaces_at (info p)) offset) (ap (begins (classes_at (info p))) (sym is) ∙ r.2)
      where
        last : (a : Bool) {b : Bool} → b ≡ true → (a || b) ≡ true
        last true f = refl
        last false f = f

    -- what Descriptor has of its token and start

    class_token : unwrap_or (token_of_class (tokens p) j) 0xFF ≡ n
    unfolding assigned
    class_token = ap (λ o. unwrap_or (option_and_then (λ (k : OfClass). k.class) o) 0xFF) row
        ∙ ap (λ b. unwrap_or (if b then Some n else None) 0xFF) exported

    abbrev is_it : ClassDescriptor → Bool
    is_it d = d.token == n && is_inside d.this_class offset

    it_is : is_it (class_descriptor p c) ≡ true
    it_is =
        let q = placed in
        ap (λ k. k == n && is_inside (class_ref p c.name) offset) class_token
        ∙ ap (λ b. b && is_inside (class_ref p c.name) offset) (like_number n)
        ∙ ap (λ r. is_inside r offset) q.ref
        ∙ like_number offset

    second : (a b : Bool) → (a && b) ≡ true → b ≡ true
    second true b e = e
    second false b e = absurd (cc)

    only : (y : Class) → Has y (class_order w) → is_it (class_descriptor p y) ≡ true → y ≡ c
    only y h e =
        let i = order_in list p.files sound y h in
        let a = placed in
        let b = has_info list p sound y i.0 i.1 in
        let in_it = second ((let d = class_descriptor p y in d.token) == n) (is_inside (class_ref p y.name) offset) e in
        let same = eqb-true b.offset offset (ap (λ r. is_inside r offset) (sym b.ref) ∙ in_it) in
        one_offset p c y a b same

    found : class_for (whole p) n offset ≡ Some (class_descriptor p c)
    found = found_only is_it (class_descriptor p) c (class_order w) (order_has list p.files sound c class_in refl) it_is
        only

    -- static fields

    fields_are : fields_of p.files c ≡ t.fields
    fields_are = ap fields_in is_class

    its_field_token : (i : ℕ) (f : FieldTree) → slice_get t.fields i ≡ Some f → is_open_static f ≡ true
        → member_token p (Some (member_at c i)) ≡ count_by is_open_static (take i t.fields)
    unfolding assigned
    its_field_token i f e bound =
        let z : 0 + i ≡ i = omega arith in
        let ex = is_exported w (has_applets p) c in
        let all = of_class w (has_applets p) n j t in
        let there : slice_get all.members i ≡ Some (field_token ex t.fields i f) =
        in_front (field_tokens ex t.fields 0 t.fields) (method_tokens w ex c) i (field_token ex t.fields i f)
        (field_row ex t.fields 0 t.fields i f e ∙ ap (λ m. Some (field_token ex t.fields m f)) z) in
        ap (λ o. unwrap_or (option_and_then (λ (k : OfClass). joined (slice_get k.members i)) o) 0xFF) row
        ∙ ap (λ o. unwrap_or (joined o) 0xFF) there
        ∙ ap (λ b. unwrap_or (field_token b t.fields i f) 0xFF) exported
        ∙ ap (λ o. unwrap_or o 0xFF) (open_field t.fields i f bound)

    field_there : (k : ℕ) (f : FieldTree) → slice_get (filter is_open_static (fields_of p.files c)) k ≡ Some f
        → has_field (class_descriptor p c) k (cell_offset p.image (field_id c.name f)) ≡ true
    field_there k f e =
        let r = kept_at is_open_static t.fields k f (ap (λ fs. slice_get (filter is_open_static fs) k) (sym fields_are)
        ∙ e) in
        let s = static_parts (is_static f.flags) (is_exposed f.flags) (is_constant f) r.2 in
        let z : 0 + r.0 ≡ r.0 = omega arith in
        let at = cell_offset p.image (field_id c.name f) in
        let d = field_descriptor p c r.0 f in
        let described : Has d (fields_from p c 0 (fields_of p.files c)) =
        subst (λ i. Has (field_descriptor p c i f) (fields_from p c 0 (fields_of p.files c))) z (described_field p c 0
        (fields_of p.files c) r.0 f (ap (λ fs. slice_get fs r.0) fields_are ∙ r.1) s.1) in
        let token_is = its_field_token r.0 f r.1 r.2 ∙ r.3 in
        let cell : is_cell_at d.place at ≡ true = ap (λ b. is_cell_at (if b then places.Static at
        else places.Instance (class_ref p c.name) (member_token p (Some (member_at c r.0)))) at) s.0
        ∙ like_number at in
        any_has (λ (x : FieldDescriptor). x.token == k && is_cell_at x.place at) d
        (fields_from p c 0 (fields_of p.files c)) described
        (ap (λ m. m == k && is_cell_at d.place at) token_is ∙ ap (λ b. b && is_cell_at d.place at) (like_number k)
        ∙ cell)

    -- static methods and constructors

    its_method_token : is_interface c.flags ≡ false → (i : ℕ) (m : Member) → slice_get c.methods i ≡ Some m
        → is_open_bound m ≡ true → member_token p (Some (member_at c (length c.fields + i))) ≡ count_by is_open_bound
        (take i c.methods)
    unfolding assigned
    its_method_token kind i m e bound =
        let z : 0 + i ≡ i = omega arith in
        let ex = is_exported w (has_applets p) c in
        let all = of_class w (has_applets p) n j t in
        let shown = shown_token (line_at w c) in
        let hidden = hidden_slots (line_at w c) in
        let fields = field_tokens ex t.fields 0 t.fields in
        let own = class_method_tokens ex shown hidden c.methods 0 c.methods in
        let long : length c.fields ≡ length fields = length-map t.fields field_of_class
        ∙ sym (fields_long ex t.fields 0 t.fields) in
        let tokens_are : method_tokens w ex c ≡ own ++ map (λ q. shown (signature_of q)) (added w c) =
        ap (λ b. if b then map (interface_token (interface_methods w c)) c.methods else own
        ++ map (λ q. shown (signature_of q)) (added w c)) kind in
        let there : slice_get all.members (length c.fields + i) ≡ Some (class_method_token ex shown hidden c.methods i
        m) =
        ap (λ q. slice_get (fields ++ method_tokens w ex c) (q + i)) long
        ∙ get_behind fields (method_tokens w ex c) i
        ∙ ap (λ ts. slice_get ts i) tokens_are
        ∙ in_front own (map (λ q. shown (signature_of q)) (added w c)) i (class_method_token ex shown hidden
        c.methods i m) (method_row ex shown hidden c.methods 0 c.methods i m e
        ∙ ap (λ q. Some (class_method_token ex shown hidden c.methods q m)) z) in
        ap (λ o. unwrap_or (option_and_then (λ (k : OfClass). joined (slice_get k.members (length c.fields + i))) o)
        0xFF) row
        ∙ ap (λ o. unwrap_or (joined o) 0xFF) there
        ∙ ap (λ b. unwrap_or (class_method_token b shown hidden c.methods i m) 0xFF) exported
        ∙ ap (λ o. unwrap_or o 0xFF) (open_method shown hidden c.methods i m bound)

    of_method : is_interface c.flags ≡ false → (k i : ℕ) (m : Member) → slice_get c.methods i ≡ Some m
        → is_open_bound m ≡ true → count_by is_open_bound (take i c.methods) ≡ k
        → (let f = member_at c (length c.fields + i) in (is_method_start (whole p) (method_offset p f)
        && has_method (class_descriptor p c) k (method_offset p f)) ≡ true)
    of_method kind k i m e bound count =
        let f = member_at c (length c.fields + i) in
        let s = bound_parts (is_exposed m.flags) (is_static m.flags) (is_constructor m.name) (is_initialiser m.name)
        bound in
        let there : Has f (methods_of_class w c) = has-front f (written c (length c.fields) c.methods) _
        (written_has c (length c.fields) c.methods i m e s.1) in
        let start = method_start p (own_names list p.files sound) methods c f (in_place list p sound c false class_in
        refl kind) there in
        let d = method_descriptor p c f in
        let back : length c.fields + i - length c.fields ≡ i = omega arith in
        let is : method_in w c (length c.fields + i) ≡ m =
        ap (λ q. unwrap_or (slice_get (methods_with_added w c) q) no_member) back
        ∙ ap (λ o. unwrap_or o no_member) (in_front c.methods (map as_added (added w c)) i m e) in
        let flags : (is_static d.flags || members.is_constructor d.flags) ≡ true = ap (λ q. is_static (method_flags q)
        || members.is_constructor (method_flags q)) is ∙ described_bound m s.0 in
        let token_is = its_method_token kind i m e bound ∙ count in
        let at = method_offset p f in
        let any = any_has (λ (x : MethodDescriptor). x.token == k
        && (is_static x.flags || members.is_constructor x.flags) && x.offset == at) d (map (method_descriptor p c)
        (methods_of_class w c)) (has-map (method_descriptor p c) f (methods_of_class w c) there)
        (ap (λ q. q == k && (is_static d.flags || members.is_constructor d.flags) && at == at) token_is
        ∙ ap (λ b. b && (is_static d.flags || members.is_constructor d.flags) && at == at) (like_number k)
        ∙ ap (λ b. b && at == at) flags
        ∙ like_number at) in
        ap (λ b. b && has_method (class_descriptor p c) k at) start ∙ any

    method_there : (k : ℕ) (f : Found) → slice_get (open_methods c (length c.fields) c.methods) k ≡ Some f
        → (is_method_start (whole p) (method_offset p f) && has_method (class_descriptor p c) k (method_offset p f))
        ≡ true
    method_there k f e =
        let r = open_at c (length c.fields) c.methods k f e in
        subst (λ g. (is_method_start (whole p) (method_offset p g) && has_method (class_descriptor p c) k
        (method_offset p g)) ≡ true) (sym r.5) (by (is_interface c.flags) refl r.0 r.1 r.2 r.3 r.4)
      where
        by : (b : Bool) → is_interface c.flags ≡ b → (i : ℕ) (m : Member) → slice_get c.methods i ≡ Some m
            → is_open_bound m ≡ true → count_by is_open_bound (take i c.methods) ≡ k
            → (let g = member_at c (length c.fields + i) in (is_method_start (whole p) (method_offset p g)
            && has_method (class_descriptor p c) k (method_offset p g)) ≡ true)
        by true kind i m h bound count = let no = unbound t.name c (own_name list p.files sound c class_in) refl kind i
            m h in absurd (cc)
        by false kind i m h bound count = of_method kind k i m h bound count

    -- all of it

    its_spots : (at : ℕ) → in_exported (whole p) at (exported_class p c) (Some (class_descriptor p c)) ≡ []
    its_spots at =
        let e = exported_class p c in
        let d = class_descriptor p c in
        none_in_both
        (none_in_both
        (passes (is_start (info p) (unwrap_or (class_offset p c.name) 0)) (in_info 10 at)
        (ap (λ o. is_start (info p) (unwrap_or o 0)) offset_is ∙ starts (is_interface c.flags) refl))
        (none_numbered (λ o. 2) (λ token at o. unless (has_field d token o) (in_info 10 at)) (λ f. cell_offset p.image
        (field_id c.name f)) 0 (at + 4) (filter is_open_static (fields_of p.files c))
        (λ k at f h. let z : 0 + k ≡ k = omega arith
        in passes _ (in_info 10 at) (ap (λ m. has_field d m (cell_offset p.image (field_id c.name f))) z
        ∙ field_there k f h))))
        (none_numbered (λ o. 2) (λ token at o. unless (is_method_start (whole p) o && has_method d token o)
        (in_info 10 at)) (method_offset p) 0 (at + 4 + 2 * length e.fields) (open_methods c (length c.fields)
        c.methods)
        (λ k at f h. let z : 0 + k ≡ k = omega arith
        in passes _ (in_info 10 at) (ap (λ m. is_method_start (whole p) (method_offset p f)
        && has_method d m (method_offset p f)) z ∙ method_there k f h)))

    class_spots : (at : ℕ) → in_exported (whole p) at (exported_class p c) (class_for (whole p) n
        (let e = exported_class p c in e.class_offset)) ≡ []
    class_spots at =
        ap (λ o. in_exported (whole p) at (exported_class p c) (class_for (whole p) n (unwrap_or o 0))) offset_is
        ∙ ap (in_exported (whole p) at (exported_class p c)) found
        ∙ its_spots at

  pub none : export_spots (whole p) ≡ []
  none =
      let broken = λ (token at : ℕ) (e : ExportedClass). in_exported (whole p) at e (class_for (whole p) token
      e.class_offset) in
      ap (numbered exported_size broken 0 1) (with_classes p (exported_classes p))
      ∙ none_numbered exported_size broken (exported_class p) 0 1 (exported_classes p)
      (λ k at d h.
      let r = exported_at p.files (has_applets p) k d sound.classes h in
      let z : 0 + k ≡ k = omega arith in
      ap (λ m. broken m at (exported_class p d)) z ∙ ap (λ q. broken k at (exported_class p q)) r.3
      ∙ class_spots k r.0 r.1 r.2 r.4 r.5 at)
