-- The instance fields of a class of the package, with their tokens, as its info and its names have them.
use Rattle.std.proofs.Common.{◌≡◌, ℕ, zero, suc, ◌+◌, refl, sym, ap, ◌∙◌, arith, Bool, true, false, List, [], ◌∷◌, ◌++◌}
use Rattle.std.specs.Prelude.{not, ◌&&◌, ◌||◌, count_by, take, map, nat_lt, position, Option, Some, None, slice_get}
use Rattle.std.specs.Prelude.{option_map, option_and_then, unwrap_or, if◌then◌else◌}
use Rattle.std.specs.Str.{bytes_eq}
use Rattle.std.proofs.lemmas.Option.{slice_get-map}
use Rattle.cjc_bytes.specs.AccessFlags.{is_static}
use Rattle.cjc_bytes.specs.declared.fault.MemberId.{MemberId}
use Rattle.cjc_bytes.proofs.Lists.{name_is}
use Rattle.cjc_bytes.proofs.Gets.{in_front}
use Rattle.cjc_world.specs.ClassFile.declared.tree.ClassTree.{ClassTree}
use Rattle.cjc_world.specs.ClassFile.declared.tree.FieldTree.{FieldTree}
use Rattle.cjc_card_semantics.specs.Machine.Loaded.{FieldName}
use Rattle.cjc_world_proof.specs.LowerClinit.Image.{field_id}
use Rattle.cjc_tokens.specs.Fields.{field_token, field_tokens, instance_token, is_instance, is_open_static}
use Rattle.cjc_tokens.specs.Tokens.{OfClass, assigned, joined, method_tokens, of_class}
use Rattle.cjc_tokens.specs.Tokens.{token_of_member}
use Rattle.cjc_tokens.proofs.Facts.{position-cons}
use Rattle.cjc_vtable.proofs.Filed.{Has}
use Rattle.cjc_world.specs.declared.found.Found.{Found}
use Rattle.cjc_world.specs.Classes.{Class, class_named, declared, field_of_class}
use Rattle.cjc_world.specs.Exported.{is_exported}
use Rattle.cjc_world.specs.Supertypes.{supertypes}
use Rattle.cjc_world.specs.Lookup.{field_in, find_field, is_called, member_at, or_else, own_field}
use Rattle.cjc_world.specs.Rules.{is_earlier, is_twice}
use Rattle.cjc_world.proofs.Settled.{supertypes-known}
use Rattle.cjc_world.proofs.Unbroken.{unbroken_is_acyclic}
use Rattle.cjc_ncode.specs.PoolOrder.{same_member}
use Rattle.cjc_jvm_semantics.specs.OnePackage.{instance_fields, member_of}
use Rattle.cjc_token_proof.specs.ByToken.Cells.{are_apart, is_one_of}
use Rattle.cjc_token_proof.specs.ByToken.Objects.{field_name}
use Rattle.cjc_token_proof.proofs.ByToken.Members.{member_tells}
use Rattle.cjc_components.specs.Package.{Package, has_applets, tokens, world}
use Rattle.cjc_components.specs.Names as components
use Rattle.cjc_components.specs.Paired.Naming.{fields_from}
use Rattle.cjc_components.specs.Paired.Naming as paired
use Rattle.cjc_token_proof.specs.Tables.Loading.{naming}
use Rattle.cjc_token_proof.specs.Tables.Sound.{IsSound}
use Rattle.cjc_token_proof.proofs.TablesLaws.Clean.{kept, own_name}
use Rattle.cjc_token_proof.proofs.TablesLaws.Filed.{own_in}
use Rattle.cjc_tokens.proofs.Means.{kept-at}

pub first_here : {A : Type 0} (p : A → Bool) (xs : List A) (k : ℕ) (x : A) → slice_get xs k ≡ Some x → p x ≡ true
    → is_earlier (position p xs) k ≡ false → position p xs ≡ Some k
first_here p [] k x e h once = cc
first_here p (y ∷ xs) zero x e h once = let same : y ≡ x = cc in position-cons p y xs ∙ ap (λ b. if b then Some 0
    else option_map suc (position p xs)) (ap p same ∙ h)
first_here p (y ∷ xs) (suc k) x e h once = position-cons p y xs
    ∙ by (p y) (position p xs) (ap (λ o. is_earlier o (suc k)) (sym (position-cons p y xs))
    ∙ once) (first_here p xs k x e h)
  where
    by : (b : Bool) (o : Option ℕ) → is_earlier (if b then Some 0 else option_map suc o) (suc k) ≡ false
        → (is_earlier o k ≡ false → o ≡ Some k) → (if b then Some 0 else option_map suc o) ≡ Some (suc k)
    by true o f rest = let lt : nat_lt 0 (suc k) ≡ true = grind arith in cc
    by false None f rest = let none = rest refl in cc
    by false (Some j) f rest = let e : nat_lt j k ≡ nat_lt (suc j) (suc k) = grind arith
        in ap (option_map suc) (rest (e ∙ f))

field_row : (exported : Bool) (fs : List FieldTree) (k : ℕ) (rest : List FieldTree) (i : ℕ) (f : FieldTree)
    → slice_get rest i ≡ Some f → slice_get (field_tokens exported fs k rest) i
    ≡ Some (field_token exported fs (k + i) f)
unfolding field_tokens
field_row exported fs k [] i f e = cc
field_row exported fs k (g ∷ rest) zero f e = let is : g ≡ f = cc in let z : k ≡ k + 0 = omega arith
    in ap (λ v. Some (field_token exported fs k v)) is ∙ ap (λ m. Some (field_token exported fs m f)) z
field_row exported fs k (g ∷ rest) (suc i) f e = let s : k + 1 + i ≡ k + suc i = omega arith
    in field_row exported fs (k + 1) rest i f e ∙ ap (λ m. Some (field_token exported fs m f)) s

instance_has : (exported : Bool) (fs : List FieldTree) (i : ℕ) (f : FieldTree) → is_instance f ≡ true
    → field_token exported fs i f ≡ Some (instance_token fs i f)
unfolding field_token
instance_has exported fs i f e = ap (λ b. if b then Some (instance_token fs i f) else (if exported && is_open_static f
    then Some (count_by is_open_static (take i fs)) else None)) e

-- an instance field among those of a class
pub own_among : (name : List ℕ) (fs : List FieldTree) (m : MemberId)
    → is_one_of m (instance_fields name (map field_of_class fs)) ≡ true → (k : ℕ) × (f : FieldTree)
    × (slice_get fs k ≡ Some f) × (is_instance f ≡ true) × (field_id name f ≡ m)
own_among name [] m e = cc
own_among name (f ∷ fs) m e = by (is_static f.flags) refl (same_there f) e (own_among name fs m)
  where
    same_there : (g : FieldTree) → same_member (field_id name g) m ≡ true → field_id name g ≡ m
    same_there g h = member_tells (field_id name g) m h

    go : (b : Bool) → same_member (field_id name f) m ≡ b → is_static f.flags ≡ false
        → (b || is_one_of m (instance_fields name (map field_of_class fs))) ≡ true
        → (is_one_of m (instance_fields name (map field_of_class fs)) ≡ true → (k : ℕ) × (g : FieldTree)
        × (slice_get fs k ≡ Some g) × (is_instance g ≡ true) × (field_id name g ≡ m)) → (k : ℕ) × (g : FieldTree)
        × (slice_get (f ∷ fs) k ≡ Some g) × (is_instance g ≡ true) × (field_id name g ≡ m)
    go true h s g rest = (0, f, refl, ap not s, same_there f h)
    go false h s g rest = let r = rest g in (suc r.0, r.1, r.2, r.3, r.4)

    by : (b : Bool) → is_static f.flags ≡ b → (same_member (field_id name f) m ≡ true → field_id name f ≡ m)
        → is_one_of m (if b then instance_fields name (map field_of_class fs) else member_of name (field_of_class f)
        ∷ instance_fields name (map field_of_class fs)) ≡ true
        → (is_one_of m (instance_fields name (map field_of_class fs)) ≡ true → (k : ℕ) × (g : FieldTree)
        × (slice_get fs k ≡ Some g) × (is_instance g ≡ true) × (field_id name g ≡ m)) → (k : ℕ) × (g : FieldTree)
        × (slice_get (f ∷ fs) k ≡ Some g) × (is_instance g ≡ true) × (field_id name g ≡ m)
    by true s t g rest = let r = rest g in (suc r.0, r.1, r.2, r.3, r.4)
    by false s t g rest = go (same_member (field_id name f) m) refl s g rest

module _ (list : List ℕ) (p : Package) (sound : IsSound list p.files) (n : ℕ) (t : ClassTree)
    (is_class : slice_get (let files = p.files in files.classes) n ≡ Some t) where
  abbrev w : List Class
  w = world p

  abbrev c : Class
  c = declared n t

  pub class_in : Has c w
  class_in = own_in p.files sound.classes sound.exports n t is_class

  pub named : class_named w t.name ≡ Some c
  named = own_name list p.files sound c class_in

  -- a field is found by its name and descriptor, where it stands
  pub field_found : (i : ℕ) (f : FieldTree) → slice_get t.fields i ≡ Some f → find_field w t.name f.name f.desc
      ≡ Some (member_at c i)
  unfolding find_field own_field is_twice
  field_found i f e =
      let there = slice_get-map field_of_class t.fields i ∙ ap (option_map field_of_class) e in
      let keeps = kept list p.files sound c class_in in
      let own : own_field f.name f.desc c ≡ Some (member_at c i) = ap (option_map (λ k. member_at c k))
      (first_here (λ m. is_called f.name f.desc m) c.fields i (field_of_class f) there (called f.name f.desc)
      (keeps.fields i (field_of_class f) there)) in
      let tree = supertypes-known w (unbroken_is_acyclic list p.files sound.unbroken) t.name c named in
      ap (field_in (own_field f.name f.desc)) tree
      ∙ ap (λ o. or_else (or_else o (or_else (field_in (own_field f.name f.desc) (supertypes w c.interfaces))
      (field_in (own_field f.name f.desc) (supertypes w c.supers)))) None) own
    where
      called : (name desc : List ℕ) → (bytes_eq name name && bytes_eq desc desc) ≡ true
      called name desc = ap (λ b. b && bytes_eq desc desc) (name_is name) ∙ name_is desc

  member_token : (i : ℕ) (f : FieldTree) → slice_get t.fields i ≡ Some f → is_instance f ≡ true
      → token_of_member (tokens p) (member_at c i) ≡ Some (instance_token t.fields i f)
  unfolding assigned
  member_token i f e h =
      let r = kept-at p.files (has_applets p) n t is_class in
      let zi : 0 + i ≡ i = omega arith in
      let row = of_class w (has_applets p) r.0 n t in
      let exported = is_exported w (has_applets p) (declared n t) in
      let there : slice_get row.members i ≡ Some (field_token exported t.fields i f) =
      in_front (field_tokens exported t.fields 0 t.fields) (method_tokens w exported (declared n t)) i
      (field_token exported t.fields i f) (field_row exported t.fields 0 t.fields i f e
      ∙ ap (λ m. Some (field_token exported t.fields m f)) zi) in
      ap (option_and_then (λ (k : OfClass). joined (slice_get k.members i))) r.1
      ∙ ap joined there
      ∙ instance_has exported t.fields i f h

  -- the token of an instance field
  pub token_is : (i : ℕ) (f : FieldTree) → slice_get t.fields i ≡ Some f → is_instance f ≡ true
      → components.field_token p (field_id t.name f) ≡ instance_token t.fields i f
  token_is i f e h = ap (λ o. unwrap_or (option_and_then (token_of_member (tokens p)) o) 0xFF) (field_found i f e)
      ∙ ap (λ o. unwrap_or o 0xFF) (member_token i f e h)

  -- the names of a class info are those of its fields, in their order
  names_from : (i : ℕ) (fs : List FieldTree) → ((k : ℕ) (f : FieldTree) → slice_get fs k ≡ Some f
      → slice_get t.fields (i + k) ≡ Some f)
      → fields_from (tokens p) c i fs ≡ map (field_name (naming p)) (instance_fields t.name (map field_of_class fs))
  names_from i [] h = refl
  names_from i (f ∷ fs) h =
      let rest = names_from (i + 1) fs (λ k g e. let s : i + 1 + k ≡ i + suc k = omega arith
      in ap (slice_get t.fields) s ∙ h (suc k) g e) in
      let z : i + 0 ≡ i = omega arith in
      by (is_static f.flags) (ap (slice_get t.fields) (sym z) ∙ h 0 f refl) rest
    where
      by : (b : Bool) → slice_get t.fields i ≡ Some f → fields_from (tokens p) c (i + 1) fs
          ≡ map (field_name (naming p)) (instance_fields t.name (map field_of_class fs))
          → (if not b then paired.field_name (tokens p) c i f ∷ [] else []) ++ fields_from (tokens p) c (i + 1) fs
          ≡ map (field_name (naming p)) (if b then instance_fields t.name (map field_of_class fs)
          else member_of t.name (field_of_class f) ∷ instance_fields t.name (map field_of_class fs))
      by true e rest = rest
      by false e rest =
          let head : paired.field_name (tokens p) c i f ≡ field_name (naming p) (member_of t.name (field_of_class f)) =
          ap (λ o. record {
            token = unwrap_or (option_and_then (token_of_member (tokens p)) o) 0xFF;
            name = f.name;
            desc = f.desc;
          }) (sym (field_found i f e)) in
          ap (λ r. paired.field_name (tokens p) c i f ∷ r) rest
          ∙ ap (λ (x : FieldName). x ∷ map (field_name (naming p)) (instance_fields t.name (map field_of_class fs)))
          head

  pub field_names : fields_from (tokens p) c 0 t.fields ≡ map (field_name (naming p)) (instance_fields t.name
      (map field_of_class t.fields))
  field_names = names_from 0 t.fields (λ k f e. let z : 0 + k ≡ k = omega arith in ap (slice_get t.fields) z ∙ e)

  -- no field stands twice
  apart_from : (i : ℕ) (fs : List FieldTree) → ((k : ℕ) (f : FieldTree) → slice_get fs k ≡ Some f
      → slice_get t.fields (i + k) ≡ Some f) → are_apart (instance_fields t.name (map field_of_class fs)) ≡ true
  apart_from i [] h = refl
  apart_from i (f ∷ fs) h =
      let next = λ (k : ℕ) (g : FieldTree) (e : slice_get fs k ≡ Some g). (let s : i + 1 + k ≡ i + suc k = omega arith
      in ap (slice_get t.fields) s ∙ h (suc k) g e) in
      by (is_static f.flags) (apart_from (i + 1) fs next)
    where
      clash : is_one_of (field_id t.name f) (instance_fields t.name (map field_of_class fs)) ≡ true → ⊥
      clash e =
          let r = own_among t.name fs (field_id t.name f) e in
          let z : i + 0 ≡ i = omega arith in
          let a = field_found i f (ap (slice_get t.fields) (sym z) ∙ h 0 f refl) in
          let b = field_found (i + suc r.0) r.1 (h (suc r.0) r.1 r.2) in
          let names = ap (λ (m : MemberId). m.name) r.4 in
          let descs = ap (λ (m : MemberId). m.desc) r.4 in
          let both : Some (member_at c (i + suc r.0)) ≡ Some (member_at c i) = sym b
          ∙ ap (λ x. find_field w t.name x (let g = r.1 in g.desc)) names ∙ ap (find_field w t.name f.name) descs
          ∙ a in
          let found : member_at c (i + suc r.0) ≡ member_at c i = cc in
          let places : i + suc r.0 ≡ i = ap (λ (v : Found). v.member) found in
          omega (arith, places)

      by : (b : Bool) → are_apart (instance_fields t.name (map field_of_class fs)) ≡ true
          → are_apart (if b then instance_fields t.name (map field_of_class fs) else member_of t.name (field_of_class f)
          ∷ instance_fields t.name (map field_of_class fs)) ≡ true
      by true rest = rest
      by false rest = go (is_one_of (field_id t.name f) (instance_fields t.name (map field_of_class fs))) refl
        where
          go : (q : Bool) → is_one_of (field_id t.name f) (instance_fields t.name (map field_of_class fs)) ≡ q
              → (not q && are_apart (instance_fields t.name (map field_of_class fs))) ≡ true
          go true e = absurd (clash e)
          go false e = rest

  pub fields_apart : are_apart (instance_fields t.name (map field_of_class t.fields)) ≡ true
  fields_apart = apart_from 0 t.fields (λ k f e. let z : 0 + k ≡ k = omega arith in ap (slice_get t.fields) z ∙ e)
