-- What a look-up of a field finds, and the field into which an initialiser puts.
use Rattle.std.proofs.Common.{◌≡◌, ℕ, refl, sym, ap, ◌∙◌, Bool, true, false, List, [], ◌∷◌, inl, inr}
use Rattle.std.specs.Prelude.{not, ◌&&◌, ◌==◌, ◌⊎◌, map, position, Option, Some, None, slice_get, option_map, option_and_then, if◌then◌else◌}
use Rattle.std.specs.Str.{bytes_eq}
use Rattle.std.proofs.lemmas.Bool.{eqb-true}
use Rattle.std.proofs.lemmas.Option.{slice_get-map}
use Rattle.cjc_bytes.specs.declared.fault.MemberId.{MemberId}
use Rattle.cjc_classfile.specs.declared.tree.ClassTree.{ClassTree}
use Rattle.cjc_classfile.specs.declared.tree.FieldTree.{FieldTree}
use Rattle.cjc_clinit.specs.declared.stage.Held.{Held}
use Rattle.cjc_clinit.specs.declared.stage.Held.TheVariants as held
use Rattle.cjc_clinit.specs.Fields.{is_cell}
use Rattle.cjc_clinit.specs.Image.{field_id}
use Rattle.cjc_clinit.specs.Image as image
use Rattle.cjc_clinit.specs.Initialiser.{is_open, only_if, open_in, open_place, own_place}
use Rattle.cjc_vtable.proofs.SlotNames.{position-at}
use Rattle.cjc_world.specs.declared.found.Found.{Found}
use Rattle.cjc_world.specs.Classes.{Class, Member, all_classes, class_named, declared, field_of_class}
use Rattle.cjc_world.specs.Files.{Files}
use Rattle.cjc_world.specs.Kin.{IsKin, ends, unknown_here, known_here, Kin, kin}
use Rattle.cjc_world.specs.Lookup.{field_in, find_field, is_called, member_at, or_else, own_field}
use Rattle.cjc_world.proofs.Settled.{bytes-true, kin-IsKin}
use Rattle.cjc_world.proofs.Unbroken.{unbroken_is_acyclic}
use Rattle.cjc_tables_by_token.specs.Sound.{IsSound}
use Rattle.cjc_tables_by_token.proofs.Clean.{has_named}
use Rattle.cjc_tables_by_token.proofs.Filed.{own_filed}

first_some : (a b : Option Found) (f : Found) → or_else a b ≡ Some f → (a ≡ Some f) ⊎ (b ≡ Some f)
first_some None b f e = inr e
first_some (Some g) b f e = inl e

-- the class that has the field, and its place there
pub record IsFoundIn (w : List Class) (name desc : List ℕ) (f : Found) : Type 0 where
  pub by_name : List ℕ
  pub class : Class
  pub there : class_named w by_name ≡ Some class
  pub own : own_field name desc class ≡ Some f

found_in : (w : List Class) (name desc : List ℕ) (xs : List (List ℕ)) (k : Kin) → IsKin w xs k → (f : Found) → field_in (own_field name desc) k ≡ Some f → IsFoundIn w name desc f
found_in w name desc xs k ends f e = cc
found_in w name desc (x ∷ xs) k (unknown_here {next = next} m rest) f e = found_in w name desc xs next rest f e
found_in w name desc (x ∷ xs) k (known_here {c = c} {supers = supers} {interfaces = interfaces} {next = next} m s i rest) f e =
    by (first_some (or_else (own_field name desc c) (or_else (field_in (own_field name desc) interfaces) (field_in (own_field name desc) supers))) (field_in (own_field name desc) next) f e)
    (λ h. found_in w name desc c.interfaces interfaces i f h) (λ h. found_in w name desc c.supers supers s f h) (λ h. found_in w name desc xs next rest f h)
  where
    Found' : Type 0
    Found' = IsFoundIn w name desc f

    above : (field_in (own_field name desc) interfaces ≡ Some f) ⊎ (field_in (own_field name desc) supers ≡ Some f) → (field_in (own_field name desc) interfaces ≡ Some f → Found') → (field_in (own_field name desc) supers ≡ Some f → Found') → Found'
    above (inl h) p q = p h
    above (inr h) p q = q h

    here : (own_field name desc c ≡ Some f) ⊎ (or_else (field_in (own_field name desc) interfaces) (field_in (own_field name desc) supers) ≡ Some f) → (field_in (own_field name desc) interfaces ≡ Some f → Found') → (field_in (own_field name desc) supers ≡ Some f → Found') → Found'
    here (inl h) p q = record { by_name = x; class = c; there = m; own = h }
    here (inr h) p q = above (first_some (field_in (own_field name desc) interfaces) (field_in (own_field name desc) supers) f h) p q

    by : (or_else (own_field name desc c) (or_else (field_in (own_field name desc) interfaces) (field_in (own_field name desc) supers)) ≡ Some f) ⊎ (field_in (own_field name desc) next ≡ Some f)
        → (field_in (own_field name desc) interfaces ≡ Some f → Found') → (field_in (own_field name desc) supers ≡ Some f → Found') → (field_in (own_field name desc) next ≡ Some f → Found') → Found'
    by (inl h) p q r = here (first_some (own_field name desc c) (or_else (field_in (own_field name desc) interfaces) (field_in (own_field name desc) supers)) f h) p q
    by (inr h) p q r = r h

both : (a b : Bool) → (a && b) ≡ true → (a ≡ true) × (b ≡ true)
both true true e = (refl, refl)
both true false e = cc
both false b e = cc

owned : (n : ℕ) (o : Option Found) (k : ℕ) → own_place n o ≡ Some k → (f : Found) × (o ≡ Some f) × (f.imported ≡ false) × (f.class ≡ n) × (f.member ≡ k)
owned n None k e = cc
owned n (Some f) k e = by (not f.imported && (f.class == n)) refl e
  where
    not_so : (a : Bool) → not a ≡ true → a ≡ false
    not_so true h = cc
    not_so false h = refl

    by : (b : Bool) → (not f.imported && (f.class == n)) ≡ b → (if b then Some f.member else None) ≡ Some k → (g : Found) × (Some f ≡ Some g) × (g.imported ≡ false) × (g.class ≡ n) × (g.member ≡ k)
    by true t h = let p = both (not f.imported) (f.class == n) t in let m : f.member ≡ k = cc in (f, refl, not_so f.imported p.0, eqb-true f.class n p.1, m)
    by false t h = cc

opened : (c : ClassTree) (fields : List Held) (n k : ℕ) → open_in c fields n ≡ Some k → (n ≡ k) × (f : FieldTree) × (slice_get c.fields n ≡ Some f) × (slice_get fields n ≡ Some held.Nothing) × (is_cell f ≡ true)
opened c fields n k e = by (slice_get c.fields n) (slice_get fields n) refl refl e
  where
    go : (b : Bool) → only_if b n ≡ Some k → (n ≡ k) × (b ≡ true)
    go true h = ((let i : n ≡ k = cc in i), refl)
    go false h = absurd (cc)

    by : (o : Option FieldTree) (h : Option Held) → slice_get c.fields n ≡ o → slice_get fields n ≡ h → only_if (is_open o h) n ≡ Some k → (n ≡ k) × (f : FieldTree) × (slice_get c.fields n ≡ Some f) × (slice_get fields n ≡ Some held.Nothing) × (is_cell f ≡ true)
    by None h p q e = absurd (cc)
    by (Some f) None p q e = absurd (cc)
    by (Some f) (Some held.Nothing) p q e = let g = go (is_cell f) e in (g.0, f, p, q, g.1)
    by (Some f) (Some (held.Number z)) p q e = absurd (cc)
    by (Some f) (Some held.Null) p q e = absurd (cc)
    by (Some f) (Some held.Array) p q e = absurd (cc)

abbrev id_of : (class name desc : List ℕ) → MemberId
id_of class name desc = record { class = class; name = name; desc = desc }

one_id : (class name other desc more : List ℕ) → name ≡ other → desc ≡ more → id_of class name desc ≡ id_of class other more
one_id class name other desc more e f = ap (λ x. id_of class x desc) e ∙ ap (id_of class other) f

-- An open field of a class: the one that the statement names.
pub record IsOpen (c : ClassTree) (fields : List Held) (id : MemberId) (k : ℕ) : Type 0 where
  pub field : FieldTree
  pub there : slice_get c.fields k ≡ Some field
  pub unput : slice_get fields k ≡ Some held.Nothing
  pub has_cell : is_cell field ≡ true
  pub desc : field.desc ≡ id.desc
  pub named : image.own_field c id ≡ field_id c.name field

module _ (list : List ℕ) (files : Files) (sound : IsSound list files) where
  abbrev w : List Class
  w = all_classes files

  -- the field at the place that is found has the name and the descriptor
  named_there : (t : ClassTree) (fields : List Held) (id : MemberId) (k : ℕ) (g : FieldTree) → slice_get t.fields k ≡ Some g → slice_get fields k ≡ Some held.Nothing → is_cell g ≡ true
      → (m : Member) → slice_get (map field_of_class t.fields) k ≡ Some m → is_called id.name id.desc m ≡ true → IsOpen t fields id k
  named_there t fields id k g there unput has_cell m row called =
      let mapped : slice_get (map field_of_class t.fields) k ≡ Some (field_of_class g) = slice_get-map field_of_class t.fields k ∙ ap (option_map field_of_class) there in
      let told : Some m ≡ Some (field_of_class g) = sym row ∙ mapped in
      let member : m ≡ field_of_class g = cc in
      let names = both (bytes_eq g.name id.name) (bytes_eq g.desc id.desc) (ap (is_called id.name id.desc) (sym member) ∙ called) in
      let name = bytes-true g.name id.name names.0 in
      let desc = bytes-true g.desc id.desc names.1 in
      record {
        field = g;
        there = there;
        unput = unput;
        has_cell = has_cell;
        desc = desc;
        named = one_id t.name id.name g.name id.desc g.desc (sym name) (sym desc);
      }

  -- the class that is found is the one of the number
  class_there : (n : ℕ) (t : ClassTree) → slice_get files.classes n ≡ Some t → (c : Class) (j : ℕ) (u : ClassTree) → slice_get files.classes j ≡ Some u → c ≡ declared j u → c.number ≡ n → c.fields ≡ map field_of_class t.fields
  class_there n t is_class c j u is_tree is number =
      let same : j ≡ n = ap (λ (v : Class). v.number) (sym is) ∙ number in
      let trees : Some u ≡ Some t = sym is_tree ∙ (ap (slice_get files.classes) same ∙ is_class) in
      let tree : u ≡ t = cc in
      ap (λ (v : Class). v.fields) is ∙ ap (λ (v : ClassTree). map field_of_class v.fields) tree

  pub open_field : (n : ℕ) (t : ClassTree) (fields : List Held) (id : MemberId) (k : ℕ) → slice_get files.classes n ≡ Some t → open_place files n t fields id ≡ Some k → IsOpen t fields id k
  unfolding open_place find_field own_field
  open_field n t fields id k is_class e =
      let a = after_place (own_place n (find_field w id.class id.name id.desc)) e in
      let b = owned n (find_field w id.class id.name id.desc) k a.0 in
      let r = found_in w id.name id.desc (id.class ∷ []) (kin w (id.class ∷ [])) (kin-IsKin w (unbroken_is_acyclic list files sound.unbroken) (id.class ∷ [])) b.0 b.1 in
      at_class a.1 a.2 a.3 a.4 b.0 b.2 b.3 b.4 r.by_name r.class r.there r.own
    where
      after_place : (o : Option ℕ) → option_and_then (open_in t fields) o ≡ Some k → (o ≡ Some k) × (f : FieldTree) × (slice_get t.fields k ≡ Some f) × (slice_get fields k ≡ Some held.Nothing) × (is_cell f ≡ true)
      after_place None e = absurd (cc)
      after_place (Some j) e = let g = opened t fields j k e in (ap (λ q. Some q) g.0, g.1, ap (λ q. slice_get t.fields q) (sym g.0) ∙ g.2, ap (λ q. slice_get fields q) (sym g.0) ∙ g.3, g.4)

      placed : (c : Class) (f : Found) (o : Option ℕ) → position (λ f. is_called id.name id.desc f) c.fields ≡ o → option_map (λ i. member_at c i) o ≡ Some f → (i : ℕ) × (position (λ f. is_called id.name id.desc f) c.fields ≡ Some i) × (member_at c i ≡ f)
      placed c f None p e = absurd (cc)
      placed c f (Some i) p e = (i, p, (let is : member_at c i ≡ f = cc in is))

      at_place : (g : FieldTree) → slice_get t.fields k ≡ Some g → slice_get fields k ≡ Some held.Nothing → is_cell g ≡ true → (f : Found) → f.imported ≡ false → f.class ≡ n → f.member ≡ k → (x : List ℕ) (c : Class) → class_named w x ≡ Some c
          → (i : ℕ) → position (λ f. is_called id.name id.desc f) c.fields ≡ Some i → member_at c i ≡ f → IsOpen t fields id k
      at_place g there unput has_cell f im class member x c h i at is =
          let own_c : c.is_imported ≡ false = ap (λ (v : Found). v.imported) is ∙ im in
          let m = own_filed files sound.classes sound.exports c (has_named w x c h) own_c in
          let same = class_there n t is_class c m.0 m.1 m.2 m.3 (ap (λ (v : Found). v.class) is ∙ class) in
          let place : i ≡ k = ap (λ (v : Found). v.member) is ∙ member in
          let q = position-at (λ f. is_called id.name id.desc f) c.fields i at in
          named_there t fields id k g there unput has_cell q.0 (sym (ap (λ fs. slice_get fs k) same) ∙ (ap (slice_get c.fields) (sym place) ∙ q.1)) q.2

      at_class : (g : FieldTree) → slice_get t.fields k ≡ Some g → slice_get fields k ≡ Some held.Nothing → is_cell g ≡ true → (f : Found) → f.imported ≡ false → f.class ≡ n → f.member ≡ k → (x : List ℕ) (c : Class) → class_named w x ≡ Some c → own_field id.name id.desc c ≡ Some f → IsOpen t fields id k
      at_class g there unput has_cell f im class member x c h own = let q = placed c f (position (λ f. is_called id.name id.desc f) c.fields) refl own in at_place g there unput has_cell f im class member x c h q.0 q.1 q.2
