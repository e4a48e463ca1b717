-- The field that a statement puts into, by the look-ups of the machine by name.
use Rattle.std.proofs.Common.{◌≡◌, ◌∙◌, refl, sym, ap, subst, ℕ, suc, zero, List, [], ◌∷◌, length, map}
use Rattle.std.proofs.Common.{Bool, true, false, ⊎_elim, ◌⊎◌, inl, inr}
use Rattle.std.proofs.lemmas.Option.{slice_get-map}
use Rattle.std.specs.Prelude.{◌==◌, ◌&&◌, not, if◌then◌else◌, Option, Some, None, option_map, option_and_then}
use Rattle.std.specs.Prelude.{slice_get, is_some, ℤ}
use Rattle.std.specs.List.{position}
use Rattle.std.specs.Str.{bytes_eq}
use Rattle.cjc_bytes.specs.declared.fault.MemberId.{MemberId}
use Rattle.cjc_bytes.specs.AccessFlags.{is_static}
use Rattle.cjc_bytes.proofs.Options.{option_mapped}
use Rattle.cjc_bytes.proofs.Bools.{and_true, not_true}
use Rattle.cjc_bytes.proofs.Lists.{bytes_true}
use Rattle.cjc_bytes.proofs.Numbers.{number_same}
use Rattle.cjc_bytes.proofs.Gets.{position_there}
use Rattle.cjc_world.specs.ClassFile.declared.tree.ClassTree.{ClassTree}
use Rattle.cjc_world.specs.ClassFile.declared.tree.FieldTree.{FieldTree}
use Rattle.cjc_world.specs.ExportFile.Members.{may_be_constant}
use Rattle.cjc_world.specs.declared.found.Found.{Found}
use Rattle.cjc_world.specs.declared.image.StaticImage.{StaticImage}
use Rattle.cjc_world.specs.Files.{Files}
use Rattle.cjc_world.specs.Classes.{Class, Member, all_classes, class_at, class_named, declared, field_of_class}
use Rattle.cjc_world.specs.Supertypes.{Supertypes, supertypes_within, in_a_row, supertypes, known_as}
use Rattle.cjc_world.specs.Lookup.{field_in, find_field, is_called, member_at, or_else, own_field}
use Rattle.cjc_vtable.proofs.TokensSupers.{class_at-number}
use Rattle.cjc_vtable.proofs.Numbers.{named-number}
use Rattle.cjc_jvm_semantics.specs.Linked.{Static, Instance}
use Rattle.cjc_jvm_semantics.specs.OnePackage.{ResolvedMember, constant_at, constant_in, field_by, field_hit}
use Rattle.cjc_jvm_semantics.specs.ByName.{linked}
use Rattle.cjc_clinit.specs.declared.stage.Held.{Held}
use Rattle.cjc_clinit.specs.declared.stage.Held.TheVariants as held
use Rattle.cjc_clinit.specs.Fields.{is_cell}
use Rattle.cjc_clinit.specs.Image.{field_id, own_field as own_id}
use Rattle.cjc_clinit.specs.Initialiser.{is_open, only_if, open_in, open_place, own_place}

-- ---- look-up

either : (a b : Option Found) (f : Found) → or_else a b ≡ Some f → (a ≡ Some f) ⊎ (b ≡ Some f)
either None b f e = inr e
either (Some g) b f e = inl e

module _ (w : List Class) (own : Class → Option Found) where
  -- a class of these has it
  abbrev Named : Found → Type 0
  Named f = (x : List ℕ) × (d : Class) × (class_named w x ≡ Some d) × (own d ≡ Some f)

  in-row : (above : List (List ℕ) → Supertypes) → ((names : List (List ℕ)) (f : Found) → field_in own (above names)
      ≡ Some f → Named f) → (names : List (List ℕ)) (f : Found) → field_in own (in_a_row w above names) ≡ Some f
      → Named f
  in-row above rec [] f e = absurd (cc)
  in-row above rec (x ∷ xs) f e = by (class_named w x) refl e (in-row above rec xs f)
    where
      by : (o : Option Class) → class_named w x ≡ o → field_in own (known_as above x o (in_a_row w above xs)) ≡ Some f
          → (field_in own (in_a_row w above xs) ≡ Some f → Named f) → Named f
      by None is h next = next h
      by (Some c) is h next =
          ⊎_elim (λ p. ⊎_elim (λ q. (x, c, is, q)) (λ q. ⊎_elim (λ r. rec c.interfaces f r) (λ r. rec c.supers f r)
          (either (field_in own (above c.interfaces)) (field_in own (above c.supers)) f q))
          (either (own c) (or_else (field_in own (above c.interfaces)) (field_in own (above c.supers))) f p))
          (λ p. next p)
          (either (or_else (own c) (or_else (field_in own (above c.interfaces)) (field_in own (above c.supers))))
          (field_in own (in_a_row w above xs)) f h)

  in-supertypes_within : (n : ℕ) (names : List (List ℕ)) (f : Found) → field_in own (supertypes_within w n names)
      ≡ Some f → Named f
  unfolding supertypes_within
  in-supertypes_within zero names f e = absurd (cc)
  in-supertypes_within (suc n) names f e = in-row (supertypes_within w n) (in-supertypes_within n) names f e

found-named : (w : List Class) (class name desc : List ℕ) (f : Found) → find_field w class name desc ≡ Some f
    → Named w (own_field name desc) f
unfolding find_field supertypes
found-named w class name desc f e = in-supertypes_within w (own_field name desc) (suc (length w)) (class ∷ []) f e

-- ---- the member at a place

-- what an own place is of
owned : (number : ℕ) (o : Option Found) (k : ℕ) → own_place number o ≡ Some k → (f : Found) × (o ≡ Some f)
    × (f.imported ≡ false) × (f.class ≡ number) × (f.member ≡ k)
owned number None k e = absurd (cc)
owned number (Some f) k e = by (not f.imported && (f.class == number)) refl e
  where
    by : (b : Bool) → (not f.imported && (f.class == number)) ≡ b → (if b then Some f.member else None) ≡ Some k
        → (g : Found) × (Some f ≡ Some g) × (g.imported ≡ false) × (g.class ≡ number) × (g.member ≡ k)
    by true t h = let p = and_true (not f.imported) (f.class == number) t in let m : f.member ≡ k = cc
        in (f, refl, not_true f.imported p.0, number_same f.class number p.1, m)
    by false t h = absurd (cc)

opened : (c : ClassTree) (fields : List Held) (n k : ℕ) → open_in c fields n ≡ Some k → (n ≡ k) × (f : FieldTree)
    × (slice_get c.fields n ≡ Some f) × (slice_get fields n ≡ Some held.Nothing) × (is_cell f ≡ true)
opened c fields n k e = by (slice_get c.fields n) (slice_get fields n) refl refl e
  where
    go : (b : Bool) → only_if b n ≡ Some k → (n ≡ k) × (b ≡ true)
    go true h = ((let i : n ≡ k = cc in i), refl)
    go false h = absurd (cc)

    by : (o : Option FieldTree) (h : Option Held) → slice_get c.fields n ≡ o → slice_get fields n ≡ h
        → only_if (is_open o h) n ≡ Some k → (n ≡ k) × (f : FieldTree) × (slice_get c.fields n ≡ Some f)
        × (slice_get fields n ≡ Some held.Nothing) × (is_cell f ≡ true)
    by None h p q e = absurd (cc)
    by (Some f) None p q e = absurd (cc)
    by (Some f) (Some held.Nothing) p q e = let g = go (is_cell f) e in (g.0, f, p, q, g.1)
    by (Some f) (Some (held.Number z)) p q e = absurd (cc)
    by (Some f) (Some held.Null) p q e = absurd (cc)
    by (Some f) (Some held.Array) p q e = absurd (cc)

opened-after : (c : ClassTree) (fields : List Held) (o : Option ℕ) (k : ℕ) → option_and_then (open_in c fields) o
    ≡ Some k → (o ≡ Some k) × (f : FieldTree) × (slice_get c.fields k ≡ Some f)
    × (slice_get fields k ≡ Some held.Nothing) × (is_cell f ≡ true)
opened-after c fields None k e = absurd (cc)
opened-after c fields (Some n) k e = let g = opened c fields n k e in (
  ap (λ q. Some q) g.0,
  g.1,
  ap (λ q. slice_get c.fields q) (sym g.0) ∙ g.2,
  ap (λ q. slice_get fields q) (sym g.0) ∙ g.3,
  g.4,
)

-- ---- the field of a statement

-- what a place of a statement is: an open field of the class, which the machine finds as its static field
pub record IsField (files : Files) (image : StaticImage) (number : ℕ) (c : ClassTree) (fields : List Held)
    (id : MemberId) (k : ℕ) : Type 0 where
  pub field : FieldTree
  pub there : slice_get c.fields k ≡ Some field
  pub unput : slice_get fields k ≡ Some held.Nothing
  pub is_cell : is_cell field ≡ true
  pub desc : field.desc ≡ id.desc
  pub named : field_id c.name field ≡ own_id c id
  pub found : (let l = linked files image in l.field c.name id) ≡ Some (Static (own_id c id))

abbrev id_of : (class name desc : List ℕ) → MemberId
id_of class name desc = record { class = class; name = name; desc = desc }

abbrev hit_of : Class → Member → ResolvedMember
hit_of c f = record { owner = c; flags = f.flags }

static-by : (b : Bool) (id : MemberId) → b ≡ true → (if b then Static id else Instance id) ≡ Static id
static-by true id e = refl
static-by false id e = absurd (cc)

no-constant : (b : Bool) (o : Option ℤ) → not (b && is_some o) ≡ true → (if b then o else None) ≡ None
no-constant true None e = refl
no-constant true (Some z) e = absurd (cc)
no-constant false o e = refl

pub place-field : (files : Files) (image : StaticImage) (number : ℕ) (c : ClassTree) (fields : List Held)
    (id : MemberId) (k : ℕ) → slice_get files.classes number ≡ Some c → open_place files number c fields id ≡ Some k
    → IsField files image number c fields id k
unfolding open_place linked own_field
place-field files image number c fields id k at e =
    let w = all_classes files in
    let o = find_field w id.class id.name id.desc in
    let a = opened-after c fields (own_place number o) k e in
    let b = owned number o k a.0 in
    let n = found-named w id.class id.name id.desc b.0 b.1 in
    let d = n.1 in
    let p = option_mapped (λ i. member_at d i) (position (λ f. is_called id.name id.desc f) d.fields) b.0 n.3 in
    let im : d.is_imported ≡ false = ap (λ (q : Found). q.imported) p.2 ∙ b.2 in
    let num : d.number ≡ number = ap (λ (q : Found). q.class) p.2 ∙ b.3 in
    let place : p.0 ≡ k = ap (λ (q : Found). q.member) p.2 ∙ b.4 in
    let t = class_at-number files n.0 d n.2 im in
    let some : Some t.0 ≡ Some c = sym t.1 ∙ ap (slice_get files.classes) num ∙ at in
    let same : t.0 ≡ c = cc in
    let is : d ≡ declared number c = t.2 ∙ ap (λ q. declared q t.0) num ∙ ap (declared number) same in
    let m = position_there (λ f. is_called id.name id.desc f) d.fields p.0 p.1 in
    let row : slice_get (map field_of_class c.fields) k ≡ Some (field_of_class a.1) =
    slice_get-map field_of_class c.fields k ∙ ap (option_map field_of_class) a.2 in
    let told : Some m.0 ≡ Some (field_of_class a.1) = sym m.1 ∙ ap (slice_get d.fields) place
    ∙ ap (λ (q : Class). slice_get q.fields k) is ∙ row in
    let member : m.0 ≡ field_of_class a.1 = cc in
    let called = and_true (bytes_eq (let f = a.1 in f.name) id.name) (bytes_eq (let f = a.1 in f.desc) id.desc)
    (ap (is_called id.name id.desc) (sym member) ∙ m.2) in
    let name = bytes_true (let f = a.1 in f.name) id.name called.0 in
    let desc = bytes_true (let f = a.1 in f.desc) id.desc called.1 in
    let cell = and_true (let f = a.1 in is_static f.flags) (let f = a.1 in not (may_be_constant f.flags f.desc
    && is_some f.constant)) a.4 in
    let found : b.0 ≡ member_at (declared number c) k = sym p.2 ∙ ap (λ q. member_at q p.0) is
    ∙ ap (member_at (declared number c)) place in
    let class : class_at w false number ≡ Some (declared number c) =
    subst (λ (q : Class). class_at w q.is_imported q.number ≡ Some q) is (named-number files n.0 d n.2) in
    let hit : field_hit w (member_at (declared number c) k) ≡ Some (record {
      owner = declared number c;
      flags = (let f = a.1 in f.flags);
    }) =
    ap (option_and_then (λ (q : Class). option_map (hit_of q) (slice_get q.fields k))) class
    ∙ ap (option_map (hit_of (declared number c))) row in
    let value : constant_at files (member_at (declared number c) k) ≡ None =
    ap (option_and_then (constant_in k)) at ∙ ap (option_and_then (λ (f : FieldTree). if may_be_constant f.flags f.desc
    then f.constant else None)) a.2
    ∙ no-constant (let f = a.1 in may_be_constant f.flags f.desc) (let f = a.1 in f.constant) cell.1 in
    record {
      field = a.1;
      there = a.2;
      unput = a.3;
      is_cell = a.4;
      desc = desc;
      named = ap (λ q. id_of c.name q (let f = a.1 in f.desc)) name ∙ ap (id_of c.name id.name) desc;
      found = ap (option_and_then (λ (f : Found). option_map (field_by (constant_at files f) id) (field_hit w f))) (b.1
          ∙ ap (λ q. Some q) found)
          ∙ ap (λ v. option_map (field_by v id) (field_hit w (member_at (declared number c) k))) value
          ∙ ap (option_map (field_by None id)) hit
          ∙ ap (λ q. Some q) (static-by (let f = a.1 in is_static f.flags) (own_id c id) cell.0);
    }
