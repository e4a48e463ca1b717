-- What static fields hold after initialisers, and which arrays are made: one for each field that holds one.
use Rattle.std.proofs.Common.{◌≡◌, ℕ, refl, sym, ap, subst, ◌∙◌, Bool, true, false, List, [], ◌∷◌}
use Rattle.std.proofs.Common.{◌++◌, inl, inr, ⊎_elim}
use Rattle.std.specs.Prelude.{not, ◌&&◌, ◌||◌, ◌==◌, ◌⊎◌, codes, map, Some, None, slice_get, slice_set}
use Rattle.std.specs.Prelude.{if◌then◌else◌, ℤ}
use Rattle.std.specs.Str.{bytes_eq}
use Rattle.std.proofs.lemmas.List.Folds.{list_any-append}
use Rattle.cjc_bytes.specs.declared.fault.MemberId.{MemberId}
use Rattle.cjc_bytes.specs.declared.descriptor.Kind.{Kind}
use Rattle.cjc_bytes.proofs.Lists.{bytes_true}
use Rattle.cjc_bytes.proofs.Numbers.{same_place}
use Rattle.cjc_bytes.proofs.Options.{option_taken}
use Rattle.cjc_bytes.proofs.Gets.{set_same, set_other}
use Rattle.cjc_bytes.specs.declared.descriptor.Kind.TheVariants as kinds
use Rattle.cjc_world.specs.ClassFile.declared.tree.ClassTree.{ClassTree}
use Rattle.cjc_world.specs.ClassFile.declared.tree.FieldTree.{FieldTree}
use Rattle.cjc_world_proof.specs.Bytecode.declared.insn.JOp.{JOp}
use Rattle.cjc_world.specs.declared.found.Found.{Found}
use Rattle.cjc_world.specs.declared.image.ArrayCell.{ArrayCell}
use Rattle.cjc_world.specs.declared.image.StaticImage.{StaticImage}
use Rattle.cjc_world.specs.Classes.{Class, class_named, declared}
use Rattle.cjc_world.specs.Files.{Files}
use Rattle.cjc_world.specs.Lookup.{find_field, member_at}
use Rattle.cjc_world_proof.specs.LowerClinit.declared.stage.Held.{Held}
use Rattle.cjc_world_proof.specs.LowerClinit.declared.stage.Held.TheVariants as held
use Rattle.cjc_world_proof.specs.LowerClinit.Fields.{Contents, ANumber, ANull, AnArray, array_desc, fits_kind, held_by}
use Rattle.cjc_world_proof.specs.LowerClinit.Fields.{is_cell}
use Rattle.cjc_world_proof.specs.LowerClinit.Fields.{is_reference, number_kind, takes}
use Rattle.cjc_world_proof.specs.LowerClinit.Image.{array_in, arrays_of, field_id, own_field}
use Rattle.cjc_world_proof.specs.LowerClinit.Initialiser.{Initialises, Makes, of_number, of_null, of_array, Put}
use Rattle.cjc_world_proof.specs.LowerClinit.Initialiser.{element_kind}
use Rattle.cjc_world_proof.specs.LowerClinit.Initialiser.{open_place}
use Rattle.cjc_world_proof.specs.LowerClinit.Initialiser.Initialises.{ends, puts}
use Rattle.cjc_world_proof.proofs.InitialisersLaws.Places.{IsField, place-field}
use Rattle.cjc_ncode.specs.PoolOrder.{same_member}
use Rattle.cjc_token_proof.specs.ByToken.Cells.{are_apart, is_one_of}
use Rattle.cjc_token_proof.proofs.ByToken.Members.{member_tells, front_one, behind_one}
use Rattle.cjc_components.specs.Package.{Package, world}
use Rattle.cjc_token_proof.specs.Tables.Sound.{IsSound}
use Rattle.cjc_token_proof.proofs.TablesLaws.Fields.{field_found, named}

-- ---- lists

one_or : (m : MemberId) (g : MemberId) (fs : List MemberId) → is_one_of m (g ∷ fs) ≡ true → (g ≡ m)
    ⊎ (is_one_of m fs ≡ true)
one_or m g fs e = by (same_member g m) refl e
  where
    by : (b : Bool) → same_member g m ≡ b → (b || is_one_of m fs) ≡ true → (g ≡ m) ⊎ (is_one_of m fs ≡ true)
    by true t h = inl (member_tells g m t)
    by false t h = inr h

pub one_front : (m : MemberId) (xs ys : List MemberId) → is_one_of m xs ≡ true → is_one_of m (xs ++ ys) ≡ true
one_front m xs ys e = list_any-append (λ g. same_member g m) xs ys ∙ ap (λ b. b || is_one_of m ys) e

pub one_back : (m : MemberId) (xs ys : List MemberId) → is_one_of m ys ≡ true → is_one_of m (xs ++ ys) ≡ true
one_back m xs ys e = list_any-append (λ g. same_member g m) xs ys ∙ ap (λ b. is_one_of m xs || b) e
    ∙ by (is_one_of m xs)
  where
    by : (b : Bool) → (b || true) ≡ true
    by true = refl
    by false = refl

pub one_either : (m : MemberId) (xs ys : List MemberId) → is_one_of m (xs ++ ys) ≡ true → (is_one_of m xs ≡ true)
    ⊎ (is_one_of m ys ≡ true)
one_either m xs ys e = by (is_one_of m xs) (is_one_of m ys) (sym (list_any-append (λ g. same_member g m) xs ys) ∙ e)
  where
    by : (q r : Bool) → (q || r) ≡ true → (q ≡ true) ⊎ (r ≡ true)
    by true r u = inl refl
    by false r u = inr u

apart_cons : (m : MemberId) (fs : List MemberId) → (is_one_of m fs ≡ true → ⊥) → are_apart fs ≡ true
    → are_apart (m ∷ fs) ≡ true
apart_cons m fs never rest = by (is_one_of m fs) refl
  where
    by : (b : Bool) → is_one_of m fs ≡ b → (not b && are_apart fs) ≡ true
    by true e = absurd (never e)
    by false e = rest

pub apart_append : (xs ys : List MemberId) → are_apart xs ≡ true → are_apart ys ≡ true
    → ((m : MemberId) → is_one_of m xs ≡ true → is_one_of m ys ≡ true → ⊥) → are_apart (xs ++ ys) ≡ true
apart_append [] ys a b h = b
apart_append (x ∷ xs) ys a b h =
    let parts = split (is_one_of x xs) (are_apart xs) a in
    apart_cons x (xs ++ ys) (λ e. ⊎_elim (λ f. (let never : true ≡ false = sym f ∙ parts.0 in cc))
    (λ f. h x (front_one x xs) f) (one_either x xs ys e)) (apart_append xs ys parts.1 b
    (λ m e f. h m (behind_one m x xs e) f))
  where
    split : (q r : Bool) → (not q && r) ≡ true → (q ≡ false) × (r ≡ true)
    split false true e = (refl, refl)
    split false false e = cc
    split true r e = cc

-- ---- what a field of a type may hold

unfoldable pub Right : List ℕ → Held → Type 0
Right desc held.Nothing = Unit {0}
Right desc (held.Number z) = is_reference desc ≡ false
Right desc held.Null = is_reference desc ≡ true
Right desc held.Array = is_reference desc ≡ true

number_is : (desc : List ℕ) (z : ℤ) → fits_kind (number_kind desc) z ≡ true → is_reference desc ≡ false
number_is desc z e =
    by (bytes_eq desc (codes "Z")) (bytes_eq desc (codes "B")) (bytes_eq desc (codes "S")) (bytes_eq desc (codes "I"))
    (bytes_true desc (codes "Z")) (bytes_true desc (codes "B")) (bytes_true desc (codes "S"))
    (bytes_true desc (codes "I")) e
  where
    by : (a b c d : Bool) → (a ≡ true → desc ≡ codes "Z") → (b ≡ true → desc ≡ codes "B")
        → (c ≡ true → desc ≡ codes "S") → (d ≡ true → desc ≡ codes "I")
        → fits_kind (if a then Some kinds.Bool else if b then Some kinds.Byte else if c then Some kinds.Short else if d
        then Some kinds.Int else None) z ≡ true → is_reference desc ≡ false
    by true b c d p q r s f = ap is_reference (p refl)
    by false true c d p q r s f = ap is_reference (q refl)
    by false false true d p q r s f = ap is_reference (r refl)
    by false false false true p q r s f = ap is_reference (s refl)
    by false false false false p q r s f = cc

array_is : (number : ℕ) (kind : Kind) → element_kind number ≡ Some kind → is_reference (array_desc kind) ≡ true
array_is number kind e = by (number == 4) (number == 8) (number == 9) (number == 10) e
  where
    at : (k : Kind) → Some k ≡ Some kind → is_reference (array_desc k) ≡ true → is_reference (array_desc kind) ≡ true
    at k f g = let is : k ≡ kind = cc in ap (λ q. is_reference (array_desc q)) (sym is) ∙ g

    by : (a b c d : Bool) → (if a then Some kinds.Bool else if b then Some kinds.Byte else if c then Some kinds.Short
        else if d then Some kinds.Int else None) ≡ Some kind → is_reference (array_desc kind) ≡ true
    by true b c d f = at kinds.Bool f refl
    by false true c d f = at kinds.Byte f refl
    by false false true d f = at kinds.Short f refl
    by false false false true f = at kinds.Int f refl
    by false false false false f = cc

right_put : (made : List JOp) (contents : Contents) (desc : List ℕ) → Makes made contents → takes contents desc ≡ true
    → Right desc (held_by contents)
unfolding Right
right_put made contents desc (of_number {z = z}) e = number_is desc z e
right_put made contents desc of_null e = e
right_put made contents desc (of_array {number = number} {kind = kind} le is stores) e =
    ap is_reference (bytes_true desc (array_desc kind) e) ∙ array_is number kind is

something_put : (contents : Contents) → held_by contents ≡ held.Nothing → ⊥
something_put (ANumber z) e = cc
something_put ANull e = cc
something_put (AnArray kind items) e = cc

-- ---- one initialiser

pub record Puts (t : ClassTree) (before after : List Held) (made : List MemberId) : Type 0 where
  pub apart : are_apart made ≡ true
  pub of : (m : MemberId) → is_one_of m made ≡ true → (k : ℕ) × (g : FieldTree) × (slice_get t.fields k ≡ Some g)
      × (is_cell g ≡ true) × (field_id t.name g ≡ m) × (slice_get before k ≡ Some held.Nothing)
      × (slice_get after k ≡ Some held.Array)
  pub kept : (k : ℕ) (h : Held) → slice_get before k ≡ Some h → (h ≡ held.Nothing → ⊥) → slice_get after k ≡ Some h
  pub new : (k : ℕ) (g : FieldTree) → slice_get t.fields k ≡ Some g → slice_get after k ≡ Some held.Array
      → (slice_get before k ≡ Some held.Array) ⊎ (is_one_of (field_id t.name g) made ≡ true)
  pub right : ((k : ℕ) (g : FieldTree) (h : Held) → slice_get t.fields k ≡ Some g → slice_get before k ≡ Some h
      → Right g.desc h) → (k : ℕ) (g : FieldTree) (h : Held) → slice_get t.fields k ≡ Some g
      → slice_get after k ≡ Some h → Right g.desc h

module _ (files : Files) (image : StaticImage) (n : ℕ) (t : ClassTree) (fields_once : (j k : ℕ) (f g : FieldTree)
    → slice_get t.fields j ≡ Some f → slice_get t.fields k ≡ Some g → field_id t.name f ≡ field_id t.name g
    → j ≡ k) where
  module _ (before after : List Held) (id : MemberId) (k : ℕ) (h : Held) (made : List MemberId)
      (open_one : IsField files image n t before id k) (some : h ≡ held.Nothing
      → ⊥) (fits_in : Right (let f = open_one.field in f.desc) h) (rest : Puts t (slice_set before k h) after made)
    where
      put_here : slice_get (slice_set before k h) k ≡ Some h
      put_here = set_same before k h held.Nothing open_one.unput

      put_kept : (j : ℕ) (x : Held) → slice_get before j ≡ Some x → (x ≡ held.Nothing → ⊥) → slice_get after j ≡ Some x
      put_kept j x e never = ⊎_elim
          (λ same. (let both : Some held.Nothing ≡ Some x = sym open_one.unput ∙ ap (slice_get before) same ∙ e
          in let is : x ≡ held.Nothing = cc in absurd (never is)))
          (λ differs. rest.kept j x (set_other before k j h differs ∙ e) never) (same_place k j)

      put_right : ((j : ℕ) (g : FieldTree) (x : Held) → slice_get t.fields j ≡ Some g → slice_get before j ≡ Some x
          → Right g.desc x) → (j : ℕ) (g : FieldTree) (x : Held) → slice_get t.fields j ≡ Some g
          → slice_get after j ≡ Some x → Right g.desc x
      put_right all j g x e f = rest.right (λ i v y a b. ⊎_elim
          (λ same. (let fields : Some open_one.field ≡ Some v = sym open_one.there ∙ ap (slice_get t.fields) same ∙ a in
          let is : open_one.field ≡ v = cc in
          let helds : Some h ≡ Some y = sym put_here ∙ ap (slice_get (slice_set before k h)) same ∙ b in
          let what : h ≡ y = cc in
          subst (Right v.desc) what (subst (λ (q : FieldTree). Right q.desc h) is fits_in)))
          (λ differs. all i v y a (sym (set_other before k i h differs) ∙ b)) (same_place k i)) j g x e f

      -- a field whose array is made later held nothing
      put_of : (m : MemberId) → is_one_of m made ≡ true → (j : ℕ) × (g : FieldTree) × (slice_get t.fields j ≡ Some g)
          × (is_cell g ≡ true) × (field_id t.name g ≡ m) × (slice_get before j ≡ Some held.Nothing)
          × (slice_get after j ≡ Some held.Array)
      put_of m e =
          let r = rest.of m e in
          ⊎_elim (λ same. (let both : Some h ≡ Some held.Nothing = sym put_here ∙ ap (slice_get (slice_set before k h))
          same ∙ r.5 in let is : h ≡ held.Nothing = cc in absurd (some is)))
          (λ differs. (r.0, r.1, r.2, r.3, r.4, sym (set_other before k r.0 h differs) ∙ r.5, r.6)) (same_place k r.0)

      plain_put : (h ≡ held.Array → ⊥) → Puts t before after made
      plain_put never = record {
        apart = rest.apart;
        of = put_of;
        kept = put_kept;
        new = λ j g e f. ⊎_elim
            (λ a. ⊎_elim (λ same. (let both : Some h ≡ Some held.Array = sym put_here
            ∙ ap (slice_get (slice_set before k h)) same ∙ a in let is : h ≡ held.Array = cc in absurd (never is)))
            (λ differs. inl (sym (set_other before k j h differs) ∙ a)) (same_place k j))
            (λ b. inr b) (rest.new j g e f);
        right = put_right;
      }

      array_put : h ≡ held.Array → Puts t before after (own_field t id ∷ made)
      array_put is_array = record {
        apart = apart_cons (own_field t id) made (λ e. (let r = rest.of (own_field t id) e in
            let same = fields_once k r.0 open_one.field r.1 open_one.there r.2 (open_one.named ∙ sym r.4) in
            let both : Some h ≡ Some held.Nothing = sym put_here ∙ ap (slice_get (slice_set before k h)) same ∙ r.5 in
            let is : h ≡ held.Nothing = cc in
            some is)) rest.apart;
        of = λ m e. ⊎_elim
            (λ same. (
              k,
              open_one.field,
              open_one.there,
              open_one.is_cell,
              open_one.named ∙ same,
              open_one.unput,
              rest.kept k h put_here some ∙ ap (λ q. Some q) is_array,
            ))
            (λ f. put_of m f) (one_or m (own_field t id) made e);
        kept = put_kept;
        new = λ j g e f. ⊎_elim
            (λ a. ⊎_elim (λ same. (let fields : Some open_one.field ≡ Some g = sym open_one.there
            ∙ ap (slice_get t.fields) same ∙ e in
            let is : open_one.field ≡ g = cc in
            inr (subst (λ m. is_one_of m (own_field t id ∷ made) ≡ true) (sym open_one.named
            ∙ ap (λ (v : FieldTree). field_id t.name v) is) (front_one (own_field t id) made))))
            (λ differs. inl (sym (set_other before k j h differs) ∙ a)) (same_place k j))
            (λ b. inr (behind_one (field_id t.name g) (own_field t id) made b)) (rest.new j g e f);
        right = put_right;
      }

abbrev fields_of : List ArrayCell → List MemberId
fields_of arrays = map (λ a. a.field) arrays

module _ (list : List ℕ) (p : Package) (sound : IsSound list p.files) where
  abbrev w : List Class
  w = world p

  abbrev classes : List ClassTree
  classes = let files = p.files in files.classes

  pub fields_once : (n : ℕ) (t : ClassTree) → slice_get classes n ≡ Some t → (j k : ℕ) (f g : FieldTree)
      → slice_get t.fields j ≡ Some f → slice_get t.fields k ≡ Some g → field_id t.name f ≡ field_id t.name g → j ≡ k
  fields_once n t is_class j k f g e h same =
      let c = declared n t in
      let names = ap (λ (m : MemberId). m.name) same in
      let descs = ap (λ (m : MemberId). m.desc) same in
      let both : Some (member_at c j) ≡ Some (member_at c k) = sym (field_found list p sound n t is_class j f e)
      ∙ ap (λ x. find_field w t.name x f.desc) names ∙ ap (find_field w t.name g.name) descs
      ∙ field_found list p sound n t is_class k g h in
      let found : member_at c j ≡ member_at c k = cc in
      ap (λ (v : Found). v.member) found

  pub classes_once : (n k : ℕ) (t u : ClassTree) → slice_get classes n ≡ Some t → slice_get classes k ≡ Some u
      → t.name ≡ u.name → n ≡ k
  classes_once n k t u e f same =
      let both : Some (declared n t) ≡ Some (declared k u) = sym (named list p sound n t e) ∙ ap (class_named w) same
      ∙ named list p sound k u f in
      let is : declared n t ≡ declared k u = cc in
      ap (λ (v : Class). v.number) is

  pub puts_are : (n : ℕ) (t : ClassTree) → slice_get classes n ≡ Some t
      → (before after : List Held) (ops : List JOp) (ps : List Put) → Initialises p.files n t before ops ps after
      → Puts t before after (fields_of (arrays_of t ps))
  puts_are n t is_class before after ops ps ends = record {
    apart = refl;
    of = λ m e. (let never : false ≡ true = e in absurd (cc));
    kept = λ k h e never. e;
    new = λ k g e f. inl f;
    right = λ all. all;
  }
  puts_are n t is_class before after ops ps (puts {made = made} {ops = more} {contents = contents} {id = id} {k = k}
      {rest = rest} makes place next) =
      let q = option_taken (takes contents id.desc) (open_place p.files n t before id) k place in
      let o = place-field p.files p.image n t before id k is_class q.1 in
      let fits_in = subst (λ d. Right d (held_by contents)) (sym o.desc) (right_put made contents id.desc makes q.0) in
      by contents o fits_in (puts_are n t is_class (slice_set before k (held_by contents)) after more rest next)
    where
      by : (contents : Contents) (o : IsField p.files p.image n t before id k)
          → Right (let f = o.field in f.desc) (held_by contents) → Puts t (slice_set before k (held_by contents)) after
          (fields_of (arrays_of t rest)) → Puts t before after (fields_of (array_in (own_field t id) contents
          ++ arrays_of t rest))
      by (ANumber z) o f r = plain_put p.files p.image n t (fields_once n t is_class) before after id k (held.Number z)
          (fields_of (arrays_of t rest)) o (λ e. cc) f r (λ e. cc)
      by ANull o f r = plain_put p.files p.image n t (fields_once n t is_class) before after id k held.Null
          (fields_of (arrays_of t rest)) o (λ e. cc) f r (λ e. cc)
      by (AnArray kind items) o f r = array_put p.files p.image n t (fields_once n t is_class) before after id k
          held.Array (fields_of (arrays_of t rest)) o (λ e. cc) f r refl
