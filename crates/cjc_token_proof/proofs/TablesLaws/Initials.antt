-- What static fields hold after all initialisers of a package, and the arrays of the static image.
use Rattle.std.proofs.Common.{◌≡◌, ℕ, zero, suc, ◌<◌, refl, sym, ap, subst, ◌∙◌, arith, Bool, true, false, List, ◌++◌}
use Rattle.std.proofs.Common.{length, inl, inr, ⊎_elim}
use Rattle.std.specs.Prelude.{◌⊎◌, map, replicate, Option, Some, None, slice_get, slice_set, option_and_then}
use Rattle.std.specs.Prelude.{option_map, if◌then◌else◌}
use Rattle.std.proofs.lemmas.List.{map-append}
use Rattle.std.proofs.lemmas.Option.{slice_get-map, slice_get_within}
use Rattle.cjc_bytes.specs.declared.fault.MemberId.{MemberId}
use Rattle.cjc_bytes.proofs.Numbers.{same_place}
use Rattle.cjc_bytes.proofs.Gets.{set_same, set_other}
use Rattle.cjc_world.specs.ClassFile.declared.tree.ClassTree.{ClassTree}
use Rattle.cjc_world.specs.ClassFile.declared.tree.FieldTree.{FieldTree}
use Rattle.cjc_world.specs.ClassFile.declared.tree.MethodTree.{MethodTree}
use Rattle.cjc_world_proof.specs.Bytecode.declared.method_code.MethodCode.{MethodCode}
use Rattle.cjc_world.specs.declared.image.ArrayCell.{ArrayCell}
use Rattle.cjc_world_proof.specs.LowerClinit.declared.stage.Held.{Held}
use Rattle.cjc_world_proof.specs.LowerClinit.declared.stage.Held.TheVariants as held
use Rattle.cjc_world_proof.specs.LowerClinit.Fields.{is_cell}
use Rattle.cjc_world_proof.specs.LowerClinit.Image.{AreInitialised, arrays_of, class_where, field_id, if_initialiser}
use Rattle.cjc_world_proof.specs.LowerClinit.Image.{initialised}
use Rattle.cjc_world_proof.specs.LowerClinit.Image.AreInitialised.{none as no_code, other as other_code}
use Rattle.cjc_world_proof.specs.LowerClinit.Image.AreInitialised.{one as one_code}
use Rattle.cjc_world_proof.specs.LowerClinit.Initialiser.{is_initialiser, nothing_in, ops_of}
use Rattle.cjc_world_proof.specs.Initialisers.Values.{StandOnce}
use Rattle.cjc_token_proof.specs.ByToken.Cells.{are_apart, is_one_of}
use Rattle.cjc_components.specs.Package.{Package}
use Rattle.cjc_token_proof.specs.Tables.Sound.{IsSound}
use Rattle.cjc_token_proof.proofs.TablesLaws.Puts.{Puts, Right, apart_append, classes_once, fields_once, one_back}
use Rattle.cjc_token_proof.proofs.TablesLaws.Puts.{one_either, one_front, puts_are}

-- what the field at a place of a class holds
unfoldable pub held_at : List (List Held) → (class place : ℕ) → Option Held
held_at fields n k = option_and_then (λ fs. slice_get fs k) (slice_get fields n)

abbrev fields_of : List ArrayCell → List MemberId
fields_of arrays = map (λ a. a.field) arrays

nothing_there : (n k : ℕ) (h : Held) → slice_get (replicate n held.Nothing) k ≡ Some h → h ≡ held.Nothing
nothing_there zero k h e = cc
nothing_there (suc n) zero h e = let is : held.Nothing ≡ h = cc in sym is
nothing_there (suc n) (suc k) h e = nothing_there n k h e

there_nothing : (n k : ℕ) → k < n → slice_get (replicate n held.Nothing) k ≡ Some held.Nothing
there_nothing zero k lt = absurd (omega (arith, lt))
there_nothing (suc n) zero lt = refl
there_nothing (suc n) (suc k) lt = there_nothing n k (omega (arith, lt))

class_of_code : (o : Option ClassTree) (m : ℕ) (c : ClassTree) → class_where m o ≡ Some c → o ≡ Some c
class_of_code None m c e = cc
class_of_code (Some d) m c e = by (slice_get d.methods m) e
  where
    go : (b : Bool) → (if b then Some d else None) ≡ Some c → Some d ≡ Some c
    go true f = f
    go false f = cc

    by : (o : Option MethodTree) → if_initialiser d o ≡ Some c → Some d ≡ Some c
    by None f = cc
    by (Some x) f = go (is_initialiser x) f

module _ (list : List ℕ) (p : Package) (sound : IsSound list p.files) where
  abbrev classes : List ClassTree
  classes = let files = p.files in files.classes

  -- a field of a class of the package, by its place, and its name
  pub record IsAt (n : ℕ) (t : ClassTree) (k : ℕ) (g : FieldTree) (m : MemberId) : Type 0 where
    pub class : slice_get classes n ≡ Some t
    pub field : slice_get t.fields k ≡ Some g
    pub named : field_id t.name g ≡ m

  -- one name is one place
  pub one_place : (n : ℕ) (t : ClassTree) (k : ℕ) (g : FieldTree) (j : ℕ) (u : ClassTree) (i : ℕ) (h : FieldTree)
      (m : MemberId) → IsAt n t k g m → IsAt j u i h m → (n ≡ j) × (k ≡ i)
  one_place n t k g j u i h m a b =
      let same : field_id t.name g ≡ field_id u.name h = a.named ∙ sym b.named in
      let names = ap (λ (q : MemberId). q.class) same in
      let number = classes_once list p sound n j t u a.class b.class names in
      let both : Some t ≡ Some u = sym a.class ∙ ap (slice_get classes) number ∙ b.class in
      let is : t ≡ u = cc in (
        number,
        fields_once list p sound n t a.class k i g h a.field (ap (λ (v : ClassTree). slice_get v.fields i) is
            ∙ b.field) (same ∙ ap (λ (v : ClassTree). field_id v.name h) (sym is)),
      )

  -- each initialiser of these codes is of a class into whose fields nothing was put
  Untouched : List (List Held) → List MethodCode → Type 0
  Untouched before codes = (i : ℕ) (a : MethodCode) (c : ClassTree) → slice_get codes i ≡ Some a → initialised p.files a
      ≡ Some c → slice_get before a.class ≡ Some (nothing_in c)

  pub record Made (before after : List (List Held)) (made : List MemberId) : Type 0 where
    pub apart : are_apart made ≡ true
    pub of : (m : MemberId) → is_one_of m made ≡ true → (n : ℕ) × (t : ClassTree) × (k : ℕ) × (g : FieldTree)
        × IsAt n t k g m × (is_cell g ≡ true) × (held_at before n k ≡ Some held.Nothing)
        × (held_at after n k ≡ Some held.Array)
    pub kept : (n k : ℕ) (h : Held) → held_at before n k ≡ Some h → (h ≡ held.Nothing → ⊥) → held_at after n k ≡ Some h
    pub new : (n : ℕ) (t : ClassTree) (k : ℕ) (g : FieldTree) → slice_get classes n ≡ Some t → slice_get t.fields k
        ≡ Some g → held_at after n k ≡ Some held.Array → (held_at before n k ≡ Some held.Array)
        ⊎ (is_one_of (field_id t.name g) made ≡ true)
    pub right : ((n : ℕ) (t : ClassTree) (k : ℕ) (g : FieldTree) (h : Held) → slice_get classes n ≡ Some t
        → slice_get t.fields k ≡ Some g → held_at before n k ≡ Some h → Right g.desc h)
        → (n : ℕ) (t : ClassTree) (k : ℕ) (g : FieldTree) (h : Held) → slice_get classes n ≡ Some t
        → slice_get t.fields k ≡ Some g → held_at after n k ≡ Some h → Right g.desc h

  module _ (before after : List (List Held)) (n : ℕ) (c : ClassTree) (is_class : slice_get classes n ≡ Some c)
      (fs : List Held) (here later : List MemberId)
      (nothing : slice_get before n ≡ Some (nothing_in c)) (puts : Puts c (nothing_in c) fs here)
      (rest : Made (slice_set before n fs) after later) where
    at_class : (k : ℕ) → held_at (slice_set before n fs) n k ≡ slice_get fs k
    unfolding held_at
    at_class k = ap (option_and_then (λ xs. slice_get xs k)) (set_same before n fs (nothing_in c) nothing)

    at_other : (j k : ℕ) → (n ≡ j → ⊥) → held_at (slice_set before n fs) j k ≡ held_at before j k
    unfolding held_at
    at_other j k differs = ap (option_and_then (λ xs. slice_get xs k)) (set_other before n j fs differs)

    was : (k : ℕ) → held_at before n k ≡ slice_get (nothing_in c) k
    unfolding held_at
    was k = ap (option_and_then (λ xs. slice_get xs k)) nothing

    was_nothing : (k : ℕ) (h : Held) → held_at before n k ≡ Some h → h ≡ held.Nothing
    was_nothing k h e = nothing_there (length c.fields) k h (sym (was k) ∙ e)

    same_class : (j : ℕ) (t : ClassTree) → n ≡ j → slice_get classes j ≡ Some t → c ≡ t
    same_class j t same e = let both : Some c ≡ Some t = sym is_class ∙ ap (slice_get classes) same ∙ e in cc

    pub made_more : Made before after (here ++ later)
    made_more = record {
      apart = apart_append here later puts.apart rest.apart (λ m e f. clash m e f);
      of = λ m e. ⊎_elim
          (λ a. (let r = puts.of m a in (
            n,
            c,
            r.0,
            r.1,
            record { class = is_class; field = r.2; named = r.4 },
            r.3,
            was r.0
                ∙ r.5,
            rest.kept n r.0 held.Array (at_class r.0 ∙ r.6) (λ q. cc),
          )))
          (λ b. (let r = rest.of m b in (r.0, r.1, r.2, r.3, r.4, r.5, earlier r.0 r.1 r.2 r.3 r.4 r.6, r.7)))
          (one_either m here later e);
      kept = λ j k h e never. ⊎_elim
          (λ same. absurd (never (was_nothing k h (ap (λ q. held_at before q k) same ∙ e))))
          (λ differs. rest.kept j k h (at_other j k differs ∙ e) never) (same_place n j);
      new = λ j t k g e f a. ⊎_elim
          (λ b. ⊎_elim
          (λ same. (let is = same_class j t same e in
          let put : slice_get fs k ≡ Some held.Array = sym (at_class k) ∙ ap (λ q. held_at (slice_set before n fs) q k)
          same ∙ b in
          ⊎_elim (λ x. (let clash_it = nothing_there (length c.fields) k held.Array x in absurd (cc)))
          (λ x. inr (one_front (field_id t.name g) here later (ap (λ (v : ClassTree). is_one_of (field_id v.name g)
          here) (sym is) ∙ x)))
          (puts.new k g (ap (λ (v : ClassTree). slice_get v.fields k) is ∙ f) put)))
          (λ differs. inl (sym (at_other j k differs) ∙ b)) (same_place n j))
          (λ b. inr (one_back (field_id t.name g) here later b)) (rest.new j t k g e f a);
      right = λ all j t k g h e f a. rest.right (λ i u l v x b d y. ⊎_elim
          (λ same. (let is = same_class i u same b in
          puts.right (λ q z o s r. all n c q z o is_class s (was q ∙ r)) l v x
          (ap (λ (v : ClassTree). slice_get v.fields l) is ∙ d) (sym (at_class l)
          ∙ ap (λ q. held_at (slice_set before n fs) q l) same ∙ y)))
          (λ differs. all i u l v x b d (sym (at_other i l differs) ∙ y)) (same_place n i)) j t k g h e f a;
    }
      where
        earlier : (j : ℕ) (t : ClassTree) (k : ℕ) (g : FieldTree) {m : MemberId} → IsAt j t k g m
            → held_at (slice_set before n fs) j k ≡ Some held.Nothing → held_at before j k ≡ Some held.Nothing
        earlier j t k g a e = ⊎_elim
            (λ same. (let is = same_class j t same a.class in
            let lt = slice_get_within c.fields k g (ap (λ (v : ClassTree). slice_get v.fields k) is ∙ a.field) in
            ap (λ q. held_at before q k) (sym same) ∙ was k ∙ there_nothing (length c.fields) k lt))
            (λ differs. sym (at_other j k differs) ∙ e) (same_place n j)

        clash : (m : MemberId) → is_one_of m here ≡ true → is_one_of m later ≡ true → ⊥
        clash m e f =
            let r = puts.of m e in
            let s = rest.of m f in
            let at : IsAt n c r.0 r.1 m = record { class = is_class; field = r.2; named = r.4 } in
            let same = one_place n c r.0 r.1 s.0 s.1 s.2 s.3 m at s.4 in
            let one : Some held.Array ≡ Some held.Nothing = sym r.6 ∙ sym (at_class r.0)
            ∙ ap (λ q. held_at (slice_set before n fs) q r.0) same.0 ∙ ap (held_at (slice_set before n fs) s.0)
            same.1 ∙ s.6 in
            cc

  all_made : (before after : List (List Held)) (codes : List MethodCode) (arrays : List ArrayCell)
      → AreInitialised p.files before codes arrays after → StandOnce p.files codes → Untouched before codes
      → Made before after (fields_of arrays)
  unfolding Untouched
  all_made before after codes arrays no_code once free = record {
    apart = refl;
    of = λ m e. (let clash : false ≡ true = e in absurd (cc));
    kept = λ n k h e never. e;
    new = λ n t k g e f a. inl a;
    right = λ all. all;
  }
  all_made before after codes arrays (other_code {codes = more} is rest) once free =
      all_made before after more arrays rest (λ i j a b c d e f g h k. (let s = once (suc i) (suc j) a b c d e f g h k
      in omega (arith, s))) (λ i a c e f. free (suc i) a c e f)
  all_made before after codes arrays (one_code {code = code} {codes = more} {arrays = made} c puts fields is says rest)
      once free =
      let n = code.class in
      let is_class = class_of_code (slice_get classes n) code.method c is in
      let nothing = free 0 code c refl is in
      let free_later = λ (i : ℕ) (a : MethodCode) (d : ClassTree) (e : slice_get more i ≡ Some a)
      (f : initialised p.files a ≡ Some d). set_other before n a.class fields (λ same. (let s = once 0
      (suc i) code a c d refl e is f same in omega (arith, s))) ∙ free (suc i) a d e f in
      let later = all_made (slice_set before n fields) after more made rest (λ i j a b c d e f g h k.
      (let s = once (suc i) (suc j) a b c d e f g h k in omega (arith, s))) free_later in
      subst (Made before after) (sym (map-append (λ (a : ArrayCell). a.field) (arrays_of c puts) made))
      (made_more before after n c is_class fields (fields_of (arrays_of c puts)) (fields_of made) nothing
      (puts_are list p sound n c is_class (nothing_in c) fields (ops_of code.insns) puts says) later)

  nothing_first : (codes : List MethodCode) → Untouched (map nothing_in classes) codes
  unfolding Untouched
  nothing_first codes i a c e f = slice_get-map nothing_in classes a.class
      ∙ ap (option_map nothing_in) (class_of_code (slice_get classes a.class) a.method c f)

  -- after all initialisers
  pub made_in_all : (codes : List MethodCode) (arrays : List ArrayCell) (fields : List (List Held))
      → AreInitialised p.files (map nothing_in classes) codes arrays fields → StandOnce p.files codes
      → Made (map nothing_in classes) fields (fields_of arrays)
  made_in_all codes arrays fields h once = all_made (map nothing_in classes) fields codes arrays h once
      (nothing_first codes)

  -- what a field holds at last is of its type
  pub all_right : (codes : List MethodCode) (arrays : List ArrayCell) (fields : List (List Held))
      → AreInitialised p.files (map nothing_in classes) codes arrays fields → StandOnce p.files codes
      → (n : ℕ) (t : ClassTree) (k : ℕ) (g : FieldTree) (h : Held) → slice_get classes n ≡ Some t → slice_get t.fields k
      ≡ Some g → held_at fields n k ≡ Some h → Right g.desc h
  unfolding held_at Right
  all_right codes arrays fields a once =
      let m = made_in_all codes arrays fields a once in
      m.right (λ n t k g h e f b. (let is = nothing_there (length t.fields) k h
      (sym (ap (option_and_then (λ fs. slice_get fs k)) (slice_get-map nothing_in classes n
      ∙ ap (option_map nothing_in) e)) ∙ b) in subst (Right g.desc) (sym is) tt))

  -- an array that the image has is its field's
  pub array_held : (codes : List MethodCode) (arrays : List ArrayCell) (fields : List (List Held))
      → AreInitialised p.files (map nothing_in classes) codes arrays fields → StandOnce p.files codes
      → (n : ℕ) (t : ClassTree) (k : ℕ) (g : FieldTree) → slice_get classes n ≡ Some t → slice_get t.fields k ≡ Some g
      → held_at fields n k ≡ Some held.Array → is_one_of (field_id t.name g) (fields_of arrays) ≡ true
  unfolding held_at
  array_held codes arrays fields a once n t k g e f b =
      let m = made_in_all codes arrays fields a once in
      ⊎_elim (λ x. (let clash = nothing_there (length t.fields) k held.Array
      (sym (ap (option_and_then (λ fs. slice_get fs k)) (slice_get-map nothing_in classes n
      ∙ ap (option_map nothing_in) e)) ∙ x) in absurd (cc))) (λ x. x) (m.new n t k g e f b)
