-- What is put after all initialisers is their effect, and fields stand in their groups one after the other.
use Rattle.std.proofs.Common.{◌≡◌, ◌∙◌, refl, sym, ap, subst, ℕ, ◌+◌, ◌<◌, ◌≤◌, List, [], ◌∷◌, ◌++◌, append_assoc}
use Rattle.std.proofs.Common.{append-nil, length, drop, get_or, map}
use Rattle.std.specs.Prelude.{Option, Some, None, Result, Ok, Err, slice_get, slice_set, option_map, IfNone}
use Rattle.cjc_bytes.specs.Breaks.{Break, Among, IsFirstOf}
use Rattle.cjc_bytes.specs.declared.fault.MemberId.{MemberId}
use Rattle.cjc_bytes.proofs.BrokenRules.{among_left, among_right, none_among}
use Rattle.cjc_bytes.proofs.Gets.{drop_next, drop_past}
use Rattle.cjc_bytes.proofs.Options.{when_none, option_had}
use Rattle.cjc_subset.specs.LowerClassFile.declared.tree.ClassTree.{ClassTree}
use Rattle.cjc_subset.specs.LowerClassFile.declared.tree.FieldTree.{FieldTree}
use Rattle.cjc_subset.specs.LowerBytecode.declared.method_code.MethodCode.{MethodCode}
use Rattle.cjc_subset.specs.LowerWorld.declared.image.ArrayCell.{ArrayCell}
use Rattle.cjc_subset.specs.LowerWorld.declared.image.StaticImage.{StaticImage}
use Rattle.cjc_subset.specs.LowerWorld.declared.image.ValueCell.{ValueCell}
use Rattle.cjc_subset.specs.LowerWorld.Files.{Files}
use Rattle.cjc_clinit.specs.declared.stage.Held.{Held}
use Rattle.cjc_clinit.specs.Initialiser.{nothing_in}
use Rattle.cjc_clinit.specs.Image.{AreInitialised, IsImage, arrays_of, empty, field_id, fields_in, held_in, image_of}
use Rattle.cjc_clinit.specs.Image.{initialised, joined, of_classes, of_fields, of_start, start_of}
use Rattle.cjc_clinit.specs.Image.AreInitialised.{none, one, other}
use Rattle.cjc_clinit.specs.Working.Reading.{Puts, State, after_class, after_code, after_codes, after_initialiser}
use Rattle.cjc_clinit.specs.Working.Reading.{and_then, ended, puts, read, with_read}
use Rattle.cjc_clinit.proofs.Wrong.{start, ended-so}

-- ---- all initialisers

-- What comes after these codes.
abbrev pub Effect : Files → Puts → List MethodCode → Puts → Type 0
Effect files before codes later = (made : List ArrayCell) × AreInitialised files before.fields codes made later.fields
    × (later.arrays ≡ before.arrays ++ made)

went : (r : Result Puts ℕ) (go : Puts → Result Puts ℕ) (later : Puts) → and_then r go ≡ Ok later → (mid : Puts)
    × (r ≡ Ok mid) × (go mid ≡ Ok later)
went (Ok mid) go later e = (mid, refl, e)
went (Err at) go later e = absurd (cc)

module _ (files : Files) where
  -- of one code
  read-with : (code : MethodCode) (before mid : Puts) (r : Result State ℕ) → with_read code before r ≡ Ok mid
      → (s : State) × (r ≡ Ok s) × (puts (slice_set before.fields code.class s.fields) s.arrays ≡ mid)
  read-with code before mid (Err at) e = absurd (cc)
  read-with code before mid (Ok s) e = (
    s,
    refl,
    (let f : puts (slice_set before.fields code.class s.fields) s.arrays
        ≡ mid = cc in f),
  )

  one-more : (code : MethodCode) (codes : List MethodCode) (before mid later : Puts) → after_code files before code
      ≡ Ok mid → Effect files mid codes later → Effect files before (code ∷ codes) later
  unfolding after_code after_initialiser
  one-more code codes before mid later e rest = by (initialised files code) refl e
    where
      by : (o : Option ClassTree) → initialised files code ≡ o → after_class files code before o ≡ Ok mid
          → Effect files before (code ∷ codes) later
      by None is h =
          let same : mid ≡ before = cc in
          let there = subst (λ (p : Puts). Effect files p codes later) same rest in (there.0, other is there.1, there.2)
      by (Some c) is h =
          let p = read-with code before mid (ended (read files code.class c (start c before.arrays) code.insns)) h in
          let s = p.0 in
          let q = ended-so files code.class c before.arrays code.insns s p.1 in
          let there = subst (λ (v : Puts). Effect files v codes later) (sym p.2) rest in (
            arrays_of c q.0 ++ there.0,
            one c q.0 s.fields is q.1 there.1,
            there.2 ∙ ap (λ (v : List ArrayCell). v ++ there.0) q.2 ∙ append_assoc before.arrays (arrays_of c q.0)
                there.0,
          )

  pub effect : (codes : List MethodCode) (before later : Puts) → after_codes files before codes ≡ Ok later
      → Effect files before codes later
  unfolding after_codes
  effect [] before later e =
      let same : before ≡ later = cc in (
        [],
        subst (λ (p : Puts). AreInitialised files before.fields [] [] p.fields) same none,
        sym (ap (λ (p : Puts). p.arrays) same) ∙ sym (append-nil before.arrays),
      )
  effect (code ∷ codes) before later e =
      let p = went (after_code files before code) (λ q. after_codes files q codes) later e in
      one-more code codes before p.0 later p.1 (effect codes p.0 later p.2)

  pub image-so : (codes : List MethodCode) (arrays : List ArrayCell) (fields : List (List Held)) (image : StaticImage)
      → after_codes files (puts (map nothing_in files.classes) []) codes ≡ Ok (puts fields arrays)
      → image ≡ image_of files.classes arrays fields → IsImage files codes image
  image-so codes arrays fields image e is =
      let h = effect codes (puts (map nothing_in files.classes) []) (puts fields arrays) e in
      record {
        arrays = h.0;
        fields = fields;
        initialises = h.1;
        is = is
            ∙ ap (λ (q : List ArrayCell). image_of files.classes q fields) h.2;
      }

-- ---- groups

abbrev grouped : List ArrayCell → List MemberId → List MemberId → List ValueCell → StaticImage
grouped arrays nulls zeros others = record { arrays = arrays; nulls = nulls; zeros = zeros; others = others }

same-image : {a b : List ArrayCell} {d e : List MemberId} {f g : List MemberId} {h i : List ValueCell} → a ≡ b → d ≡ e
    → f ≡ g → h ≡ i → grouped a d f h ≡ grouped b e g i
same-image {a} {b} {d} {e} {f} {g} {h} {i} p q r s =
    ap (λ v. grouped v d f h) p ∙ ap (λ v. grouped b v f h) q ∙ ap (λ v. grouped b e v h) r
    ∙ ap (λ v. grouped b e g v) s

pub joined_assoc : (a b d : StaticImage) → joined (joined a b) d ≡ joined a (joined b d)
joined_assoc a b d =
    same-image (append_assoc a.arrays b.arrays d.arrays) (append_assoc a.nulls b.nulls d.nulls)
    (append_assoc a.zeros b.zeros d.zeros) (append_assoc a.others b.others d.others)

pub joined-empty : (a : StaticImage) → joined a empty ≡ a
joined-empty a = same-image (append-nil a.arrays) (append-nil a.nulls) (append-nil a.zeros) (append-nil a.others)

-- a field more
pub fields_next : (class : List ℕ) (held : List Held) (fields : List FieldTree) (i : ℕ) (x : FieldTree) (old new all :
    StaticImage) → i < length fields → x ≡ get_or fields i x
    → new ≡ joined old (of_start (field_id class x) (start_of x (held_in (slice_get held i))))
    → joined old (of_fields class held i (drop i fields)) ≡ all
    → joined new (of_fields class held (i + 1) (drop (i + 1) fields)) ≡ all
fields_next class held fields i x old new all lt is n inv =
    ap (λ (q : StaticImage). joined q (of_fields class held (i + 1) (drop (i + 1) fields))) n
    ∙ joined_assoc old (of_start (field_id class x) (start_of x (held_in (slice_get held i))))
    (of_fields class held (i + 1) (drop (i + 1) fields))
    ∙ ap (λ (q : List FieldTree). joined old (of_fields class held i q)) (sym (drop_next fields i x lt is)) ∙ inv

pub fields_end : (class : List ℕ) (held : List Held) (fields : List FieldTree) (i : ℕ) (old all : StaticImage)
    → length fields ≤ i → joined old (of_fields class held i (drop i fields)) ≡ all → old ≡ all
fields_end class held fields i old all le inv = sym (joined-empty old)
    ∙ ap (λ (q : List FieldTree). joined old (of_fields class held i q)) (sym (drop_past fields i le)) ∙ inv

-- a class more
pub classes_next : (rows : List (List Held)) (classes : List ClassTree) (i : ℕ) (x : ClassTree) (old new all :
    StaticImage) → i < length classes → x ≡ get_or classes i x
    → new ≡ joined old (of_fields x.name (fields_in (slice_get rows i)) 0 x.fields)
    → joined old (of_classes rows i (drop i classes)) ≡ all
    → joined new (of_classes rows (i + 1) (drop (i + 1) classes)) ≡ all
classes_next rows classes i x old new all lt is n inv =
    ap (λ (q : StaticImage). joined q (of_classes rows (i + 1) (drop (i + 1) classes))) n
    ∙ joined_assoc old (of_fields x.name (fields_in (slice_get rows i)) 0 x.fields) (of_classes rows (i + 1)
    (drop (i + 1) classes))
    ∙ ap (λ (q : List ClassTree). joined old (of_classes rows i q)) (sym (drop_next classes i x lt is)) ∙ inv

pub classes_end : (rows : List (List Held)) (classes : List ClassTree) (i : ℕ) (old all : StaticImage)
    → length classes ≤ i → joined old (of_classes rows i (drop i classes)) ≡ all → old ≡ all
classes_end rows classes i old all le inv = sym (joined-empty old)
    ∙ ap (λ (q : List ClassTree). joined old (of_classes rows i q)) (sym (drop_past classes i le)) ∙ inv

-- ---- the first of two

both-none : (xs ys : List Break) (o p : Option Break) → IsFirstOf xs o → IsFirstOf ys p → xs ++ ys ≡ [] → (o ≡ None)
    × (p ≡ None)
both-none xs ys None None f g e = (refl, refl)
both-none xs ys (Some b) p f g e = none_among b (subst (λ (q : List Break). Among b q) e (among_left b xs ys f.among))
both-none xs ys None (Some b) f g e =
    none_among b (subst (λ (q : List Break). Among b q) e (among_right b xs ys g.among))

none-was : {X : Type 0} (f : X → Break) (o : Option X) → option_map f o ≡ None → o ≡ None
none-was f None e = refl
none-was f (Some x) e = absurd (cc)

-- What holds where neither is broken holds where the first of both is not.
pub joining : {X : Type 0} (f : X → Break) (xs ys : List Break) (o p q : Option X) (P Q R : Type 0)
    → IsFirstOf xs (option_map f o) → IsFirstOf ys (option_map f p) → IsFirstOf (xs ++ ys) (option_map f q)
    → (P → Q → R) → IfNone o P → IfNone p Q → IfNone q R
joining f xs ys o p q P Q R first next all go had_o had_p = when_none q R (λ e.
    let none : xs ++ ys ≡ [] = subst (λ v. IsFirstOf (xs ++ ys) (option_map f v)) e all in
    let both = both-none xs ys (option_map f o) (option_map f p) first next none in
    go (option_had o P (none-was f o both.0) had_o) (option_had p Q (none-was f p both.1) had_p))

pub when-first : {X : Type 0} (f : X → Break) (bs : List Break) (o : Option X) (P : Type 0)
    → IsFirstOf bs (option_map f o) → (IsFirstOf bs None → P) → IfNone o P
when-first f bs None P first go = go first
when-first f bs (Some x) P first go = tt

pub no-premise : {X : Type 0} (o : Option X) → IfNone o (Unit {0})
no-premise None = tt
no-premise (Some x) = tt
