-- Spots that are put one after the other are those of all classes.
use Rattle.std.proofs.Common.{◌≡◌, ℕ, zero, suc, ◌<◌, ◌≤◌, ◌+◌, ◌-◌, ◌^◌, refl, sym, ap, subst, ◌∙◌, arith, true, false}
use Rattle.std.proofs.Common.{List, [], ◌∷◌, ◌++◌, length, get_or, drop, add-one, append_assoc, length-append}
use Rattle.std.specs.Prelude.{All, slice_get, Option, Some, None, option_to_list, option_map, option_and_then}
use Rattle.std.specs.Prelude.{if◌then◌else◌}
use Rattle.std.proofs.Math.Seq.{drop-cons}
use Rattle.std.proofs.lemmas.List.{append-nil, length-map}
use Rattle.std.proofs.lemmas.List.Elements.{All-append}
use Rattle.std.proofs.lemmas.Option.{slice_get-get_or}
use Rattle.std.proofs.lemmas.Grind.{common_steps}
use Rattle.cjc_bytes.specs.declared.settings.FileLine.{FileLine}
use Rattle.cjc_classfile.specs.declared.tree.ClassTree.{ClassTree}
use Rattle.cjc_export.specs.declared.tree.ExportClass.{ExportClass}
use Rattle.cjc_export.specs.declared.tree.ExportTree.{ExportTree}
use Rattle.cjc_world.specs.declared.spot.ClassPlace.{ClassPlace}
use Rattle.cjc_world.specs.Classes.{Class, field_of_class, method_of_class, field_of_export, method_of_export, declared}
use Rattle.cjc_world.specs.Classes.{imported, of_class_file, numbered, of_export_file, size, classes_from}
use Rattle.cjc_world.specs.Working.Spots.{at, stood, spots_from, IsCounted, Grows, IsIndexed}

all_none : All IsCounted []
all_none k d l = absurd (omega arith)

all_more : (c : Class) (cs : List Class) → IsCounted c → All IsCounted cs → All IsCounted (c ∷ cs)
all_more c cs p ps zero d l = p
all_more c cs p ps (suc k) d l = ps k d (omega arith)

class_counted : (n : ℕ) (c : ClassTree) → length c.fields + length c.methods < 2 ^ 32 → IsCounted (declared n c)
class_counted n c l = rw (length-map c.fields field_of_class, length-map c.methods method_of_class) l

export_counted : (n : ℕ) (c : ExportClass) → length c.fields + length c.methods < 2 ^ 32 → IsCounted (imported n c)
export_counted n c l = rw (length-map c.fields field_of_export, length-map c.methods method_of_export) l

pub all_counted : (cs : List ExportClass) → ((k : ℕ) (d : ExportClass) → k < length cs
    → length (get_or cs k d).fields + length (get_or cs k d).methods < 2 ^ 32) → (n : ℕ) → All IsCounted (numbered n cs)
all_counted [] f n = all_none
all_counted (c ∷ cs) f n = all_more (imported n c) (numbered (n + 1) cs) (export_counted n c (f 0 c (omega arith)))
    (all_counted cs (λ k d l. f (suc k) d (omega arith)) (n + 1))

module _ (cs : List ClassTree) (es : List ExportTree) where
  pub stood_append : (a b : List ClassPlace) → stood cs es (a ++ b) ≡ stood cs es a ++ stood cs es b
  stood_append [] b = refl
  stood_append (s ∷ a) b = by (at cs es s) (stood_append a b)
    where
      by : (o : Option Class) → stood cs es (a ++ b) ≡ stood cs es a ++ stood cs es b → option_to_list o
          ++ stood cs es (a ++ b) ≡ (option_to_list o ++ stood cs es a) ++ stood cs es b
      by None e = e
      by (Some c) e = ap (λ t. c ∷ t) e

  pub grows_not : (old : List ClassPlace) → Grows cs es old old []
  grows_not old = record { all = sym (append-nil (stood cs es old)); count = omega arith; counted = all_none }

  class_spot : ℕ → ClassPlace
  class_spot place = record { imported = false; tree = place; class = 0; number = place }

  pub grows_class : (old : List ClassPlace) (place : ℕ) (c : ClassTree) → Some c ≡ slice_get cs place
      → length c.fields + length c.methods < 2 ^ 32
      → Grows cs es old (old ++ record { imported = false; tree = place; class = 0; number = place }
      ∷ []) (declared place c ∷ [])
  grows_class old place c e l = record {
    all = stood_append old (record { imported = false; tree = place; class = 0; number = place } ∷ [])
        ∙ ap (λ o. stood cs es old ++ (option_to_list (option_map (λ c. declared place c) o) ++ [])) (sym e);
    count = length-append old (record { imported = false; tree = place; class = 0; number = place } ∷ []);
    counted = all_more (declared place c) [] (class_counted place c l) all_none;
  }

  nothing : ExportClass
  nothing = record {
    token = 0;
    flags = 0;
    name = [];
    listed = [];
    supers = [];
    interfaces = [];
    fields = [];
    methods
        = [];
  }

  taken : (xs : List ExportClass) (p : ℕ) (d : ExportClass) → p < length xs → slice_get xs p ≡ Some (get_or xs p d)
  taken [] p d l = absurd (omega arith)
  taken (x ∷ xs) zero d l = refl
  taken (x ∷ xs) (suc p) d l = taken xs p d (omega arith)

  stood_from : (e i : ℕ) (t : ExportTree) → Some t ≡ slice_get es e → (n p : ℕ) → n + p ≡ length t.classes
      → stood cs es (spots_from e i p n) ≡ numbered (i + p) (drop p t.classes)
  unfolding spots_from
  stood_from e i t f zero p q = let none : drop p t.classes ≡ [] = grind (arith, common_steps)
      in sym (ap (numbered (i + p)) none)
  stood_from e i t f (suc n) p q =
      let l : p < length t.classes = omega arith in
      let rest = stood_from e i t f n (p + 1) (omega arith) in
      let here : at cs es (record { imported = true; tree = e; class = p; number = i + p })
      ≡ Some (imported (i + p) (get_or t.classes p nothing)) =
      ap (λ o. option_map (λ c. imported (i + p) c) (option_and_then (λ t. slice_get t.classes p) o)) (sym f)
      ∙ ap (option_map (λ c. imported (i + p) c)) (taken t.classes p nothing l) in
      let shift : i + (p + 1) ≡ i + p + 1 = omega arith in
      ap (λ o. option_to_list o ++ stood cs es (spots_from e i (p + 1) n)) here
      ∙ ap (λ cs. imported (i + p) (get_or t.classes p nothing) ∷ cs) (rest
      ∙ ap (λ m. numbered m (drop (p + 1) t.classes)) shift ∙ ap (λ m. numbered (i + p + 1) (drop m t.classes))
      (add-one p))
      ∙ ap (numbered (i + p)) (sym (drop-cons t.classes p nothing l))

  from_length : (e i p n : ℕ) → length (spots_from e i p n) ≡ n
  unfolding spots_from
  from_length e i p zero = refl
  from_length e i p (suc n) = ap suc (from_length e i (p + 1) n)

  numbered-length : (n : ℕ) (cs : List ExportClass) → length (numbered n cs) ≡ length cs
  numbered-length n [] = refl
  numbered-length n (c ∷ cs) = ap suc (numbered-length (n + 1) cs)

  pub grows_export : (old : List ClassPlace) (e i : ℕ) (t : ExportTree) → Some t ≡ slice_get es e
      → ((n : ℕ) → All IsCounted (numbered n t.classes))
      → Grows cs es old (old ++ spots_from e i 0 (length t.classes)) (numbered i t.classes)
  grows_export old e i t f counted = record {
    all = stood_append old (spots_from e i 0 (length t.classes)) ∙ ap (λ new. stood cs es old
        ++ new) (stood_from e i t f (length t.classes) 0 (omega arith) ∙ ap (λ m. numbered m t.classes) (let z : i + 0
        ≡ i = omega arith in z));
    count = length-append old (spots_from e i 0 (length t.classes))
        ∙ ap (λ n. length old + n) (from_length e i 0 (length t.classes) ∙ sym (numbered-length i t.classes));
    counted = counted i;
  }

pub spots_step : (old : List ClassPlace) (e i p n : ℕ) → p < n → (old ++ record {
  imported = true;
  tree = e;
  class = p;
  number = i + p;
} ∷ []) ++ spots_from e i (p + 1) (n - (p + 1)) ≡ old ++ spots_from e i p (n - p)
unfolding spots_from
spots_step old e i p n l =
    let less : n - p ≡ suc (n - (p + 1)) = omega arith in
    append_assoc old (record { imported = true; tree = e; class = p; number = i + p } ∷ []) (spots_from e i (p + 1)
    (n - (p + 1)))
    ∙ ap (λ m. old ++ spots_from e i p m) (sym less)

pub spots_end : (old : List ClassPlace) (e i p n : ℕ) → n ≤ p → old ≡ old ++ spots_from e i p (n - p)
unfolding spots_from
spots_end old e i p n l = let none : n - p ≡ 0 = omega arith in sym (ap (λ m. old ++ spots_from e i p m) none
    ∙ append-nil old)

pub got_some : {A : Type 0} (xs : List A) (i : ℕ) (x : A) → i < length xs → x ≡ get_or xs i x → Some x ≡ slice_get xs i
got_some xs i x l e = ap Some e ∙ sym (slice_get-get_or xs i x l)

pub got_none : {A : Type 0} (xs : List A) (i : ℕ) → length xs ≤ i → None ≡ slice_get xs i
got_none [] i l = refl
got_none (x ∷ xs) zero l = absurd (omega arith)
got_none (x ∷ xs) (suc i) l = got_none xs i (omega arith)

-- ---- line after line

pub record Indexing (cs : List ClassTree) (es : List ExportTree) (lines : List FileLine) (spots : List ClassPlace)
    (c e i k : ℕ) : Type 0 where
  pub all : stood cs es spots ++ classes_from cs es c e i (drop k lines) ≡ classes_from cs es 0 0 0 lines
  pub count : length spots ≡ length (stood cs es spots)
  pub counted : All IsCounted (stood cs es spots)

module _ (cs : List ClassTree) (es : List ExportTree) (lines : List FileLine) where
  pub classes_next : (c e i k : ℕ) (d : FileLine) → k < length lines → classes_from cs es c e i (drop k lines) ≡
      (if (get_or lines k d).class_file
      then of_class_file c (slice_get cs c) ++ classes_from cs es (c + 1) e i (drop (k + 1) lines)
      else of_export_file i (slice_get es e) ++ classes_from cs es c (e + 1) (i + size (slice_get es e))
      (drop (k + 1) lines))
  unfolding classes_from
  classes_next c e i k d l = ap (classes_from cs es c e i) (drop-cons lines k d l)
      ∙ ap (λ n. if (get_or lines k d).class_file then of_class_file c (slice_get cs c)
      ++ classes_from cs es (c + 1) e i (drop n lines) else of_export_file i (slice_get es e)
      ++ classes_from cs es c (e + 1) (i + size (slice_get es e)) (drop n lines)) (sym (add-one k))

  pub indexing_starts : Indexing cs es lines [] 0 0 0 0
  indexing_starts = record { all = refl; count = refl; counted = all_none }

  step : (old new : List ClassPlace) (more : List Class) (c e i k c' e' i' : ℕ) → Indexing cs es lines old c e i k
      → Grows cs es old new more
      → classes_from cs es c e i (drop k lines) ≡ more ++ classes_from cs es c' e' i' (drop (k + 1) lines)
      → Indexing cs es lines new c' e' i' (k + 1)
  step old new more c e i k c' e' i' inv grows next = record {
    all = ap (λ s. s ++ classes_from cs es c' e' i' (drop (k + 1) lines)) grows.all
        ∙ append_assoc (stood cs es old) more (classes_from cs es c' e' i' (drop (k + 1) lines))
        ∙ ap (λ t. stood cs es old ++ t) (sym next) ∙ inv.all;
    count = grows.count ∙ ap (λ n. n + length more) inv.count ∙ sym (length-append (stood cs es old) more)
        ∙ ap length (sym grows.all);
    counted = subst (λ s. All IsCounted s) (sym grows.all) (All-append IsCounted (stood cs es old) more inv.counted
        grows.counted);
  }

  moved : (new new' : List ClassPlace) (c e i k c' e' i' : ℕ) → new ≡ new' → c ≡ c' → e ≡ e' → i ≡ i'
      → Indexing cs es lines new c e i k → Indexing cs es lines new' c' e' i' k
  moved new new' c e i k c' e' i' p q r s inv =
      subst (λ v. Indexing cs es lines v c' e' i' k) p (subst (λ v. Indexing cs es lines new v e' i' k) q
      (subst (λ v. Indexing cs es lines new c v i' k) r (subst (λ v. Indexing cs es lines new c e v k) s inv)))

  pub indexing_class : (old new new' : List ClassPlace) (c e i k c' e' i' : ℕ) (line : FileLine) → k < length lines
      → line ≡ get_or lines k line → line.class_file ≡ true
      → Indexing cs es lines old c e i k → Grows cs es old new (of_class_file c (slice_get cs c)) → new ≡ new'
      → c + 1 ≡ c' → e ≡ e' → i ≡ i' → Indexing cs es lines new' c' e' i' (k + 1)
  indexing_class old new new' c e i k c' e' i' line l is t inv grows p q r s =
      moved new new' (c + 1) e i (k + 1) c' e' i' p q r s
      (step old new (of_class_file c (slice_get cs c)) c e i k (c + 1) e i inv grows
      (classes_next c e i k line l ∙ ap (λ b. if b then of_class_file c (slice_get cs c)
      ++ classes_from cs es (c + 1) e i (drop (k + 1) lines) else of_export_file i (slice_get es e)
      ++ classes_from cs es c (e + 1) (i + size (slice_get es e)) (drop (k + 1) lines))
      (ap (λ (v : FileLine). v.class_file) (sym is) ∙ t)))

  pub indexing_export : (old new new' : List ClassPlace) (c e i k c' e' i' : ℕ) (line : FileLine) → k < length lines
      → line ≡ get_or lines k line → line.class_file ≡ false
      → Indexing cs es lines old c e i k → Grows cs es old new (of_export_file i (slice_get es e)) → new ≡ new' → c ≡ c'
      → e + 1 ≡ e' → i + size (slice_get es e) ≡ i' → Indexing cs es lines new' c' e' i' (k + 1)
  indexing_export old new new' c e i k c' e' i' line l is t inv grows p q r s =
      moved new new' c (e + 1) (i + size (slice_get es e)) (k + 1) c' e' i' p q r s
      (step old new (of_export_file i (slice_get es e)) c e i k c (e + 1) (i + size (slice_get es e)) inv grows
      (classes_next c e i k line l ∙ ap (λ b. if b then of_class_file c (slice_get cs c)
      ++ classes_from cs es (c + 1) e i (drop (k + 1) lines) else of_export_file i (slice_get es e)
      ++ classes_from cs es c (e + 1) (i + size (slice_get es e)) (drop (k + 1) lines))
      (ap (λ (v : FileLine). v.class_file) (sym is) ∙ t)))

  pub indexing_ends : (spots : List ClassPlace) (c e i k : ℕ) → Indexing cs es lines spots c e i k → length lines ≤ k
      → length spots < 2 ^ 32 → IsIndexed lines cs es spots
  unfolding classes_from
  indexing_ends spots c e i k inv past few =
      let none : drop k lines ≡ [] = grind (arith, common_steps) in
      let all : stood cs es spots ≡ classes_from cs es 0 0 0 lines = sym (append-nil (stood cs es spots))
      ∙ ap (λ ls. stood cs es spots ++ classes_from cs es c e i ls) (sym none) ∙ inv.all in
      record {
        all = all;
        count = inv.count ∙ ap length all;
        few = few;
        counted = subst (λ s. All IsCounted s) all
            inv.counted;
      }
