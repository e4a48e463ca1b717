-- The first of lists that are put together, and of what is broken.
use Rattle.std.proofs.Common.{◌≡◌, ℕ, suc, ◌<◌, ◌≤◌, ◌+◌, refl, sym, ap, ◌∙◌, arith, List, [], ◌∷◌, ◌++◌, length}
use Rattle.std.proofs.Common.{get_or, drop, add-one}
use Rattle.std.specs.Prelude.{map, Bool, true, false, Some, None, option_map, slice_get, if◌then◌else◌}
use Rattle.cjc_bytes.specs.Breaks.{Break}
use Rattle.cjc_bytes.specs.declared.order.FileKey.{FileKey}
use Rattle.cjc_bytes.specs.declared.order.FileKey.TheVariants as keys
use Rattle.cjc_bytes.specs.declared.settings.FileLine.{FileLine}
use Rattle.cjc_export.specs.declared.tree.ExportClass.{ExportClass}
use Rattle.cjc_world.specs.Files.{Files}
use Rattle.std.proofs.Math.Seq.{drop-cons}
use Rattle.std.proofs.lemmas.Grind.{common_steps}
use Rattle.cjc_world.specs.Classes.{Member, Class, imported, numbered, size}
use Rattle.cjc_world.specs.Rules.{head, at_member, told, members, members_before, member_rules, members_from}
use Rattle.cjc_world.specs.Rules.{class_breaks, classes_breaks, class_file_breaks, export_file_breaks, breaks_from}

pub head_some : {A : Type 0} (xs ys : List A) (x : A) → head xs ≡ Some x → head (xs ++ ys) ≡ Some x
unfolding head
head_some [] ys x e = cc
head_some (y ∷ xs) ys x e = e

pub head_none : {A : Type 0} (xs ys : List A) → head xs ≡ None → head (xs ++ ys) ≡ head ys
unfolding head
head_none [] ys e = refl
head_none (y ∷ xs) ys e = cc

pub head_empty : {A : Type 0} (xs : List A) → head xs ≡ None → xs ≡ []
unfolding head
head_empty [] e = refl
head_empty (x ∷ xs) e = cc

pub head_of_map : {A B : Type 0} (f : A → B) (xs : List A) → head (map f xs) ≡ option_map f (head xs)
unfolding head
head_of_map f [] = refl
head_of_map f (x ∷ xs) = refl

-- ---- members

module _ (file : FileKey) (file_name : List ℕ) (class : ℕ) (w : List Class) (c : Class) (field : Bool) (i : ℕ)
    (ms : List Member) where
  next : (d : Member) → i < length ms → members_from file file_name class w c field i (drop i ms)
      ≡ map (λ rule. at_member file file_name class c.name (members_before field c + i + 1)
      (told field (get_or ms i d).name (get_or ms i d).desc) rule) (member_rules w c (members field c) i
      (get_or ms i d).name (get_or ms i d).desc) ++ members_from file file_name class w c field (i + 1)
      (drop (i + 1) ms)
  unfolding members_from
  next d l = ap (members_from file file_name class w c field i) (drop-cons ms i d l)
      ∙ ap (λ n. map (λ rule. at_member file file_name class c.name (members_before field c + i + 1)
      (told field (get_or ms i d).name (get_or ms i d).desc) rule) (member_rules w c (members field c) i
      (get_or ms i d).name (get_or ms i d).desc) ++ members_from file file_name class w c field (i + 1) (drop n ms))
      (sym (add-one i))

  pub member_breaks : (d : Member) (rule : ℕ) → i < length ms
      → Some rule ≡ head (member_rules w c (members field c) i (get_or ms i d).name (get_or ms i d).desc)
      → head (members_from file file_name class w c field i (drop i ms))
      ≡ Some (at_member file file_name class c.name (members_before field c + i + 1)
      (told field (get_or ms i d).name (get_or ms i d).desc) rule)
  member_breaks d rule l e =
      let f = λ (rule : ℕ). at_member file file_name class c.name (members_before field c + i + 1)
      (told field (get_or ms i d).name (get_or ms i d).desc) rule in
      let rules = member_rules w c (members field c) i (get_or ms i d).name (get_or ms i d).desc in
      ap head (next d l) ∙ head_some (map f rules) (members_from file file_name class w c field (i + 1)
      (drop (i + 1) ms)) (f rule) (head_of_map f rules ∙ ap (option_map f) (sym e))

  pub member_keeps : (d : Member) → i < length ms
      → None ≡ head (member_rules w c (members field c) i (get_or ms i d).name (get_or ms i d).desc)
      → head (members_from file file_name class w c field i (drop i ms))
      ≡ head (members_from file file_name class w c field (i + 1) (drop (i + 1) ms))
  member_keeps d l e =
      let f = λ (rule : ℕ). at_member file file_name class c.name (members_before field c + i + 1)
      (told field (get_or ms i d).name (get_or ms i d).desc) rule in
      let rules = member_rules w c (members field c) i (get_or ms i d).name (get_or ms i d).desc in
      ap head (next d l) ∙ head_none (map f rules) (members_from file file_name class w c field (i + 1)
      (drop (i + 1) ms)) (head_of_map f rules ∙ ap (option_map f) (sym e))

  pub members_end : length ms ≤ i → head (members_from file file_name class w c field i (drop i ms)) ≡ None
  unfolding members_from head
  members_end l = let e : drop i ms ≡ [] = grind (arith, common_steps)
      in ap (λ ms. head (members_from file file_name class w c field i ms)) e

-- ---- classes of an export file

module _ (p : List ℕ) (file : FileKey) (file_name : List ℕ) (w : List Class) (n : ℕ) (xs : List ExportClass) (i : ℕ)
  where
    classes_at : (x : ExportClass) → i < length xs → x ≡ get_or xs i x
        → classes_breaks p file file_name (i + 1) w (numbered (n + i) (drop i xs)) ≡ class_breaks p file file_name
        (i + 1)
        w (imported (n + i) x) ++ classes_breaks p file file_name (i + 1 + 1) w (numbered (n + (i + 1))
        (drop (i + 1) xs))
    unfolding classes_breaks
    classes_at x l is =
        let split : drop i xs ≡ x ∷ drop (i + 1) xs = drop-cons xs i x l ∙ ap (λ y. y ∷ drop (suc i) xs) (sym is)
        ∙ ap (λ m. x ∷ drop m xs) (sym (add-one i)) in
        let shift : n + i + 1 ≡ n + (i + 1) = omega arith in
        ap (λ ys. classes_breaks p file file_name (i + 1) w (numbered (n + i) ys)) split
        ∙ ap (λ m. class_breaks p file file_name (i + 1) w (imported (n + i) x)
        ++ classes_breaks p file file_name (i + 1 + 1) w (numbered m (drop (i + 1) xs))) shift

    pub classes_break_here : (x : ExportClass) (b : Break) → i < length xs → x ≡ get_or xs i x
        → Some b ≡ head (class_breaks p file file_name (i + 1) w (imported (n + i) x))
        → head (classes_breaks p file file_name (i + 1) w (numbered (n + i) (drop i xs))) ≡ Some b
    classes_break_here x b l is e = ap head (classes_at x l is)
        ∙ head_some (class_breaks p file file_name (i + 1) w (imported (n + i) x)) (classes_breaks p file file_name
        (i + 1 + 1) w (numbered (n + (i + 1)) (drop (i + 1) xs))) b (sym e)

    pub classes_go_on : (x : ExportClass) → i < length xs → x ≡ get_or xs i x
        → None ≡ head (class_breaks p file file_name (i + 1) w (imported (n + i) x))
        → head (classes_breaks p file file_name (i + 1) w (numbered (n + i) (drop i xs)))
        ≡ head (classes_breaks p file file_name (i + 1 + 1) w (numbered (n + (i + 1)) (drop (i + 1) xs)))
    classes_go_on x l is e = ap head (classes_at x l is)
        ∙ head_none (class_breaks p file file_name (i + 1) w (imported (n + i) x)) (classes_breaks p file file_name
        (i + 1 + 1) w (numbered (n + (i + 1)) (drop (i + 1) xs))) (sym e)

    pub classes_end : length xs ≤ i → head (classes_breaks p file file_name (i + 1) w (numbered (n + i) (drop i xs)))
        ≡ None
    unfolding classes_breaks head
    classes_end l = let e : drop i xs ≡ [] = grind (arith, common_steps)
        in ap (λ xs. head (classes_breaks p file file_name (i + 1) w (numbered (n + i) xs))) e

-- ---- files

module _ (files : Files) (w : List Class) (k c e i : ℕ) where
  lines_at : (line : FileLine) → k < length files.lines → line ≡ get_or files.lines k line
      → breaks_from files w k c e i (drop k files.lines) ≡
      (if line.class_file
      then class_file_breaks files (keys.Line k) line.name w c (slice_get files.classes c)
      ++ breaks_from files w (k + 1) (c + 1) e i (drop (k + 1) files.lines)
      else export_file_breaks files (keys.Line k) line.name w e i (slice_get files.exports e)
      ++ breaks_from files w (k + 1) c (e + 1) (i + size (slice_get files.exports e)) (drop (k + 1) files.lines))
  unfolding breaks_from
  lines_at line l is =
      let split : drop k files.lines ≡ line ∷ drop (k + 1) files.lines = drop-cons files.lines k line l
      ∙ ap (λ y. y ∷ drop (suc k) files.lines) (sym is) ∙ ap (λ m. line ∷ drop m files.lines) (sym (add-one k)) in
      ap (λ ls. breaks_from files w k c e i ls) split

  class_line : (line : FileLine) → k < length files.lines → line ≡ get_or files.lines k line → line.class_file ≡ true
      → breaks_from files w k c e i (drop k files.lines) ≡ class_file_breaks files (keys.Line k) line.name w c
      (slice_get files.classes c) ++ breaks_from files w (k + 1) (c + 1) e i (drop (k + 1) files.lines)
  class_line line l is t = lines_at line l is ∙ ap (λ b. if b then class_file_breaks files (keys.Line k) line.name w c
      (slice_get files.classes c) ++ breaks_from files w (k + 1) (c + 1) e i (drop (k + 1) files.lines)
      else export_file_breaks files (keys.Line k) line.name w e i (slice_get files.exports e)
      ++ breaks_from files w (k + 1) c (e + 1) (i + size (slice_get files.exports e)) (drop (k + 1) files.lines)) t

  export_line : (line : FileLine) → k < length files.lines → line ≡ get_or files.lines k line → line.class_file ≡ false
      → breaks_from files w k c e i (drop k files.lines) ≡ export_file_breaks files (keys.Line k) line.name w e i
      (slice_get files.exports e) ++ breaks_from files w (k + 1) c (e + 1) (i + size (slice_get files.exports e))
      (drop (k + 1) files.lines)
  export_line line l is t = lines_at line l is ∙ ap (λ b. if b then class_file_breaks files (keys.Line k) line.name w c
      (slice_get files.classes c) ++ breaks_from files w (k + 1) (c + 1) e i (drop (k + 1) files.lines)
      else export_file_breaks files (keys.Line k) line.name w e i (slice_get files.exports e)
      ++ breaks_from files w (k + 1) c (e + 1) (i + size (slice_get files.exports e)) (drop (k + 1) files.lines)) t

  pub class_line_breaks : (line : FileLine) (name : List ℕ) (b : Break) → k < length files.lines
      → line ≡ get_or files.lines k line → line.class_file ≡ true → name ≡ line.name
      → Some b ≡ head (class_file_breaks files (keys.Line k) name w c (slice_get files.classes c))
      → head (breaks_from files w k c e i (drop k files.lines)) ≡ Some b
  class_line_breaks line name b l is t n f = ap head (class_line line l is t)
      ∙ head_some (class_file_breaks files (keys.Line k) line.name w c (slice_get files.classes c))
      (breaks_from files w (k + 1) (c + 1) e i (drop (k + 1) files.lines)) b
      (ap (λ name. head (class_file_breaks files (keys.Line k) name w c (slice_get files.classes c))) (sym n) ∙ sym f)

  pub class_line_keeps : (line : FileLine) (name : List ℕ) (c' e' i' : ℕ) → k < length files.lines
      → line ≡ get_or files.lines k line → line.class_file ≡ true → name ≡ line.name
      → None ≡ head (class_file_breaks files (keys.Line k) name w c (slice_get files.classes c)) → c + 1 ≡ c' → e ≡ e'
      → i ≡ i' → head (breaks_from files w k c e i (drop k files.lines))
      ≡ head (breaks_from files w (k + 1) c' e' i' (drop (k + 1) files.lines))
  class_line_keeps line name c' e' i' l is t n f q r s = ap head (class_line line l is t)
      ∙ head_none (class_file_breaks files (keys.Line k) line.name w c (slice_get files.classes c))
      (breaks_from files w (k + 1) (c + 1) e i (drop (k + 1) files.lines))
      (ap (λ name. head (class_file_breaks files (keys.Line k) name w c (slice_get files.classes c))) (sym n) ∙ sym f)
      ∙ ap (λ c. head (breaks_from files w (k + 1) c e i (drop (k + 1) files.lines))) q
      ∙ ap (λ e. head (breaks_from files w (k + 1) c' e i (drop (k + 1) files.lines))) r
      ∙ ap (λ i. head (breaks_from files w (k + 1) c' e' i (drop (k + 1) files.lines))) s

  pub export_line_breaks : (line : FileLine) (name : List ℕ) (b : Break) → k < length files.lines
      → line ≡ get_or files.lines k line → line.class_file ≡ false → name ≡ line.name
      → Some b ≡ head (export_file_breaks files (keys.Line k) name w e i (slice_get files.exports e))
      → head (breaks_from files w k c e i (drop k files.lines)) ≡ Some b
  export_line_breaks line name b l is t n f = ap head (export_line line l is t)
      ∙ head_some (export_file_breaks files (keys.Line k) line.name w e i (slice_get files.exports e))
      (breaks_from files w (k + 1) c (e + 1) (i + size (slice_get files.exports e)) (drop (k + 1) files.lines)) b
      (ap (λ name. head (export_file_breaks files (keys.Line k) name w e i (slice_get files.exports e))) (sym n)
      ∙ sym f)

  pub export_line_keeps : (line : FileLine) (name : List ℕ) (c' e' i' : ℕ) → k < length files.lines
      → line ≡ get_or files.lines k line → line.class_file ≡ false → name ≡ line.name
      → None ≡ head (export_file_breaks files (keys.Line k) name w e i (slice_get files.exports e)) → c ≡ c'
      → e + 1 ≡ e' → i + size (slice_get files.exports e) ≡ i'
      → head (breaks_from files w k c e i (drop k files.lines))
      ≡ head (breaks_from files w (k + 1) c' e' i' (drop (k + 1) files.lines))
  export_line_keeps line name c' e' i' l is t n f q r s = ap head (export_line line l is t)
      ∙ head_none (export_file_breaks files (keys.Line k) line.name w e i (slice_get files.exports e))
      (breaks_from files w (k + 1) c (e + 1) (i + size (slice_get files.exports e)) (drop (k + 1) files.lines))
      (ap (λ name. head (export_file_breaks files (keys.Line k) name w e i (slice_get files.exports e))) (sym n)
      ∙ sym f)
      ∙ ap (λ m. head (breaks_from files w (k + 1) m (e + 1) (i + size (slice_get files.exports e))
      (drop (k + 1) files.lines))) q
      ∙ ap (λ m. head (breaks_from files w (k + 1) c' m (i + size (slice_get files.exports e))
      (drop (k + 1) files.lines))) r
      ∙ ap (λ m. head (breaks_from files w (k + 1) c' e' m (drop (k + 1) files.lines))) s

  pub lines_end : length files.lines ≤ k → head (breaks_from files w k c e i (drop k files.lines)) ≡ None
  unfolding breaks_from head
  lines_end l = let none : drop k files.lines ≡ [] = grind (arith, common_steps)
      in ap (λ ls. head (breaks_from files w k c e i ls)) none
