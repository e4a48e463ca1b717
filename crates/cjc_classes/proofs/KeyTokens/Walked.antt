-- From a class of the package to the one above it.
use Rattle.std.proofs.Common.{◌≡◌, ◌∙◌, ℕ, ◌<◌, true, false, List, ◌∷◌, length, refl, sym, ap, subst, Option, Some}
use Rattle.std.proofs.Common.{None}
use Rattle.std.specs.Prelude.{if◌then◌else◌, slice_get}
use Rattle.std.proofs.lemmas.Option.{slice_get_within}
use Rattle.cjc_world.specs.ClassFile.declared.tree.ClassTree.{ClassTree}
use Rattle.cjc_world.specs.Files.{Files}
use Rattle.cjc_world.specs.Added.{added}
use Rattle.cjc_world.specs.Classes.{Class, all_classes, class_named, declared}
use Rattle.cjc_world.specs.Supertypes.{AreSupertypes, Supertypes, supertypes, upwards}
use Rattle.cjc_tokens.specs.Lines.{Declared, Imported, Line, Nowhere, line_at, line_in, line_of}
use Rattle.cjc_tokens.specs.Members.{Signature}
use Rattle.cjc_tokens.specs.Slots.{shown_token}
use Rattle.cjc_tokens.proofs.Supers.{class_at-number, line-known}
use Rattle.cjc_tokens.proofs.Walks.{supertypes-unknown}
use Rattle.cjc_components.specs.LowerVTable.Calls.{finds_hidden}
use Rattle.cjc_classes.specs.Walks.{IsHiddenHere, IsShownHere, TellsHidden}
use Rattle.cjc_classes.proofs.KeyTokens.Lines.{hidden_above, hidden_found, hidden_none, shown_above}

-- one class at a place
same_there : {A : Type 0} (xs : List A) (n : ℕ) (x y : A) → slice_get xs n ≡ Some x → slice_get xs n ≡ Some y → x ≡ y
same_there xs n x y e f = let g : Some x ≡ Some y = sym e ∙ f in cc

-- what the class at which a walk stands tells, the first tells
abbrev pub HiddenSoFar : Files → Signature → (first at : ℕ) → Type 0
HiddenSoFar files s n k = (c d : ClassTree) → slice_get files.classes n ≡ Some c → slice_get files.classes k ≡ Some d
    → (o : Option ℕ) → TellsHidden (line_at (all_classes files) (declared k d)) s o
    → TellsHidden (line_at (all_classes files) (declared n c)) s o

abbrev pub ShownSoFar : Files → Signature → (first at : ℕ) → Type 0
ShownSoFar files s n k = (c d : ClassTree) → slice_get files.classes n ≡ Some c → slice_get files.classes k ≡ Some d
    → shown_token (line_at (all_classes files) (declared k d)) s
    ≡ shown_token (line_at (all_classes files) (declared n c)) s

module _ (files : Files) (are_supertypes : (xs : List (List ℕ))
    → AreSupertypes (all_classes files) xs (supertypes (all_classes files) xs)) (one_supertypes : (xs : List (List ℕ))
    (j k : Supertypes) → AreSupertypes (all_classes files) xs j → AreSupertypes (all_classes files) xs k
    → j ≡ k) (s : Signature) where
  abbrev w : List Class
  w = all_classes files

  -- ---- lines

  pub unknown_line : (x : List ℕ) → class_named (all_classes files) x ≡ None → line_of (all_classes files) x ≡ Nowhere
  unknown_line x e = ap (line_in w) (supertypes-unknown w are_supertypes one_supertypes x e)

  pub known_line : (x : List ℕ) (d : Class) → class_named (all_classes files) x ≡ Some d → line_of (all_classes files) x
      ≡ line_at (all_classes files) d
  known_line x d e = line-known files are_supertypes one_supertypes x d e

  pub imported_line : (d : Class) → d.is_imported ≡ true → line_at (all_classes files) d
      ≡ Imported (d ∷ upwards (supertypes (all_classes files) d.supers))
  imported_line d e = ap (λ b. if b then Imported (d ∷ upwards (supertypes w d.supers))
      else Declared d (added w d) (line_in w (supertypes w d.supers))) e

  -- a class of the package by its number
  pub by_number : (x : List ℕ) (n : ℕ) (t u : ClassTree) → class_named (all_classes files) x ≡ Some (declared n t)
      → slice_get files.classes n ≡ Some u → declared n u ≡ declared n t
  by_number x n t u e f =
      let a = class_at-number files x (declared n t) e refl in
      ap (declared n) (same_there files.classes n u a.0 f a.1) ∙ sym a.2

  pub number_within : (x : List ℕ) (n : ℕ) (t : ClassTree) → class_named (all_classes files) x ≡ Some (declared n t)
      → n < length files.classes
  number_within x n t e = let a = class_at-number files x (declared n t) e refl in slice_get_within files.classes n a.0
      a.1

  pub named_there : (x : List ℕ) (n : ℕ) (t : ClassTree) → class_named (all_classes files) x ≡ Some (declared n t)
      → (u : ClassTree) × (slice_get files.classes n ≡ Some u)
      × (line_of (all_classes files) x ≡ line_at (all_classes files) (declared n u))
  named_there x n t e =
      let a = class_at-number files x (declared n t) e refl in
      (a.0, a.1, known_line x (declared n t) e ∙ ap (line_at w) a.2)

  -- ---- package-visible methods

  pub hidden_first : (n : ℕ) → HiddenSoFar files s n n
  hidden_first n = λ c d e f o h. subst (λ (t : ClassTree). TellsHidden (line_at w (declared n t)) s o)
      (same_there files.classes n d c f e) h

  pub hidden_here : (n k : ℕ) (c d : ClassTree) (o : Option ℕ) → HiddenSoFar files s n k → slice_get files.classes n
      ≡ Some c → slice_get files.classes k ≡ Some d → IsHiddenHere (all_classes files) (declared k d) s (Some o)
      → TellsHidden (line_at (all_classes files) (declared n c)) s o
  hidden_here n k c d None so e f h = so c d e f None (hidden_none (declared k d) (added w (declared k d))
      (line_of w d.superclass) s h.0 h.1 h.2)
  hidden_here n k c d (Some t) so e f h = so c d e f (Some t) (
    hidden_found (declared k d) (added w (declared k d))
        (line_of w d.superclass) s h.0 h.1 h.2,
    h.3,
  )

  pub hidden_next : (n k m : ℕ) (d t : ClassTree) → HiddenSoFar files s n k → slice_get files.classes k ≡ Some d
      → IsHiddenHere (all_classes files) (declared k d) s None → class_named (all_classes files) d.superclass
      ≡ Some (declared m t) → HiddenSoFar files s n m
  hidden_next n k m d t so f none named = λ c u e g o h.
      so c d e f o (hidden_above (declared k d) (added w (declared k d)) (line_of w d.superclass) s o none
      (subst (λ (l : Line). TellsHidden l s o) (sym (known_line d.superclass (declared m t) named))
      (subst (λ (x : Class). TellsHidden (line_at w x) s o) (by_number d.superclass m t u named g) h)))

  -- no class of the package stands above
  pub hidden_last : (n k : ℕ) (c d : ClassTree) → HiddenSoFar files s n k → slice_get files.classes n ≡ Some c
      → slice_get files.classes k ≡ Some d → IsHiddenHere (all_classes files) (declared k d) s None
      → ((e : Class) → class_named (all_classes files) d.superclass ≡ Some e → e.is_imported ≡ true)
      → TellsHidden (line_at (all_classes files) (declared n c)) s None
  hidden_last n k c d so e f none outside = so c d e f None (hidden_above (declared k d) (added w (declared k d))
      (line_of w d.superclass) s None none (by (class_named w d.superclass) refl))
    where
      by : (o : Option Class) → class_named w d.superclass ≡ o → finds_hidden (line_of w d.superclass) s ≡ false
      by None g = ap (λ (l : Line). finds_hidden l s) (unknown_line d.superclass g)
      by (Some x) g = ap (λ (l : Line). finds_hidden l s) (known_line d.superclass x g ∙ imported_line x (outside x g))

  -- ---- public and protected methods

  pub shown_first : (n : ℕ) → ShownSoFar files s n n
  shown_first n = λ c d e f. ap (λ (t : ClassTree). shown_token (line_at w (declared n t)) s)
      (same_there files.classes n d c f e)

  above_it : (k : ℕ) (d : ClassTree) → IsShownHere w (declared k d) s None → shown_token (line_at w (declared k d)) s
      ≡ shown_token (line_of w d.superclass) s
  above_it k d h = shown_above (declared k d) (added w (declared k d)) (line_of w d.superclass) s h.0 h.1

  pub shown_next : (n k m : ℕ) (d t : ClassTree) → ShownSoFar files s n k → slice_get files.classes k ≡ Some d
      → IsShownHere (all_classes files) (declared k d) s None → class_named (all_classes files) d.superclass
      ≡ Some (declared m t) → ShownSoFar files s n m
  shown_next n k m d t so f none named = λ c u e g.
      ap (λ (x : Class). shown_token (line_at w x) s) (by_number d.superclass m t u named g)
      ∙ ap (λ (l : Line). shown_token l s) (sym (known_line d.superclass (declared m t) named))
      ∙ sym (above_it k d none)
      ∙ so c d e f

  pub shown_none : (n k : ℕ) (c d : ClassTree) → ShownSoFar files s n k → slice_get files.classes n ≡ Some c
      → slice_get files.classes k ≡ Some d → IsShownHere (all_classes files) (declared k d) s None
      → class_named (all_classes files) d.superclass ≡ None
      → shown_token Nowhere s ≡ shown_token (line_at (all_classes files) (declared n c)) s
  shown_none n k c d so e f none named = ap (λ (l : Line). shown_token l s) (sym (unknown_line d.superclass named))
      ∙ sym (above_it k d none) ∙ so c d e f

  pub shown_imported : (n k : ℕ) (c d : ClassTree) (x : Class) → ShownSoFar files s n k → slice_get files.classes n
      ≡ Some c → slice_get files.classes k ≡ Some d → IsShownHere (all_classes files) (declared k d) s None
      → class_named (all_classes files) d.superclass ≡ Some x
      → shown_token (line_at (all_classes files) x) s ≡ shown_token (line_at (all_classes files) (declared n c)) s
  shown_imported n k c d x so e f none named = ap (λ (l : Line). shown_token l s)
      (sym (known_line d.superclass x named)) ∙ sym (above_it k d none) ∙ so c d e f
