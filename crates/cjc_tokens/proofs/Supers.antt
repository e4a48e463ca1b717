-- The line of a superclass.
use Rattle.std.proofs.Common.{◌≡◌, ℕ, ◌+◌, refl, sym, ap, subst, ◌∙◌, Bool, true, false, List, [], ◌∷◌, ◌++◌, inl, inr}
use Rattle.std.proofs.Common.{⊎_elim, set}
use Rattle.std.specs.Prelude.{Option, Some, None, ◌⊎◌, if◌then◌else◌, slice_get}
use Rattle.std.specs.Str.{bytes_eq}
use Rattle.cjc_bytes.specs.declared.settings.FileLine.{FileLine}
use Rattle.cjc_world.specs.ClassFile.declared.tree.ClassTree.{ClassTree}
use Rattle.cjc_world.specs.ExportFile.declared.tree.ExportClass.{ExportClass}
use Rattle.cjc_world.specs.ExportFile.declared.tree.ExportTree.{ExportTree}
use Rattle.cjc_world.specs.Files.{Files}
use Rattle.cjc_world.specs.Classes.{Class, declared, imported, numbered, size, of_class_file, of_export_file}
use Rattle.cjc_world.specs.Classes.{classes_from, all_classes, class_named}
use Rattle.cjc_world.specs.Supertypes.{Supertypes, supertypes, AreSupertypes, upwards}
use Rattle.cjc_world.specs.Added.{added}
use Rattle.cjc_tokens.specs.declared.slot.Rows.{Rows}
use Rattle.cjc_tokens.specs.Lines.{Line, Imported, Declared, line_in, line_at}
use Rattle.cjc_tokens.specs.Working.{AreRowsOf, IsKept, SameRows, methods_in, signs}
use Rattle.cjc_tokens.proofs.Walks.{slice_get-set, supertypes-known, supertypes-unknown}

-- ---- a class of the package is the tree at its number

-- the class stands among these trees
At : List ClassTree → Class → Type 0
At trees d = (t : ClassTree) × (slice_get trees d.number ≡ Some t) × (d ≡ declared d.number t)

named-either : (a b : List Class) (x : List ℕ) (d : Class) → class_named (a ++ b) x ≡ Some d
    → (class_named a x ≡ Some d) ⊎ (class_named b x ≡ Some d)
unfolding class_named
named-either [] b x d e = inr e
named-either (c ∷ a) b x d e = by (bytes_eq c.name x) e (named-either a b x d)
  where
    by : (q : Bool) → (if q then Some c else class_named (a ++ b) x) ≡ Some d → (class_named (a ++ b) x ≡ Some d
        → (class_named a x ≡ Some d) ⊎ (class_named b x ≡ Some d)) → ((if q then Some c else class_named a x) ≡ Some d)
        ⊎ (class_named b x ≡ Some d)
    by true e rest = inl e
    by false e rest = rest e

numbered-imported : (n : ℕ) (cs : List ExportClass) (x : List ℕ) (d : Class) → class_named (numbered n cs) x ≡ Some d
    → d.is_imported ≡ true
unfolding class_named
numbered-imported n [] x d e = cc
numbered-imported n (c ∷ cs) x d e = by (bytes_eq c.name x) e (numbered-imported (n + 1) cs x d)
  where
    by : (q : Bool) → (if q then Some (imported n c) else class_named (numbered (n + 1) cs) x) ≡ Some d
        → (class_named (numbered (n + 1) cs) x ≡ Some d → d.is_imported ≡ true) → d.is_imported ≡ true
    by true e rest = let is : imported n c ≡ d = cc in ap (λ (q : Class). q.is_imported) (sym is)
    by false e rest = rest e

named-at : (trees : List ClassTree) (exports : List ExportTree) (c e i : ℕ) (lines : List FileLine) (x : List ℕ)
    (d : Class) → class_named (classes_from trees exports c e i lines) x ≡ Some d → d.is_imported ≡ false → At trees d
unfolding At class_named classes_from
named-at trees exports c e i [] x d f im = cc
named-at trees exports c e i (line ∷ lines) x d f im =
    by line.class_file f (named-at trees exports (c + 1) e i lines x d) (named-at trees exports c (e + 1)
    (i + size (slice_get exports e)) lines x d)
  where
    here_one : (o : Option ClassTree) → slice_get trees c ≡ o → class_named (of_class_file c o) x ≡ Some d
        → (t : ClassTree) × (slice_get trees d.number ≡ Some t) × (d ≡ declared d.number t)
    here_one None g h = cc
    here_one (Some t) g h = at (bytes_eq t.name x) h
      where
        at : (q : Bool) → (if q then Some (declared c t) else None) ≡ Some d → (t : ClassTree)
            × (slice_get trees d.number ≡ Some t) × (d ≡ declared d.number t)
        at true h =
            let is : declared c t ≡ d = cc in (
              t,
              subst (λ (q : Class). slice_get trees q.number ≡ Some t) is g,
              subst (λ (q : Class). q ≡ declared q.number t) is refl,
            )
        at false h = cc

    there : (o : Option ExportTree) → class_named (of_export_file i o) x ≡ Some d → d.is_imported ≡ true
    there None h = cc
    there (Some t) h = numbered-imported i t.classes x d h

    by : (b : Bool)
        → class_named (if b then of_class_file c (slice_get trees c) ++ classes_from trees exports (c + 1) e i lines
        else of_export_file i (slice_get exports e) ++ classes_from trees exports c (e + 1)
        (i + size (slice_get exports e)) lines) x ≡ Some d
        → (class_named (classes_from trees exports (c + 1) e i lines) x ≡ Some d → d.is_imported ≡ false
        → (t : ClassTree) × (slice_get trees d.number ≡ Some t) × (d ≡ declared d.number t))
        → (class_named (classes_from trees exports c (e + 1) (i + size (slice_get exports e)) lines) x ≡ Some d
        → d.is_imported ≡ false → (t : ClassTree) × (slice_get trees d.number ≡ Some t) × (d ≡ declared d.number t))
        → (t : ClassTree) × (slice_get trees d.number ≡ Some t) × (d ≡ declared d.number t)
    by true f r s = ⊎_elim (λ h. here_one (slice_get trees c) refl h) (λ h. r h im)
        (named-either (of_class_file c (slice_get trees c)) (classes_from trees exports (c + 1) e i lines) x d f)
    by false f r s = ⊎_elim (λ h. let yes' = there (slice_get exports e) h in cc) (λ h. s h im)
        (named-either (of_export_file i (slice_get exports e)) (classes_from trees exports c (e + 1)
        (i + size (slice_get exports e)) lines) x d f)

pub class_at-number : (files : Files) (x : List ℕ) (d : Class) → class_named (all_classes files) x ≡ Some d
    → d.is_imported ≡ false → (t : ClassTree) × (slice_get files.classes d.number ≡ Some t) × (d ≡ declared d.number t)
unfolding At all_classes
class_at-number files x d e im = named-at files.classes files.exports 0 0 0 files.lines x d e im

-- ---- rows of a line

pub same-rows : (line : Line) (r s : Rows) → AreRowsOf line r → SameRows r s → AreRowsOf line s
same-rows line r s a e = record {
  shown_slots = ap signs e.shown ∙ a.shown_slots;
  shown_methods = ap methods_in e.shown ∙ a.shown_methods;
  hidden_slots_are = ap signs e.hidden ∙ a.hidden_slots_are;
  hidden_methods = ap methods_in e.hidden ∙ a.hidden_methods;
}

module _ (files : Files) (are_supertypes : (xs : List (List ℕ))
    → AreSupertypes (all_classes files) xs (supertypes (all_classes files) xs)) (one_supertypes : (xs : List (List ℕ))
    (j k : Supertypes) → AreSupertypes (all_classes files) xs j → AreSupertypes (all_classes files) xs k → j ≡ k) where
  w : List Class
  w = all_classes files

  pub line-known : (x : List ℕ) (d : Class) → class_named (all_classes files) x ≡ Some d
      → line_in (all_classes files) (supertypes (all_classes files) (x ∷ [])) ≡ line_at (all_classes files) d
  line-known x d e = ap (line_in (all_classes files)) (supertypes-known (all_classes files) are_supertypes
      one_supertypes x d e)

  pub super-unknown : (x : List ℕ) (r : Rows) → class_named (all_classes files) x ≡ None → r.shown.items ≡ []
      → r.hidden.items ≡ [] → AreRowsOf (line_in (all_classes files) (supertypes (all_classes files) (x ∷ []))) r
  super-unknown x r e s h = subst (λ (q : Line). AreRowsOf q r)
      (sym (ap (line_in (all_classes files)) (supertypes-unknown (all_classes files) are_supertypes one_supertypes x
      e))) (record {
        shown_slots = ap signs s;
        shown_methods = ap methods_in s;
        hidden_slots_are = ap signs h;
        hidden_methods = ap methods_in h;
      })

  pub super-declared : (x : List ℕ) (n : ℕ) (t : ClassTree) (kept : List (Option Rows)) (r s : Rows)
      → class_named (all_classes files) x ≡ Some (declared n t) → IsKept (all_classes files) files.classes kept
      → slice_get kept n ≡ Some (Some r) → SameRows r s
      → AreRowsOf (line_in (all_classes files) (supertypes (all_classes files) (x ∷ []))) s
  super-declared x n t kept r s e k g same =
      let a = class_at-number files x (declared n t) e refl in
      subst (λ (q : Line). AreRowsOf q s) (sym (line-known x (declared n t) e ∙ ap (line_at (all_classes files)) a.2))
      (same-rows (line_at (all_classes files) (declared n a.0)) r s (k n a.0 r a.1 g) same)

  pub super-imported : (x : List ℕ) (d : Class) (s : Rows) → class_named (all_classes files) x ≡ Some d
      → d.is_imported ≡ true → AreRowsOf (Imported (d ∷ upwards (supertypes (all_classes files) d.supers))) s
      → AreRowsOf (line_in (all_classes files) (supertypes (all_classes files) (x ∷ []))) s
  super-imported x d s e im a =
      subst (λ (q : Line). AreRowsOf q s)
      (sym (line-known x d e ∙ ap (λ b. if b then Imported (d ∷ upwards (supertypes (all_classes files) d.supers))
      else Declared d (added (all_classes files) d) (line_in (all_classes files) (supertypes (all_classes files)
      d.supers))) im)) a

-- one class more has its rows
pub kept-set : (w : List Class) (trees : List ClassTree) (kept : List (Option Rows)) (i : ℕ) (r : Rows)
    → IsKept w trees kept → ((c : ClassTree) → slice_get trees i ≡ Some c → AreRowsOf (line_at w (declared i c)) r)
    → IsKept w trees (set kept i (Some r))
kept-set w trees kept i r k new n c s there e = ⊎_elim
    (λ h. let is : r ≡ s = one h.1 in subst (λ (q : Rows). AreRowsOf (line_at w (declared n c)) q) is
    (subst (λ q. AreRowsOf (line_at w (declared q c)) r) h.0 (new c (ap (slice_get trees) h.0 ∙ there))))
    (λ h. k n c s there h)
    (slice_get-set kept i n (Some r) (Some s) e)
  where
    one : Some r ≡ Some s → r ≡ s
    one e = cc
