-- Which rule is answered for a list and its files.
use Rattle.std.proofs.Common.{◌≡◌, ◌∙◌, ℕ, List, [], refl, ap, subst, inl, inr}
use Rattle.cjc_captree.specs.Bytes.Breaks.{Among, Break, IsFirst, IsFirstRefusal}
use Rattle.cjc_captree.specs.Bytes.Order.{NotAfter}
use Rattle.cjc_captree.specs.Bytes.declared.fault.Fault.{Fault}
use Rattle.cjc_captree.specs.Bytes.declared.fault.Refusal.{Refusal}
use Rattle.cjc_shape_proof.specs.Components.Limits.{else_of, form_breaks, of_methods, size_breaks}
use Rattle.cjc_shape_proof.specs.LowerIntPackage.Limits.{limit_breaks_by_modes, word_breaks_by_modes}
use Rattle.cjc_shape_proof.specs.Components.Package.{Package}
use Rattle.cjc_shape_proof.specs.LowerJudge.Judged.{IsStopped}
use Rattle.cjc_shape_proof.specs.LowerJudge.Rules.{Breach, IsFirstBroken, IsFirstOf, OnLevels, on_first, on_second}
use Rattle.cjc_shape_proof.specs.LowerJudge.declared.judged.Judged.{Judged}
use Rattle.cjc_captree.specs.List.Listed.{ListTree}
use Rattle.cjc_shape_proof.specs.LowerShape.Prepared.{IsSound, tested}
use Rattle.cjc_shape_proof.specs.LowerShape.Whole.Conversion.{BreaksWritten, HasModes, IsPackageByModesOf}
use Rattle.cjc_shape_proof.specs.LowerShape.Whole.Conversion.{IsRefused, of_form, of_size}
use Rattle.cjc_shape_proof.specs.LowerShape.Whole.Working.Shaped.{Stopped}
use Rattle.cjc_shape_proof.proofs.ShapeOne.{one_package}
use Rattle.cjc_shape_proof.proofs.ShapeCodes.{draft_has, package_is_draft}
use Rattle.cjc_shape_proof.proofs.ShapeSecond.{both_none, draft_forms, draft_words, else_same, none_of_form}
use Rattle.cjc_shape_proof.proofs.BytesBrokenRules.{no_among}

module _ (list : ListTree) (files : List (List ℕ)) where
  -- ---- a rule that the files break

  by_files : (r : Refusal) → IsFirstBroken list files tested r → IsRefused list files r
  by_files r f = record {
    broken = f.broken;
    first = record {
      breaks = on_first (let first = f.first in first.breaks);
      least = least;
    };
    is = f.is;
  }
    where
      least : (a : Break) → OnLevels (Breach list files tested) (BreaksWritten list files) a
          → (let b = f.broken in NotAfter b.rank a.rank)
      least a (on_first breach) = let first = f.first in first.least a breach
      least a (on_second none written) = let first = f.first in absurd (none f.broken first.breaks)

  pub stopped_by_files : (e : Fault) → IsStopped list files tested e → Stopped list files e
  stopped_by_files e (inl memory) = inl memory
  stopped_by_files e (inr (r, first, is)) = inr (r, by_files r first, is)

  -- ---- 411 and 416

  module _ (judged : Judged) (is : IsSound list files judged) (p : Package) (whole : IsPackageByModesOf list files p)
      (none : of_methods p (word_breaks_by_modes whole.tables p) ≡ []) (fine : form_breaks p ≡ []) where
    has : HasModes list.ints judged.world whole.tables
    has = draft_has list files judged is p (package_is_draft list files p whole)

    of_sizes : (a : Break) → BreaksWritten list files a → Among a (size_breaks p)
    of_sizes a (of_form q e among) =
        let same = else_same _ _ _ _ (draft_words list files judged is whole.tables has q e)
        (draft_forms list files judged is whole.tables has q e) in
        absurd (no_among a (subst (λ bs. Among a bs)
        (same ∙ none_of_form list files judged is whole.tables has p whole none fine) among))
    of_sizes a (of_size q of_package n f among) = subst (λ r. Among a (size_breaks r)) (one_package list files judged is
        q p of_package whole) among

    first_of : (b : Break) → IsFirst b (size_breaks p)
        → IsFirstOf (OnLevels (Breach list files tested) (BreaksWritten list files)) b
    first_of b first = record {
      breaks = on_second (let j = is.judged_by in j.unbroken) (of_size p whole none fine
          first.among);
      least = least;
    }
      where
        least : (a : Break) → OnLevels (Breach list files tested) (BreaksWritten list files) a → NotAfter b.rank a.rank
        least a (on_first breach) = absurd (let j = is.judged_by in j.unbroken a breach)
        least a (on_second n written) = first.least a (of_sizes a written)

    pub stopped_by_sizes : (e : Fault) → IsFirstRefusal (size_breaks p) e → Stopped list files e
    stopped_by_sizes e (inl memory) = inl memory
    stopped_by_sizes e (inr (b, first, refused)) = inr (
      b.refusal,
      record {
        broken = b;
        first = first_of b first;
        is = refl;
      },
      refused,
    )

    pub keeps_limits : size_breaks p ≡ [] → limit_breaks_by_modes whole.tables p ≡ []
    keeps_limits small = ap (λ bs. else_of bs (else_of (form_breaks p) (size_breaks p))) none
        ∙ ap (λ bs. else_of bs (size_breaks p)) fine ∙ small

-- ---- nothing of what is written

-- a package that breaks no limit breaks nothing of the second level
pub none_written : (list : ListTree) (files : List (List ℕ)) (judged : Judged) → IsSound list files judged
    → (p : Package) (whole : IsPackageByModesOf list files p) → limit_breaks_by_modes whole.tables p ≡ [] → (a : Break)
    → BreaksWritten list files a → ⊥
none_written list files judged is p whole none a broken =
    let one = both_none (of_methods p (word_breaks_by_modes whole.tables p)) (else_of (form_breaks p) (size_breaks p))
    none in
    let two = both_none (form_breaks p) (size_breaks p) one.1 in
    no_among a (subst (λ bs. Among a bs) two.1 (of_sizes list files judged is p whole one.0 two.0 a broken))
