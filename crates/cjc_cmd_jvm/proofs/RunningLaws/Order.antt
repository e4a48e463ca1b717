-- The first of what a package and its script break.
use Rattle.std.proofs.Common.{◌≡◌, ◌⊎◌, inl, inr, ℕ, ◌≤◌, ◌^◌, List, refl, sym, ap, subst, ◌∙◌, arith, Result, Ok, Err}
use Rattle.cjc_shelf.specs.Bytes.Breaks.{Break}
use Rattle.cjc_shelf.specs.Bytes.Order.{NotAfter}
use Rattle.cjc_shelf.specs.Bytes.Refused.{IsUnlessNoMemory}
use Rattle.cjc_shelf.specs.Bytes.declared.fault.Fault.{Fault}
use Rattle.cjc_shelf.specs.Bytes.declared.fault.Fault.TheVariants as faults
use Rattle.cjc_shelf.specs.Bytes.declared.fault.Refusal.{Refusal}
use Rattle.cjc_judge.specs.Judged.{IsStopped}
use Rattle.cjc_judge.specs.Rules.{Breach, BreaksFile, IsFirstRefused, IsFirstFault, of_file}
use Rattle.cjc_judge.specs.Spelt.{IsRead}
use Rattle.cjc_script_text.specs.List.Listed.{ListTree, answer}
use Rattle.cjc_script_text.specs.Scripted.{ScriptTree, scripted}
use Rattle.cjc_cmd_jvm.specs.Running.Ready.{tested, script_break, BreaksScript, Breaks, of_package, of_script}

module _ (list : ListTree) (files : List (List ℕ)) (name text : List ℕ) (is_read : IsRead list)
    (file_rank : (b : Break) → IsRead list → BreaksFile list.lines files b → (b.rank.family ≡ 1)
    × (b.rank.file ≤ 2 ^ 32))
    (file_or_later : (b : Break) → Breach list files tested b → BreaksFile list.lines files b ⊎ (2 ≤ b.rank.family))
  where
    before_script : (b : Break) (r : Refusal) → BreaksFile list.lines files b → NotAfter b.rank (let s = script_break r
        in s.rank)
    before_script b r breaks =
        let h = file_rank b is_read breaks in
        let file = h.1 in
        inr (h.0, inl (omega (arith, file)))

    -- a rule of a single file
    pub of_one_file : (r : Refusal) → IsFirstRefused (BreaksFile list.lines files) r
        → IsFirstRefused (Breaks list files name text) r
    of_one_file r f = record {
      broken = f.broken;
      first = record {
        breaks = of_package (of_file f.first.breaks);
        least = least;
      };
      is = f.is;
    }
      where
        one : f.broken.rank.family ≡ 1
        one = let h = file_rank f.broken is_read f.first.breaks in h.0

        least : (a : Break) → Breaks list files name text a → NotAfter f.broken.rank a.rank
        least a (of_script (r', e, is)) = subst (λ (x : Break). NotAfter f.broken.rank x.rank) (sym is)
            (before_script f.broken r' f.first.breaks)
        least a (of_package h) = elim (file_or_later a h) [
          | inl g ↦ f.first.least a g
          | inr later ↦ inl (omega (arith, one, later))
        ]

    -- the script, where no file breaks a rule by itself
    pub of_the_script : (r : Refusal) → scripted name text ≡ Err r → ((b : Break) → BreaksFile list.lines files b → ⊥)
        → IsFirstRefused (Breaks list files name text) r
    of_the_script r e none = record {
      broken = script_break r;
      first = record {
        breaks = of_script (r, e, refl);
        least = least;
      };
      is = refl;
    }
      where
        same : (r' : Refusal) → scripted name text ≡ Err r' → r ≡ r'
        same r' e' = let h = sym e ∙ e' in cc

        itself : (b : Break) → NotAfter b.rank b.rank
        itself b = inr (refl, inr (refl, inr (refl, inr (refl, inr (refl, inr (refl, tt))))))

        least : (a : Break) → Breaks list files name text a → NotAfter (let s = script_break r in s.rank) a.rank
        least a (of_script (r', e', is)) =
            subst (λ (x : Break). NotAfter (let s = script_break r in s.rank) x.rank) (ap script_break (same r' e')
            ∙ sym is) (itself (script_break r))
        least a (of_package h) = elim (file_or_later a h) [
          | inl g ↦ absurd (none a g)
          | inr later ↦ inl (omega (arith, later))
        ]

    -- a rule of the package, where the script is one
    pub of_the_package : (r : Refusal) (s : ScriptTree) → scripted name text ≡ Ok s
        → IsFirstRefused (Breach list files tested) r → IsFirstRefused (Breaks list files name text) r
    of_the_package r s e f = record {
      broken = f.broken;
      first = record {
        breaks = of_package f.first.breaks;
        least = least;
      };
      is = f.is;
    }
      where
        least : (a : Break) → Breaks list files name text a → NotAfter f.broken.rank a.rank
        least a (of_package h) = f.first.least a h
        least a (of_script (r', e', is)) = absurd (let h : Ok s ≡ Err r' = sym e ∙ e' in cc)

    -- ---- as answers

    pub file_stops : (e : Fault) → IsFirstFault (BreaksFile list.lines files) e
        → IsFirstFault (Breaks list files name text) e
    file_stops e (inl none) = inl none
    file_stops e (inr (r, first, is)) = inr (r, of_one_file r first, is)

    pub package_stops : (e : Fault) (s : ScriptTree) → IsUnlessNoMemory (Ok s) (answer (scripted name text))
        → IsStopped list files tested e → IsFirstFault (Breaks list files name text) e
    package_stops e s read (inl none) = inl none
    package_stops e s read (inr (r, first, is)) = inr (
      r,
      of_the_package r s (there (scripted name text) read) first,
      is,
    )
      where
        there : (q : Result ScriptTree Refusal) → IsUnlessNoMemory (Ok s) (answer q) → q ≡ Ok s
        there (Ok t) (inl h) = let same : s ≡ t = cc in ap (λ (x : ScriptTree). Ok x) (sym same)
        there (Err x) (inl h) = absurd (let clash : Ok s ≡ Err (faults.Refused x) = h in cc)
        there q (inr h) = absurd (let clash : Ok s ≡ Err faults.NoMemory = h in cc)

    pub script_stops : (e : Fault) → IsUnlessNoMemory (Err e) (answer (scripted name text))
        → ((b : Break) → BreaksFile list.lines files b → ⊥) → IsFirstFault (Breaks list files name text) e
    script_stops e read none = by (scripted name text) refl read
      where
        by : (q : Result ScriptTree Refusal) → scripted name text ≡ q → IsUnlessNoMemory (Err e) (answer q)
            → IsFirstFault (Breaks list files name text) e
        by (Ok t) is (inl h) = absurd (let clash : Err e ≡ Ok t = h in cc)
        by (Err r) is (inl h) = inr (r, of_the_script r is none, (let same : e ≡ faults.Refused r = cc in same))
        by q is (inr h) = inl (let same : e ≡ faults.NoMemory = cc in same)
