-- What the grammar settles: code is an initialiser or wrong at one offset, and its effect is one.
use Rattle.std.proofs.Common.{◌≡◌, ◌∙◌, refl, sym, ap, ℕ, List, [], ◌++◌, inl, inr}
use Rattle.std.specs.Prelude.{◌⊎◌, Some, Result, Ok, Err}
use Rattle.cjc_subset.specs.LowerClassFile.declared.tree.ClassTree.{ClassTree}
use Rattle.cjc_subset.specs.LowerBytecode.declared.insn.JInsn.{JInsn}
use Rattle.cjc_subset.specs.LowerBytecode.declared.insn.JOp.{JOp}
use Rattle.cjc_subset.specs.LowerWorld.Files.{Files}
use Rattle.cjc_clinit.specs.declared.stage.Held.{Held}
use Rattle.cjc_clinit.specs.declared.stage.Stage.TheVariants as stages
use Rattle.cjc_clinit.specs.Initialiser.{Initialises, IsBeginning, IsInitialiser, IsWrongAt, Put}
use Rattle.cjc_clinit.specs.Image.{arrays_of}
use Rattle.cjc_clinit.specs.Working.Reading.{State, state, read, ended}
use Rattle.cjc_clinit.proofs.Runs.{run, run-append}
use Rattle.cjc_clinit.proofs.Grammar.{begins-so, initialises-run, beginning-runs}
use Rattle.cjc_clinit.proofs.Wrong.{start, wrong-so, ended-so, initialiser-reads, wrong-reads}
use Rattle.cjc_bytes.proofs.Options.{then_some}

module _ (files : Files) (class : ℕ) (c : ClassTree) where
  pub either-way : (insns : List JInsn) → IsInitialiser files class c insns
      ⊎ ((at : ℕ) × IsWrongAt files class c insns at)
  either-way insns = by (ended (read files class c (start c []) insns)) refl
    where
      by : (r : Result State ℕ) → ended (read files class c (start c []) insns) ≡ r → IsInitialiser files class c insns
          ⊎ ((at : ℕ) × IsWrongAt files class c insns at)
      by (Ok s) e = let h = ended-so files class c [] insns s e in inl (h.0, s.fields, h.1)
      by (Err at) e = inr (at, wrong-so files class c [] insns at e)

  pub not-both : (insns : List JInsn) (at : ℕ) → IsInitialiser files class c insns → IsWrongAt files class c insns at
      → ⊥
  not-both insns at h w = let f = sym (initialiser-reads files class c [] insns h)
      ∙ wrong-reads files class c [] insns at w in absurd (cc)

  pub one-offset : (insns : List JInsn) (at other : ℕ) → IsWrongAt files class c insns at
      → IsWrongAt files class c insns other → at ≡ other
  one-offset insns at other v w = let f = sym (wrong-reads files class c [] insns at v)
      ∙ wrong-reads files class c [] insns other w in cc

  pub one-effect : (before after other : List Held) (ops : List JOp) (puts others : List Put)
      → Initialises files class c before ops puts after → Initialises files class c before ops others other
      → (after ≡ other) × (arrays_of c puts ≡ arrays_of c others)
  one-effect before after other ops puts others v w = by (state after (arrays_of c puts) stages.Ended)
      (state other (arrays_of c others) stages.Ended) (sym (initialises-run files class c [] v)
      ∙ initialises-run files class c [] w)
    where
      by : (s t : State) → Some s ≡ Some t → (s.fields ≡ t.fields) × (s.arrays ≡ t.arrays)
      by s t e = let f : s ≡ t = cc in (ap (λ (q : State). q.fields) f, ap (λ (q : State). q.arrays) f)

  pub whole : (before after : List Held) (ops : List JOp) (puts : List Put)
      → Initialises files class c before ops puts after → IsBeginning files class c before ops
  whole before after ops puts h = begins-so files class c ops (state before [] stages.Free)
      (state after (arrays_of c puts) stages.Ended) [] refl (initialises-run files class c [] h)

  pub fronts : (before : List Held) (ops more : List JOp) → IsBeginning files class c before (ops ++ more)
      → IsBeginning files class c before ops
  fronts before ops more h =
      let p = beginning-runs files class c [] h in
      let q = then_some (λ u. run files class c u more) (run files class c (state before [] stages.Free) ops) p.0
      (sym (run-append files class c ops more (state before [] stages.Free)) ∙ p.1) in
      begins-so files class c ops (state before [] stages.Free) q.0 [] refl q.1
