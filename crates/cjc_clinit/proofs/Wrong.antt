-- Where reading ends is where code is wrong, and code that is read to its end is an initialiser.
use Rattle.std.proofs.Common.{◌≡◌, ◌∙◌, refl, sym, ap, subst, ℕ, List, [], ◌∷◌, ◌++◌, Bool, true, false}
use Rattle.std.specs.Prelude.{Option, Some, None, Result, Ok, Err, if◌then◌else◌}
use Rattle.cjc_subset.specs.LowerClassFile.declared.tree.ClassTree.{ClassTree}
use Rattle.cjc_subset.specs.LowerBytecode.declared.insn.JInsn.{JInsn}
use Rattle.cjc_subset.specs.LowerBytecode.declared.insn.JOp.{JOp}
use Rattle.cjc_subset.specs.LowerWorld.declared.image.ArrayCell.{ArrayCell}
use Rattle.cjc_subset.specs.LowerWorld.Files.{Files}
use Rattle.cjc_clinit.specs.declared.stage.Stage.TheVariants as stages
use Rattle.cjc_clinit.specs.Initialiser.{IsBeginning, IsInitialiser, IsWrongAt, nothing_in, ops_of}
use Rattle.cjc_clinit.specs.Image.{arrays_of}
use Rattle.cjc_clinit.specs.Working.Reading.{State, state, state_after, read, is_ended, ended}
use Rattle.cjc_clinit.proofs.Runs.{run, run-cons, run-both, read-ok, run-ok, read-append, stopped, Stop}
use Rattle.cjc_clinit.proofs.Grammar.{Rest, follows, begins-so, initialises-run, beginning-runs}
use Rattle.cjc_bytes.proofs.Options.{then_some}

ops-append : (xs ys : List JInsn) → ops_of (xs ++ ys) ≡ ops_of xs ++ ops_of ys
ops-append [] ys = refl
ops-append (x ∷ xs) ys = ap (λ (q : List JOp). x.op ∷ q) (ops-append xs ys)

no-some : {A P : Type 0} (o : Option A) (x : A) → o ≡ None → o ≡ Some x → P
no-some o x n e = absurd (let f = sym n ∙ e in cc)

-- the state, where it is behind the return
abbrev pub if-ended : Bool → State → Result State ℕ
if-ended b s = if b then Ok s else Err 0

abbrev pub start : ClassTree → List ArrayCell → State
start c arrays = state (nothing_in c) arrays stages.Free

module _ (files : Files) (class : ℕ) (c : ClassTree) (arrays : List ArrayCell) where
  pub beginning-so : (insns : List JInsn) (s : State) → read files class c (start c arrays) insns ≡ Ok s
      → IsBeginning files class c (nothing_in c) (ops_of insns)
  beginning-so insns s e = begins-so files class c (ops_of insns) (start c arrays) s [] refl (run-ok files class c insns
      (start c arrays) s e)

  pub wrong-at : (insns : List JInsn) (at : ℕ) → read files class c (start c arrays) insns ≡ Err at
      → IsWrongAt files class c insns at
  wrong-at insns at e = by (stopped files class c insns (start c arrays) at e)
    where
      by : Stop files class c (start c arrays) insns at → IsWrongAt files class c insns at
      by stop = IsWrongAt.wrong stop.front stop.rest stop.insn stop.parts stop.is_at (beginning-so stop.front
          stop.before stop.reads) no
        where
          no : IsBeginning files class c (nothing_in c) (ops_of (stop.front ++ stop.insn ∷ [])) → ⊥
          no b =
              let p = beginning-runs files class c arrays b in
              let front = run-ok files class c stop.front (start c arrays) stop.before stop.reads in
              let all : run files class c (start c arrays) (ops_of stop.front ++ stop.insn.op ∷ []) ≡ Some p.0 =
              ap (run files class c (start c arrays)) (sym (ops-append stop.front (stop.insn ∷ []))) ∙ p.1 in
              let behind = sym (run-both files class c (ops_of stop.front) (stop.insn.op ∷ []) (start c arrays)
              stop.before front) ∙ all in
              let q = then_some (λ u. run files class c u []) (state_after files class c stop.before stop.insn.op) p.0
              behind in
              no-some (state_after files class c stop.before stop.insn.op) q.0 stop.stops q.1

  pub unended : (insns : List JInsn) (s : State) → read files class c (start c arrays) insns ≡ Ok s
      → is_ended s.stage ≡ false → IsWrongAt files class c insns 0
  unended insns s e not = IsWrongAt.unended refl (beginning-so insns s e) no
    where
      no : IsInitialiser files class c insns → ⊥
      no h =
          let r = initialises-run files class c arrays h.2 in
          let same = sym (run-ok files class c insns (start c arrays) s e) ∙ r in
          let f : s ≡ state h.1 (arrays ++ arrays_of c h.0) stages.Ended = cc in
          let g : true ≡ false = sym (ap (λ (q : State). is_ended q.stage) f) ∙ not in absurd (cc)

  pub initialiser-so : (insns : List JInsn) (s : State) → read files class c (start c arrays) insns ≡ Ok s
      → is_ended s.stage ≡ true → Rest files class c (nothing_in c) arrays (ops_of insns) s
  initialiser-so insns s e ended = follows files class c (ops_of insns) (start c arrays) s [] refl
      (run-ok files class c insns (start c arrays) s e) ended

  -- what a whole reading means
  pub wrong-so : (insns : List JInsn) (at : ℕ) → ended (read files class c (start c arrays) insns) ≡ Err at
      → IsWrongAt files class c insns at
  wrong-so insns at e = by (read files class c (start c arrays) insns) refl e
    where
      open-by : (s : State) (b : Bool) → read files class c (start c arrays) insns ≡ Ok s → is_ended s.stage ≡ b
          → if-ended b s ≡ Err at → IsWrongAt files class c insns at
      open-by s true is n h = absurd (cc)
      open-by s false is n h = let f : 0 ≡ at = cc in subst (λ q. IsWrongAt files class c insns q) f
          (unended insns s is n)

      by : (r : Result State ℕ) → read files class c (start c arrays) insns ≡ r → ended r ≡ Err at
          → IsWrongAt files class c insns at
      by (Err k) is h = let f : k ≡ at = cc in subst (λ q. IsWrongAt files class c insns q) f (wrong-at insns k is)
      by (Ok s) is h = open-by s (is_ended s.stage) is refl h

  pub ended-so : (insns : List JInsn) (s : State) → ended (read files class c (start c arrays) insns) ≡ Ok s
      → Rest files class c (nothing_in c) arrays (ops_of insns) s
  ended-so insns s e = by (read files class c (start c arrays) insns) refl e
    where
      open-by : (t : State) (b : Bool) → read files class c (start c arrays) insns ≡ Ok t → is_ended t.stage ≡ b
          → if-ended b t ≡ Ok s → Rest files class c (nothing_in c) arrays (ops_of insns) s
      open-by t true is n h = let f : t ≡ s = cc in subst (λ (q : State). Rest files class c (nothing_in c) arrays
          (ops_of insns) q) f (initialiser-so insns t is n)
      open-by t false is n h = absurd (cc)

      by : (r : Result State ℕ) → read files class c (start c arrays) insns ≡ r → ended r ≡ Ok s
          → Rest files class c (nothing_in c) arrays (ops_of insns) s
      by (Err k) is h = absurd (cc)
      by (Ok t) is h = open-by t (is_ended t.stage) is refl h

  ended-ok : (r : Result State ℕ) (s : State) (b : Bool) → r ≡ Ok s → is_ended s.stage ≡ b → ended r ≡ if-ended b s
  ended-ok r s b e n = ap (λ (q : Result State ℕ). ended q) e ∙ ap (λ q. if-ended q s) n

  -- and the other way round
  pub initialiser-reads : (insns : List JInsn) (h : IsInitialiser files class c insns)
      → ended (read files class c (start c arrays) insns) ≡ Ok (state h.1 (arrays ++ arrays_of c h.0) stages.Ended)
  initialiser-reads insns h =
      let s = state h.1 (arrays ++ arrays_of c h.0) stages.Ended in
      ended-ok (read files class c (start c arrays) insns) s true (read-ok files class c insns (start c arrays) s
      (initialises-run files class c arrays h.2)) refl

  pub wrong-reads : (insns : List JInsn) (at : ℕ) → IsWrongAt files class c insns at
      → ended (read files class c (start c arrays) insns) ≡ Err at
  wrong-reads insns at (IsWrongAt.wrong front rest i parts is_at b not_so) =
      let p = beginning-runs files class c arrays b in
      let reads = read-ok files class c front (start c arrays) p.0 p.1 in
      ap (λ (q : List JInsn). ended (read files class c (start c arrays) q)) parts
      ∙ ap (λ (q : Result State ℕ). ended q) (read-append files class c front i rest (start c arrays) p.0 reads
      (stops p (state_after files class c p.0 i.op) refl))
      ∙ ap (λ q. Err q) (sym is_at)
    where
      stops : (p : (t : State) × (run files class c (start c arrays) (ops_of front) ≡ Some t)) (o : Option State)
          → state_after files class c p.0 i.op ≡ o → o ≡ None
      stops p None e = refl
      stops p (Some t) e = absurd (not_so (subst (λ (q : List JOp). IsBeginning files class c (nothing_in c) q)
          (sym (ops-append front (i ∷ [])))
          (begins-so files class c (ops_of front ++ i.op ∷ []) (start c arrays) t [] refl (run-both files class c
          (ops_of front) (i.op ∷ []) (start c arrays) p.0 p.1 ∙ run-cons files class c p.0 t i.op [] e))))
  wrong-reads insns at (IsWrongAt.unended is_at b not_so) = by p.0 (is_ended p.0.stage) reads refl
    where
      p : (t : State) × (run files class c (start c arrays) (ops_of insns) ≡ Some t)
      p = beginning-runs files class c arrays b

      reads : read files class c (start c arrays) insns ≡ Ok p.0
      reads = read-ok files class c insns (start c arrays) p.0 p.1

      by : (s : State) (e : Bool) → read files class c (start c arrays) insns ≡ Ok s → is_ended s.stage ≡ e
          → ended (read files class c (start c arrays) insns) ≡ Err at
      by s true is n = absurd (let r = initialiser-so insns s is n in not_so (r.0, s.fields, r.1))
      by s false is n = ended-ok (read files class c (start c arrays) insns) s false is n ∙ ap (λ q. Err q) (sym is_at)
