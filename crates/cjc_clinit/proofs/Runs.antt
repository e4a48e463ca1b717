-- Instructions read one after the other, without their offsets.
use Rattle.std.proofs.Common.{◌≡◌, ◌∙◌, refl, ap, ℕ, List, [], ◌∷◌, ◌++◌}
use Rattle.std.specs.Prelude.{Option, Some, None, Result, Ok, Err, option_and_then}
use Rattle.cjc_subset.specs.LowerClassFile.declared.tree.ClassTree.{ClassTree}
use Rattle.cjc_subset.specs.LowerBytecode.declared.insn.JInsn.{JInsn}
use Rattle.cjc_subset.specs.LowerBytecode.declared.insn.JOp.{JOp}
use Rattle.cjc_subset.specs.LowerWorld.Files.{Files}
use Rattle.cjc_clinit.specs.Initialiser.{ops_of}
use Rattle.cjc_clinit.specs.Working.Reading.{State, read, state_after, or_wrong}
use Rattle.cjc_bytes.proofs.Options.{then_some}

-- where reading stops
pub record Stop (files : Files) (number : ℕ) (c : ClassTree) (s : State) (insns : List JInsn) (at : ℕ) : Type 0 where
  pub front : List JInsn
  pub rest : List JInsn
  pub insn : JInsn
  pub parts : insns ≡ front ++ insn ∷ rest
  pub is_at : at ≡ insn.at
  pub before : State
  pub reads : read files number c s front ≡ Ok before
  pub stops : state_after files number c before insn.op ≡ None

module _ (files : Files) (number : ℕ) (c : ClassTree) where
  abbrev pub run : State → List JOp → Option State
  run s [] = Some s
  run s (op ∷ ops) = option_and_then (λ t. run t ops) (state_after files number c s op)

  pub run-cons : (s t : State) (op : JOp) (ops : List JOp) → state_after files number c s op ≡ Some t
      → run s (op ∷ ops) ≡ run t ops
  run-cons s t op ops e = ap (λ (o : Option State). option_and_then (λ u. run u ops) o) e

  bind-bind : (xs ys : List JOp) → ((t : State) → run t (xs ++ ys) ≡ option_and_then (λ u. run u ys) (run t xs))
      → (o : Option State)
      → option_and_then (λ t. run t (xs ++ ys)) o ≡ option_and_then (λ u. run u ys) (option_and_then (λ t. run t xs) o)
  bind-bind xs ys h None = refl
  bind-bind xs ys h (Some t) = h t

  pub run-append : (xs ys : List JOp) (s : State) → run s (xs ++ ys) ≡ option_and_then (λ u. run u ys) (run s xs)
  run-append [] ys s = refl
  run-append (x ∷ xs) ys s = bind-bind xs ys (λ t. run-append xs ys t) (state_after files number c s x)

  pub run-both : (xs ys : List JOp) (s t : State) → run s xs ≡ Some t → run s (xs ++ ys) ≡ run t ys
  run-both xs ys s t e = run-append xs ys s ∙ ap (λ (o : Option State). option_and_then (λ u. run u ys) o) e

  -- ---- with offsets

  pub read-ok : (insns : List JInsn) (s t : State) → run s (ops_of insns) ≡ Some t → read files number c s insns ≡ Ok t
  unfolding read
  read-ok [] s t e = let f : s ≡ t = cc in ap (λ (q : State). Ok q) f
  read-ok (i ∷ insns) s t e =
      let p = then_some (λ u. run u (ops_of insns)) (state_after files number c s i.op) t e in
      ap (λ (o : Option State). or_wrong i.at o (λ u. read files number c u insns)) p.1 ∙ read-ok insns p.0 t p.2

  went : (at : ℕ) (o : Option State) (go : State → Result State ℕ) (t : State) → or_wrong at o go ≡ Ok t → (u : State)
      × (o ≡ Some u) × (go u ≡ Ok t)
  went at None go t e = absurd (cc)
  went at (Some u) go t e = (u, refl, e)

  pub run-ok : (insns : List JInsn) (s t : State) → read files number c s insns ≡ Ok t → run s (ops_of insns) ≡ Some t
  unfolding read
  run-ok [] s t e = let f : s ≡ t = cc in ap (λ (q : State). Some q) f
  run-ok (i ∷ insns) s t e =
      let p = went i.at (state_after files number c s i.op) (λ u. read files number c u insns) t e in
      run-cons s p.0 i.op (ops_of insns) p.1 ∙ run-ok insns p.0 t p.2

  -- ---- where it stops

  pub read-append : (front : List JInsn) (i : JInsn) (rest : List JInsn) (s u : State) → read files number c s front
      ≡ Ok u → state_after files number c u i.op ≡ None → read files number c s (front ++ i ∷ rest) ≡ Err i.at
  unfolding read
  read-append [] i rest s u e n =
      let f : s ≡ u = cc in
      ap (λ (o : Option State). or_wrong i.at o (λ t. read files number c t rest))
      (ap (λ (q : State). state_after files number c q i.op) f ∙ n)
  read-append (j ∷ front) i rest s u e n =
      let p = went j.at (state_after files number c s j.op) (λ t. read files number c t front) u e in
      ap (λ (o : Option State). or_wrong j.at o (λ t. read files number c t (front ++ i ∷ rest))) p.1
      ∙ read-append front i rest p.0 u p.2 n

  later : (i : JInsn) (insns : List JInsn) (at : ℕ) (s t : State) → state_after files number c s i.op ≡ Some t
      → Stop files number c t insns at → Stop files number c s (i ∷ insns) at
  unfolding read
  later i insns at s t e stop = record {
    front = i ∷ stop.front;
    rest = stop.rest;
    insn = stop.insn;
    parts = ap (λ (q : List JInsn). i ∷ q) stop.parts;
    is_at = stop.is_at;
    before = stop.before;
    reads = ap (λ (o : Option State). or_wrong i.at o (λ u. read files number c u stop.front)) e ∙ stop.reads;
    stops = stop.stops;
  }

  pub stopped : (insns : List JInsn) (s : State) (at : ℕ) → read files number c s insns ≡ Err at
      → Stop files number c s insns at
  unfolding read
  stopped [] s at e = absurd (cc)
  stopped (i ∷ insns) s at e = by (λ t h. stopped insns t at h) (state_after files number c s i.op) refl e
    where
      by : ((t : State) → read files number c t insns ≡ Err at → Stop files number c t insns at) → (o : Option State)
          → state_after files number c s i.op ≡ o → or_wrong i.at o (λ u. read files number c u insns) ≡ Err at
          → Stop files number c s (i ∷ insns) at
      by rest None n h = record {
        front = [];
        rest = insns;
        insn = i;
        parts = refl;
        is_at = (let f : at ≡ i.at = cc
            in f);
        before = s;
        reads = refl;
        stops = n;
      }
      by rest (Some t) n h = later i insns at s t n (rest t h)
