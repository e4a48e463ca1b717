-- Walks over instructions, methods, classes and fields, one further.
use Rattle.std.proofs.Common.{◌≡◌, ℕ, ◌+◌, ◌<◌, ◌≤◌, refl, sym, ap, ◌∙◌, List, [], ◌∷◌, length, drop, get_or}
use Rattle.std.proofs.Common.{◌++◌, Bool, true, false, subst, append_assoc, append-nil}
use Rattle.std.specs.Prelude.{Option, Some, None, Result, Ok, Err, map, slice_set, if◌then◌else◌}
use Rattle.cjc_subset.specs.LowerWorld.declared.image.ArrayCell.{ArrayCell}
use Rattle.cjc_clinit.specs.declared.stage.Held.{Held}
use Rattle.cjc_subset.specs.LowerClassFile.declared.tree.ClassTree.{ClassTree}
use Rattle.cjc_subset.specs.LowerBytecode.declared.insn.JInsn.{JInsn}
use Rattle.cjc_subset.specs.LowerBytecode.declared.method_code.MethodCode.{MethodCode}
use Rattle.cjc_subset.specs.LowerWorld.Files.{Files}
use Rattle.cjc_clinit.specs.Initialiser.{nothing_in}
use Rattle.cjc_clinit.specs.Working.Reading.{IsRead, State, Puts, puts, read, state_after, or_wrong, is_ended, ended}
use Rattle.cjc_clinit.specs.Working.Reading.{with_read, after_code, after_codes, and_then}
use Rattle.cjc_bytes.proofs.Gets.{drop_next, drop_past}

-- ---- instructions

module _ (files : Files) (number : ℕ) (c : ClassTree) where
  pub read-next : (insns : List JInsn) (i : ℕ) (x : JInsn) (s : State) (o : Option State) → i < length insns
      → x ≡ get_or insns i x → state_after files number c s x.op ≡ o
      → read files number c s (drop i insns) ≡ or_wrong x.at o (λ t. read files number c t (drop (i + 1) insns))
  unfolding read
  read-next insns i x s o lt is e =
      ap (read files number c s) (drop_next insns i x lt is)
      ∙ ap (λ (q : Option State). or_wrong x.at q (λ t. read files number c t (drop (i + 1) insns))) e

  pub read-end : (insns : List JInsn) (i : ℕ) (s : State) → length insns ≤ i → read files number c s (drop i insns)
      ≡ Ok s
  unfolding read
  read-end insns i s le = ap (read files number c s) (drop_past insns i le)

-- ---- methods

pub codes-next : (files : Files) (codes : List MethodCode) (i : ℕ) (x : MethodCode) (p : Puts) (r : Result Puts ℕ)
    → i < length codes → x ≡ get_or codes i x → after_code files p x ≡ r
    → after_codes files p (drop i codes) ≡ and_then r (λ later. after_codes files later (drop (i + 1) codes))
unfolding after_codes
codes-next files codes i x p r lt is e =
    ap (after_codes files p) (drop_next codes i x lt is)
    ∙ ap (λ (q : Result Puts ℕ). and_then q (λ later. after_codes files later (drop (i + 1) codes))) e

pub codes-end : (files : Files) (codes : List MethodCode) (i : ℕ) (p : Puts) → length codes ≤ i
    → after_codes files p (drop i codes) ≡ Ok p
unfolding after_codes
codes-end files codes i p le = ap (after_codes files p) (drop_past codes i le)

-- ---- what reading an initialiser left

pub read-wrong : (r : Result State ℕ) (at : ℕ) (fields : List Held) (arrays : List ArrayCell) → r ≡ Err at
    → IsRead (ended r) (Some at) fields arrays
read-wrong r at fields arrays e = subst (λ (q : Result State ℕ). IsRead (ended q) (Some at) fields arrays) (sym e) refl

pub read-ended : (r : Result State ℕ) (s : State) → r ≡ Ok s → is_ended s.stage ≡ true
    → IsRead (ended r) None s.fields s.arrays
read-ended r s e t =
    subst (λ (q : Result State ℕ). IsRead (ended q) None s.fields s.arrays) (sym e)
    (subst (λ (b : Bool). IsRead (if b then Ok s else Err 0) None s.fields s.arrays) (sym t) (refl, refl))

pub read-open : (r : Result State ℕ) (s : State) → r ≡ Ok s → is_ended s.stage ≡ false
    → IsRead (ended r) (Some 0) s.fields s.arrays
read-open r s e t =
    subst (λ (q : Result State ℕ). IsRead (ended q) (Some 0) s.fields s.arrays) (sym e)
    (subst (λ (b : Bool). IsRead (if b then Ok s else Err 0) (Some 0) s.fields s.arrays) (sym t) refl)

pub with-ended : (code : MethodCode) (before : Puts) (r : Result State ℕ) (fields : List Held) (arrays : List ArrayCell)
    → IsRead r None fields arrays → with_read code before r ≡ Ok (puts (slice_set before.fields code.class fields)
    arrays)
with-ended code before (Ok s) fields arrays h = ap (λ q. Ok (puts (slice_set before.fields code.class q) s.arrays)) h.0
    ∙ ap (λ q. Ok (puts (slice_set before.fields code.class fields) q)) h.1
with-ended code before (Err at) fields arrays h = absurd h

pub with-wrong : (code : MethodCode) (before : Puts) (r : Result State ℕ) (at : ℕ) (fields : List Held)
    (arrays : List ArrayCell) → IsRead r (Some at) fields arrays → with_read code before r ≡ Err at
with-wrong code before (Ok s) at fields arrays h = absurd h
with-wrong code before (Err found) at fields arrays h = ap (λ q. Err q) h

-- ---- classes whose fields hold nothing

pub nothing_next : (cs : List ClassTree) (i : ℕ) (x : ClassTree) (old new all : List (List Held)) → i < length cs
    → x ≡ get_or cs i x → new ≡ old ++ nothing_in x ∷ [] → old ++ map nothing_in (drop i cs) ≡ all
    → new ++ map nothing_in (drop (i + 1) cs) ≡ all
nothing_next cs i x old new all lt is n inv =
    ap (λ q. q ++ map nothing_in (drop (i + 1) cs)) n ∙ append_assoc old (nothing_in x
    ∷ []) (map nothing_in (drop (i + 1) cs))
    ∙ ap (λ q. old ++ map nothing_in q) (sym (drop_next cs i x lt is)) ∙ inv

pub nothing_end : (cs : List ClassTree) (i : ℕ) (old all : List (List Held)) → length cs ≤ i
    → old ++ map nothing_in (drop i cs) ≡ all → old ≡ all
nothing_end cs i old all le inv = sym (append-nil old) ∙ ap (λ q. old ++ map nothing_in q) (sym (drop_past cs i le))
    ∙ inv
