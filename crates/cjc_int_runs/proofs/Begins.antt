-- A method in int mode begins with its arguments in its first words, and comes to the first instruction of the class
-- file with the locals that it has by name.
use Rattle.std.proofs.Common.{◌≡◌, ℕ, zero, suc, ◌+◌, ◌-◌, ◌*◌, ◌≤◌, List, ◌∷◌, [], ◌++◌, length, refl, sym, ap, subst}
use Rattle.std.proofs.Common.{◌∙◌, arith, append_assoc}
use Rattle.std.specs.Prelude.{Some, None, map, replicate, take, slice_set}
use Rattle.std.proofs.lemmas.List.{length-append}
use Rattle.cjc_script.proofs.BytesLists.{length_mapped}
use Rattle.cjc_script.specs.declared.value.Value.{Value}
use Rattle.cjc_script.specs.Sorts.{Sort}
use Rattle.cjc_card_semantics.specs.Bytecode.Arguments.{widths}
use Rattle.cjc_card_semantics.specs.Bytecode.Machine.{locals_of}
use Rattle.cjc_ncode.specs.declared.narrow.NMethod.{NMethod}
use Rattle.cjc_ncode.specs.ByLabel.{Named}
use Rattle.cjc_ncode.specs.IntCode.IntCode.{Frame, moved_from, nargs}
use Rattle.cjc_narrow_proof.specs.Selection.Relation.{Kind, Free, Heap, NMemory}
use Rattle.cjc_int_runs.specs.Prologue.{filled, Brings}
use Rattle.cjc_int_runs.specs.Relation.{IntLocals, LocalPairs, no_local, unused_local, AllHanded, nothing, one_more}
use Rattle.cjc_int_runs.specs.Steps.{StandAt}
use Rattle.cjc_int_runs.proofs.FrameWords.{set_behind}
use Rattle.cjc_int_runs.proofs.Prologue.{brings, words_long}

-- ---- lists

take_over : {A : Type 0} (xs ys : List A) (k : ℕ) → take (length xs + k) (xs ++ ys) ≡ xs ++ take k ys
take_over [] ys k = ap (λ n. take n ys) (let e : 0 + k ≡ k = omega arith in e)
take_over (x ∷ xs) ys k = let e : length (x ∷ xs) + k ≡ suc (length xs + k) = omega arith in
    ap (λ n. take n (x ∷ (xs ++ ys))) e ∙ ap (λ l. x ∷ l) (take_over xs ys k)

take_same : {A : Type 0} (k n : ℕ) (x : A) → take k (replicate (n + k) x) ≡ replicate k x
take_same zero n x = refl
take_same (suc k) n x = let e : n + suc k ≡ suc (n + k) = omega arith in
    ap (λ i. take (suc k) (replicate i x)) e ∙ ap (λ l. x ∷ l) (take_same k n x)

more_same : {A : Type 0} (a b : ℕ) (x : A) → replicate (a + b) x ≡ replicate a x ++ replicate b x
more_same zero b x = ap (λ i. replicate i x) (let e : 0 + b ≡ b = omega arith in e)
more_same (suc a) b x = let e : suc a + b ≡ suc (a + b) = omega arith in
    ap (λ i. replicate i x) e ∙ ap (λ l. x ∷ l) (more_same a b x)

same_long : {A : Type 0} (n : ℕ) (x : A) → length (replicate n x) ≡ n
same_long zero x = refl
same_long (suc n) x = ap suc (same_long n x)

-- items fill the first places of a list of the same item
fills : {A : Type 0} (front : List A) (k : ℕ) (x : A) (ys : List A) → length ys ≤ k
    → filled (front ++ replicate k x) (length front) ys ≡ front ++ (ys ++ replicate (k - length ys) x)
fills front k x [] le = ap (λ i. front ++ replicate i x) (let e : k ≡ k - 0 = omega arith in e)
fills front zero x (y ∷ ys) le = absurd (omega (arith, le))
fills front (suc k) x (y ∷ ys) le =
    let none : length front ≡ length front + 0 = omega arith in
    let set : slice_set (front ++ replicate (suc k) x) (length front) y ≡ front ++ (y ∷ replicate k x) =
    ap (λ i. slice_set (front ++ replicate (suc k) x) i y) none ∙ set_behind front (replicate (suc k) x) 0 y in
    let longer : length front + 1 ≡ length (front ++ y ∷ []) = sym (length-append front (y ∷ [])) in
    let moved : front ++ (y ∷ replicate k x) ≡ (front ++ y ∷ []) ++ replicate k x =
    sym (append_assoc front (y ∷ []) (replicate k x)) in
    let left : k - length ys ≡ suc k - length (y ∷ ys) = omega arith in
    ap (λ l. filled l (length front + 1) ys) (set ∙ moved)
    ∙ ap (λ i. filled ((front ++ y ∷ []) ++ replicate k x) i ys) longer
    ∙ fills (front ++ y ∷ []) k x ys (omega (arith, le))
    ∙ append_assoc front (y ∷ []) (ys ++ replicate (k - length ys) x)
    ∙ ap (λ i. front ++ (y ∷ (ys ++ replicate i x))) left

-- ---- the beginning

-- nothing is known of the locals
free_pairs : (heap : Heap) (n : ℕ) → LocalPairs heap (replicate n Free) (replicate n None) (replicate (2 * n) None)
free_pairs heap zero = no_local
free_pairs heap (suc n) = let e : 2 * suc n ≡ suc (suc (2 * n)) = omega arith in
    subst (λ i. LocalPairs heap (replicate (suc n) Free) (replicate (suc n) None) (replicate i None)) (sym e)
    (unused_local (free_pairs heap n))

free_locals : (heap : Heap) (f : Frame) (pairs : ℕ) (args : List Value) → length args ≡ nargs f
    → IntLocals heap f pairs (replicate f.max_locals Free) (replicate f.max_locals None)
    (locals_of (nargs f) (2 * f.max_locals + 2 * pairs) args)
free_locals heap f pairs args is =
    let more = 2 * f.max_locals + 2 * pairs in
    let given = map (λ v. Some v) args in
    let long : length given ≡ nargs f = length_mapped (λ v. Some v) args ∙ is in
    record {
      arguments = given;
      own = replicate (2 * f.max_locals) None;
      scratch = replicate (2 * pairs) None;
      are = ap (λ n. take (n + more) (given ++ replicate (nargs f + more) None)) (sym long)
          ∙ take_over given (replicate (nargs f + more) None) more
          ∙ ap (λ l. given ++ l) (take_same more (nargs f) None ∙ more_same (2 * f.max_locals) (2 * pairs) None);
      argument_words = long;
      own_words = same_long (2 * f.max_locals) None;
      scratch_words = same_long (2 * pairs) None;
      agree = free_pairs heap f.max_locals;
    }

pub handed_words : {heap : Heap} {sorts : List Sort} {ks : List Kind} {vs args : List Value}
    → AllHanded heap sorts ks vs args → length args ≡ widths sorts
handed_words nothing = refl
handed_words (one_more {words = ws} {ws = args} handed more) =
    let a = words_long handed in let b = handed_words more in let c = length-append ws args in omega (arith, a, b, c)

handed_values : {heap : Heap} {sorts : List Sort} {ks : List Kind} {vs args : List Value}
    → AllHanded heap sorts ks vs args → length vs ≡ length ks
handed_values nothing = refl
handed_values (one_more handed more) = ap suc (handed_values more)

pub method_begins : (l : Named) (f : Frame) (pairs : ℕ) (code : NMethod) → 2 ≤ code.max_stack → (memory : NMemory)
    (here : ℕ) (ks : List Kind) (vs args : List Value) → AllHanded memory.heap f.params ks vs args
    → length ks ≤ f.max_locals → StandAt code here (moved_from f 0 0 f.params)
    → Brings l f pairs code here (moved_from f 0 0 f.params) (ks ++ replicate (f.max_locals - length ks) Free)
    (map (λ v. Some v) vs ++ replicate (f.max_locals - length vs) None)
    (locals_of (nargs f) (2 * f.max_locals + 2 * pairs) args) memory
unfolding free_locals
method_begins l f pairs code room memory here ks vs args handed fits stand =
    let words = locals_of (nargs f) (2 * f.max_locals + 2 * pairs) args in
    let same = handed_values handed in
    let long = length_mapped (λ v. Some v) vs in
    let free = same_long f.max_locals Free in
    let h = free_locals memory.heap f pairs args (handed_words handed) in
    let kinds = fills [] f.max_locals Free ks fits in
    let values = fills [] f.max_locals None (map (λ v. Some v) vs) (omega (arith, fits, same, long)) in
    let count = ap (λ n. map (λ v. Some v) vs ++ replicate (f.max_locals - n) None) long in
    subst (λ ls. Brings l f pairs code here (moved_from f 0 0 f.params) ls (map (λ v. Some v) vs
    ++ replicate (f.max_locals - length vs) None) words memory) kinds
    (subst (λ locals. Brings l f pairs code here (moved_from f 0 0 f.params) (filled (replicate f.max_locals Free) 0 ks)
    locals words memory) (values ∙ count)
    (brings l f pairs code room memory here ks vs args (replicate f.max_locals Free) (replicate f.max_locals None) words
    handed h refl (omega (arith, fits, free)) stand))
