-- Marking the places where instructions start, one after the other.
use Rattle.std.proofs.Common.{◌≡◌, ℕ, zero, suc, ◌+◌, ◌<◌, ◌≤◌, ◌≢◌, Bool, true, false, cond, ltb, eqb, ◌==◌, ◌||◌}
use Rattle.std.proofs.Common.{List, [], ◌∷◌, ◌++◌, length, map, take, take_all, replicate, set, get_or, refl, sym, ap}
use Rattle.std.proofs.Common.{◌∙◌, arith, add-one}
use Rattle.std.specs.List.{list_any}
use Rattle.std.proofs.lemmas.Bool.{eq-eqb, ne_eqb, ltb-true, ltb-false}
use Rattle.std.proofs.lemmas.List.{map-append}
use Rattle.std.proofs.Math.Seq.{take-suc}
use Rattle.cjc_code.specs.declared.raw.Raw.{Raw}
use Rattle.cjc_code.specs.Unfit.{marks}
use Rattle.cjc_bytes.proofs.Bools.{or_true}

abbrev hits : List ℕ → ℕ → Bool
hits ps k = list_any (λ p. p == k) ps

hit_other : (ps : List ℕ) (p k : ℕ) → p ≢ k → hits (ps ++ p ∷ []) k ≡ hits ps k
hit_other [] p k ne = rw (ne_eqb p k ne) refl
hit_other (q ∷ ps) p k ne = ap (λ (b : Bool). eqb q k || b) (hit_other ps p k ne)

hit_same : (ps : List ℕ) (p : ℕ) → hits (ps ++ p ∷ []) p ≡ true
hit_same [] p = rw (eq-eqb p p refl) refl
hit_same (q ∷ ps) p = ap (λ (b : Bool). eqb q p || b) (hit_same ps p) ∙ or_true (eqb q p)

-- a place before or behind changes nothing
mark_before : (ps : List ℕ) (p k n : ℕ) → p < k → marks (ps ++ p ∷ []) k n ≡ marks ps k n
unfolding marks
mark_before ps p k zero lt = refl
mark_before ps p k (suc n) lt =
    let ne : p ≢ k = omega arith in
    let h = hit_other ps p k ne in
    let t = mark_before ps p (suc k) n (omega arith) in
    ap (λ (b : Bool). b ∷ marks (ps ++ p ∷ []) (suc k) n) h ∙ ap (λ (bs : List Bool). hits ps k ∷ bs) t

mark_behind : (ps : List ℕ) (p k n : ℕ) → k + n ≤ p → marks (ps ++ p ∷ []) k n ≡ marks ps k n
unfolding marks
mark_behind ps p k zero le = refl
mark_behind ps p k (suc n) le =
    let ne : p ≢ k = omega arith in
    let h = hit_other ps p k ne in
    let t = mark_behind ps p (suc k) n (omega arith) in
    ap (λ (b : Bool). b ∷ marks (ps ++ p ∷ []) (suc k) n) h ∙ ap (λ (bs : List Bool). hits ps k ∷ bs) t

mark_at : (ps : List ℕ) (p k n j : ℕ) → p ≡ k + j → j < n → set (marks ps k n) j true ≡ marks (ps ++ p ∷ []) k n
unfolding marks
mark_at ps p k zero j e lt = absurd (omega arith)
mark_at ps p k (suc n) zero e lt =
    let same : p ≡ k = omega arith in
    let h : true ≡ hits (ps ++ p ∷ []) k = rw (← same) (sym (hit_same ps p)) in
    let t = sym (mark_before ps p (suc k) n (omega arith)) in
    ap (λ (b : Bool). b ∷ marks ps (suc k) n) h ∙ ap (λ (bs : List Bool). hits (ps ++ p ∷ []) k ∷ bs) t
mark_at ps p k (suc n) (suc j) e lt =
    let ne : p ≢ k = omega arith in
    let h = sym (hit_other ps p k ne) in
    let t = mark_at ps p (suc k) n j (omega arith) (omega arith) in
    ap (λ (b : Bool). b ∷ set (marks ps (suc k) n) j true) h ∙ ap (λ (bs : List Bool). hits (ps ++ p ∷ []) k ∷ bs) t

length-marks : (ps : List ℕ) (k n : ℕ) → length (marks ps k n) ≡ n
unfolding marks
length-marks ps k zero = refl
length-marks ps k (suc n) = ap suc (length-marks ps (suc k) n)

-- one place more
marked_by : (b : Bool) (ps : List ℕ) (p n : ℕ) → ltb p n ≡ b → cond b (set (marks ps 0 n) p true) (marks ps 0 n)
    ≡ marks (ps ++ p ∷ []) 0 n
marked_by true ps p n e = mark_at ps p 0 n p (omega arith) (ltb-true p n e)
marked_by false ps p n e = sym (mark_behind ps p 0 n (let h = ltb-false p n e in omega arith))

pub mark_more : (ps : List ℕ) (p n : ℕ) (starts : List Bool) → starts ≡ marks ps 0 n
    → cond (ltb p (length starts)) (set starts p true) starts ≡ marks (ps ++ p ∷ []) 0 n
mark_more ps p n starts e = rw (e, length-marks ps 0 n) (marked_by (ltb p n) ps p n refl)

pub marks_none : (k n : ℕ) → replicate n false ≡ marks [] k n
unfolding marks
marks_none k zero = refl
marks_none k (suc n) = ap (λ (bs : List Bool). false ∷ bs) (marks_none (suc k) n)

-- the places of one instruction more
pub marks_next : (insns : List Raw) (i : ℕ) (d : Raw) (n : ℕ) (old new : List Bool) → i < length insns
    → new ≡ cond (ltb (get_or insns i d).at (length old)) (set old (get_or insns i d).at true) old
    → old ≡ marks (map (λ (r : Raw). r.at) (take i insns)) 0 n
    → new ≡ marks (map (λ (r : Raw). r.at) (take (i + 1) insns)) 0 n
marks_next insns i d n old new lt is so_far =
    let ps = map (λ (r : Raw). r.at) (take i insns) in
    let p = (get_or insns i d).at in
    let one : take (i + 1) insns ≡ take i insns ++ get_or insns i d ∷ [] = rw add-one (take-suc insns i d lt) in
    let more : map (λ (r : Raw). r.at) (take (i + 1) insns) ≡ ps ++ p ∷ [] = ap (map (λ (r : Raw). r.at)) one
    ∙ map-append (λ (r : Raw). r.at) (take i insns) (get_or insns i d ∷ []) in
    (is ∙ mark_more ps p n old so_far) ∙ ap (λ (qs : List ℕ). marks qs 0 n) (sym more)

-- after all instructions, the place where the cut stops
pub marks_end : (insns : List Raw) (i p n : ℕ) (old : List Bool) → length insns ≤ i
    → old ≡ marks (map (λ (r : Raw). r.at) (take i insns)) 0 n → cond (ltb p (length old)) (set old p true) old
    ≡ marks (map (λ (r : Raw). r.at) insns ++ p ∷ []) 0 n
marks_end insns i p n old le so_far =
    mark_more (map (λ (r : Raw). r.at) insns) p n old (so_far
    ∙ ap (λ (rs : List Raw). marks (map (λ (r : Raw). r.at) rs) 0 n) (take_all i insns le))
