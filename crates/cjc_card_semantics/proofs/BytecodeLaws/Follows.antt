-- A machine whose steps follow another's makes the same notes and ends alike.
use Rattle.std.proofs.Common.{◌≡◌, ℕ, zero, suc, ◌+◌, ◌*◌, ◌≤◌, refl, sym, ap, subst, ◌∙◌, ⊎_elim, inl, inr, ◌⊎◌, arith}
use Rattle.std.proofs.Math.Nat.{mul-suc}
use Rattle.std.specs.Prelude.{◌≢◌}
use Rattle.std.proofs.lemmas.Bool.{cases_lt}
use Rattle.cjc_script.specs.declared.report.Outcome.{Outcome}
use Rattle.cjc_script.specs.declared.report.Outcome.TheVariants.{Done, Running, Waiting, Unfit, Stuck}
use Rattle.cjc_script.specs.declared.report.Report.{Report}
use Rattle.cjc_script.specs.Agree.{IsBegun}
use Rattle.cjc_card_semantics.specs.Bytecode.Runs.{Move, Device, after, run, Alike, Lawful, Leads, last, first, Steps}
use Rattle.cjc_card_semantics.specs.Bytecode.Runs.{silent, onward, ends, Simulates, Agree}

-- ---- alike

pub alike : {r r' : Report} → r ≡ r' → Alike r r'
alike e = record {
  notes = ap (λ q. q.notes) e;
  outcome = ap (λ q. q.outcome) e;
  heap = λ over. ap (λ q. q.heap) e;
  statics = λ over. ap (λ q. q.statics) e;
}

pub alike_trans : {a b c : Report} → Alike a b → Alike b c → Alike a c
alike_trans p q = record {
  notes = p.notes ∙ q.notes;
  outcome = p.outcome ∙ q.outcome;
  heap = λ over. p.heap (λ e. over (sym q.outcome ∙ e)) ∙ q.heap over;
  statics = λ over. p.statics (λ e. over (sym q.outcome ∙ e)) ∙ q.statics over;
}

pub alike_sym : {a b : Report} → Alike a b → Alike b a
alike_sym p = record {
  notes = sym p.notes;
  outcome = sym p.outcome;
  heap = λ over. sym (p.heap (λ e. over (p.outcome ∙ e)));
  statics = λ over. sym (p.statics (λ e. over (p.outcome ∙ e)));
}

is_running : (o : Outcome) → (o ≡ Running) ⊎ (o ≢ Running)
is_running Done = inr (λ e. cc)
is_running Running = inl refl
is_running Waiting = inr (λ e. cc)
is_running (Unfit k) = inr (λ e. cc)
is_running (Stuck at) = inr (λ e. cc)

-- j more than k, which computes where j is known
abbrev further : ℕ → ℕ → ℕ
further zero k = k
further (suc j) k = suc (further j k)

further_sum : (j k : ℕ) → further j k ≡ k + j
further_sum zero k = omega arith
further_sum (suc j) k = let e = further_sum j k in omega arith

module _ {S T W : Type 0} (a : Device S) (b : Device T) (left : W → S) (right : W → T) (most : ℕ) (measure : W
    → ℕ) where
  abbrev Follows : W → Type 0
  Follows w = Steps a b left right most measure w

  -- Where both machines go on from another couple, as where an entry has begun, the steps of that one are the steps of
  -- this.
  pub from_there : (w v : W) → a.move (left w) ≡ a.move (left v) → b.move (right w) ≡ b.move (right v)
      → Alike (b.rest (right w)) (b.rest (right v)) → measure v ≤ measure w → Steps a b left right most measure v
      → Steps a b left right most measure w
  from_there w v ea eb er le (silent u fa fb fr falls) = silent u (ea ∙ fa) (eb ∙ fb) (alike_trans er fr) (omega (
    arith,
    falls,
  ))
  from_there w v ea eb er le (onward u j fa fb few) = onward u j (ea ∙ fa) (from eb fb) few
    where
      from : {j : ℕ} {t u : T} {m : Move T} → b.move t ≡ b.move u → Leads b j u m → Leads b j t m
      from e (last f) = last (e ∙ f)
      from e (first f more) = first (e ∙ f) more
  from_there w v ea eb er le (ends r r' j fa fb few same over free) = ends r r' j (ea ∙ fa) (from eb fb) few same over
      free
    where
      from : {j : ℕ} {t u : T} {m : Move T} → b.move t ≡ b.move u → Leads b j u m → Leads b j t m
      from e (last f) = last (e ∙ f)
      from e (first f more) = first (e ∙ f) more

  module _ (sim : Simulates a b left right most measure) where
    -- n instructions of the first are `count` of the second
    pub record Reaches (n : ℕ) (w : W) : Type 0 where
      pub count : ℕ
      pub at_most : count ≤ most * n
      pub same : Alike (run b count (right w)) (run a n (left w))
      pub far : (run a n (left w)).outcome ≡ Running → n ≤ 65535 * count + measure w
      pub fine : (at : ℕ) → (run a n (left w)).outcome ≢ Stuck at

    -- j turns first
    leads : {j : ℕ} {t : T} {m : Move T} → Leads b j t m → (k : ℕ) → run b (further j k) t ≡ after m (run b k)
    leads (last e) k = ap (λ x. after x (run b k)) e
    leads (first {j = j} e more) k = ap (λ x. after x (run b (further j k))) e ∙ leads more k

    some : {j : ℕ} {t : T} {m : Move T} → Leads b j t m → 1 ≤ j
    some (last e) = omega arith
    some (first e more) = omega arith

    matched : (m : ℕ) → ((v : W) → Reaches m v) → (w : W) → Steps a b left right most measure w → Reaches (suc m) w
    matched m reach w (silent v ea eb er falls) =
        let r = reach v in
        let e : run a (suc m) (left w) ≡ run a m (left v) = ap (λ x. after x (run a m)) ea in
        record {
          count = r.count;
          at_most = omega (arith, r.at_most, mul-suc most m);
          same = alike_trans (still r.count) (alike_trans r.same (alike (sym e)));
          far = λ going. let f = r.far (ap (λ q. q.outcome) (sym e) ∙ going) in omega (arith, falls);
          fine = λ at stuck. r.fine at (ap (λ q. q.outcome) (sym e) ∙ stuck);
        }
      where
        still : (k : ℕ) → Alike (run b k (right w)) (run b k (right v))
        still zero = er
        still (suc k) = alike (ap (λ x. after x (run b k)) eb)
    matched m reach w (onward v j ea eb few) =
        let r = reach v in
        let e : run a (suc m) (left w) ≡ run a m (left v) = ap (λ x. after x (run a m)) ea in
        let small = sim.small v in
        let one = some eb in
        let sum = further_sum j r.count in
        record {
          count = further j r.count;
          at_most = omega (arith, r.at_most, sum, mul-suc most m, few);
          same = alike_trans (alike (leads eb r.count)) (alike_trans r.same (alike (sym e)));
          far = λ going. let f = r.far (ap (λ q. q.outcome) (sym e) ∙ going) in omega (arith, small, one, sum);
          fine = λ at stuck. r.fine at (ap (λ q. q.outcome) (sym e) ∙ stuck);
        }
    matched m reach w (ends r r' j ea eb few same over free) =
        let e : run a (suc m) (left w) ≡ r = ap (λ x. after x (run a m)) ea in
        record {
          count = further j 0;
          at_most = omega (arith, mul-suc most m, few, further_sum j 0);
          same = alike_trans (alike (leads eb 0)) (alike_trans same (alike (sym e)));
          far = λ going. absurd (over (ap (λ q. q.outcome) (sym e) ∙ going));
          fine = λ at stuck. free at (ap (λ q. q.outcome) (sym e) ∙ stuck);
        }

    pub reaches : (n : ℕ) (w : W) → Reaches n w
    reaches zero w = record {
      count = 0;
      at_most = omega arith;
      same = sim.rests w;
      far = λ going. omega arith;
      fine = sim.free w;
    }
    reaches (suc m) w = matched m (reaches m) w (sim.steps w)

    module _ (law : Lawful b) (w : W) where
      abbrev one : ℕ → Report
      one n = run a n (left w)

      abbrev other : ℕ → Report
      other n = run b n (right w)

      finish : (n m : ℕ) → most * n ≤ m → (one n).outcome ≢ Running → Alike (other m) (one n)
      finish n m le over =
          let r = reaches n w in
          let over_too : (other r.count).outcome ≢ Running = λ e. over (sym r.same.outcome ∙ e) in
          alike_trans (alike (law.stays r.count m (right w) (omega (arith, r.at_most, le)) over_too)) r.same

      -- two ends are one
      one_end : (m k : ℕ) → (other m).outcome ≢ Running → (other k).outcome ≢ Running → other m ≡ other k
      one_end m k p q = ⊎_elim (λ l. sym (law.stays m k (right w) (omega arith) p)) (λ l. law.stays k m (right w) l q)
          (cases_lt m k)

      finish_only : (n m : ℕ) → 65536 * (n + 1) ≤ m → (other n).outcome ≢ Running → Alike (one m) (other n)
      finish_only n m le over =
          let r = reaches m w in
          ⊎_elim
          (λ going.
          let far = r.far going in
          let small = sim.small w in
          let more : n ≤ r.count = omega arith in
          let same = law.stays n r.count (right w) more over in
          absurd (over (ap (λ q. q.outcome) (sym same) ∙ r.same.outcome ∙ going)))
          (λ ended. alike_trans (alike_sym r.same) (alike (one_end r.count n (λ e. ended (sym r.same.outcome ∙ e))
          over)))
          (is_running (one m).outcome)

      turn_after_event : (n m : ℕ) → IsBegun (one n).notes (other m).notes ⊎ IsBegun (other m).notes (one n).notes
      turn_after_event n m =
          let r = reaches n w in
          ⊎_elim
          (λ l. inl (subst (λ q. IsBegun q (other m).notes) r.same.notes (law.grows r.count m (right w) (omega arith))))
          (λ l. inr (subst (λ q. IsBegun (other m).notes q) r.same.notes (law.grows m r.count (right w) l)))
          (cases_lt r.count m)

      never : (n at : ℕ) → ((one n).outcome ≢ Stuck at) × ((other n).outcome ≢ Stuck at)
      never n at = (
        (reaches n w).fine at,
        λ stuck.
            let over : (other n).outcome ≢ Running = λ e. cc in
            let same = finish_only n (65536 * (n + 1)) (omega arith) over in
            (reaches (65536 * (n + 1)) w).fine at (same.outcome ∙ stuck),
      )

      pub agree : Agree most one other
      agree = record { notes = turn_after_event; ends = finish; ends_only = finish_only; never_stuck = never }

-- ---- what agrees with the one agrees with what is the same

-- The second's reports may be put in place by others that are equal where they are not stuck: a second theorem, between
-- the second machine and a third, may be joined.
pub agree_through : {most : ℕ} {one other third : ℕ → Report} → Agree most one other
    → ((n : ℕ) → ((at : ℕ) → (other n).outcome ≢ Stuck at) → third n ≡ other n) → Agree most one third
agree_through {one = one} {other = other} {third = third} h same =
    let e : (n : ℕ) → other n ≡ third n = λ n. sym (same n (λ at. (h.never_stuck n at).1)) in
    record {
      notes = λ n m. subst (λ r. IsBegun (one n).notes r.notes ⊎ IsBegun r.notes (one n).notes) (e m) (h.notes n m);
      ends = λ n m le over. subst (λ r. Alike r (one n)) (e m) (h.ends n m le over);
      ends_only = λ n m le over. subst (λ r. Alike (one m) r) (e n)
          (h.ends_only n m le (subst (λ r. r.outcome ≢ Running) (sym (e n)) over));
      never_stuck = λ n at. subst (λ r. ((one n).outcome ≢ Stuck at) × (r.outcome ≢ Stuck at)) (e n)
          (h.never_stuck n at);
    }

pub agree_from : {most : ℕ} {one other third : ℕ → Report} → Agree most one other → ((n : ℕ) → third n ≡ one n)
    → Agree most third other
agree_from {one = one} {other = other} {third = third} h same =
    let e : (n : ℕ) → one n ≡ third n = λ n. sym (same n) in
    record {
      notes = λ n m. subst (λ r. IsBegun r.notes (other m).notes ⊎ IsBegun (other m).notes r.notes) (e n) (h.notes n m);
      ends = λ n m le over. subst (λ r. Alike (other m) r) (e n) (h.ends n m le (subst (λ r. r.outcome ≢ Running)
          (sym (e n)) over));
      ends_only = λ n m le over. subst (λ r. Alike r (other n)) (e m) (h.ends_only n m le over);
      never_stuck = λ n at. subst (λ r. (r.outcome ≢ Stuck at) × ((other n).outcome ≢ Stuck at)) (e n)
          (h.never_stuck n at);
    }
