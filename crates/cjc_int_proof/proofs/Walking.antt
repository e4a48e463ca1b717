-- Turns of a machine whose innermost frame makes instructions one behind the other.
use Rattle.std.proofs.Common.{◌≡◌, ℕ, zero, suc, ◌+◌, ◌≤◌, List, ◌∷◌, Option, Some, None, refl, ap, subst, ◌∙◌}
use Rattle.std.proofs.Common.{arith, zero-add}
use Rattle.std.proofs.Math.Nat.{mul-le-mul_right}
use Rattle.cjc_layout.specs.Script.declared.report.Report.{Report}
use Rattle.cjc_layout.specs.CardSemantics.Bytecode.Effects.{Effect, Go, Raise, Toss, Invoke, Leave, Stick}
use Rattle.cjc_layout.specs.CardSemantics.Bytecode.Machine.{Setting, State, Fetched, Frame, turn_after_fetch, made}
use Rattle.cjc_layout.specs.CardSemantics.Bytecode.Machine.{spent_by}
use Rattle.cjc_layout.specs.CardSemantics.Bytecode.Runs.{Move, On, Leads, last, first, device, led, Agree}
use Rattle.cjc_int_proof.specs.Walks.{Spot, Walked, Within, Out, and_then, led_by, done_by, step_from, walk, at_spot}
use Rattle.cjc_int_proof.specs.Walks.{turn_out, LeadsOn, LeadsOut, Splits}

module _ {P C F S M X : Type 0} (set : Setting P C F S M X) (code : P) (f : Frame P) (outer : List (Frame P))
    (s : State P C F X) where
  -- the frame at a spot
  abbrev frame_at : Spot C F X → Frame P
  frame_at spot = record f { code = code; at = spot.at; stack = spot.stack; locals = spot.locals }

  -- the move of what an instruction asks, where so many are spent with it
  abbrev moved : Spot C F X → (next spent : ℕ) → Effect C F M X → Move (State P C F X)
  moved spot next n e = led set (spent_by set (s.spent + n) (made set e next (frame_at spot) outer (record s {
    frames = frame_at spot ∷ outer;
    memory = spot.memory;
    spent = s.spent + n + 1;
  })))

  within_same : (from to : Spot C F X) (next n : ℕ) (e : Effect C F M X) → led_by set code from next e ≡ Within to
      → moved from next n e ≡ On (at_spot set code f outer s to (n + 1))
  within_same from to next n (Go at stack locals memory) is =
      let same : record { at = at; stack = stack; locals = locals; memory = memory } ≡ to = let i = is in cc in
      let sum : s.spent + n + 1 ≡ s.spent + (n + 1) = omega arith in
      ap (λ (k : ℕ). On (record s {
        frames = record f { code = code; at = at; stack = stack; locals = locals } ∷ outer;
        memory = memory;
        spent = k;
      })) sum
      ∙ ap (λ (p : Spot C F X). On (at_spot set code f outer s p (n + 1))) same
  within_same from to next n (Raise fault) is = absurd cc
  within_same from to next n (Toss object) is = absurd cc
  within_same from to next n (Invoke method) is = absurd cc
  within_same from to next n (Leave words) is = absurd cc
  within_same from to next n Stick is = absurd cc

  ended : (from to : Spot C F X) (next behind n : ℕ) (e asked : Effect C F M X) → from ≡ to → next ≡ behind
      → e ≡ asked → moved from next n e ≡ led set (turn_out set code f outer s to behind n asked)
  ended from to next behind n e asked is_to is_behind is_asked =
      let sum : s.spent + n + 1 ≡ s.spent + (n + 1) = omega arith in
      ap (λ (k : ℕ). led set (spent_by set (s.spent + n) (made set e next (frame_at from) outer (record s {
        frames = frame_at from ∷ outer;
        memory = from.memory;
        spent = k;
      })))) sum
      ∙ ap (λ (p : Spot C F X). led set (turn_out set code f outer s p next n e)) is_to
      ∙ ap (λ (k : ℕ). led set (turn_out set code f outer s to k n e)) is_behind
      ∙ ap (λ (a : Effect C F M X). led set (turn_out set code f outer s to behind n a)) is_asked

  out_same : (from to : Spot C F X) (next behind n : ℕ) (e asked : Effect C F M X) → led_by set code from next e
      ≡ Out to behind asked → moved from next n e ≡ led set (turn_out set code f outer s to behind n asked)
  out_same from to next behind n (Go at stack locals memory) asked is = absurd cc
  out_same from to next behind n (Raise fault) asked is = ended from to next behind n (Raise fault) asked (cc) (cc) (cc)
  out_same from to next behind n (Toss object) asked is = ended from to next behind n (Toss object) asked (cc) (cc) (cc)
  out_same from to next behind n (Invoke method) asked is = ended from to next behind n (Invoke method) asked (cc) (cc)
      (cc)
  out_same from to next behind n (Leave words) asked is = ended from to next behind n (Leave words) asked (cc) (cc) (cc)
  out_same from to next behind n Stick asked is = ended from to next behind n Stick asked (cc) (cc) (cc)

  -- ---- one turn

  abbrev state_at : Spot C F X → (spent : ℕ) → State P C F X
  state_at spot spent = at_spot set code f outer s spot spent

  abbrev turned : Spot C F X → (n : ℕ) → Option (Fetched C F S M) → Move (State P C F X)
  turned spot n o = led set (spent_by set (s.spent + n) (turn_after_fetch set o (frame_at spot) outer (record s {
    frames = frame_at spot ∷ outer;
    memory = spot.memory;
    spent = s.spent + n + 1;
  })))

  turned_within : (from to : Spot C F X) (n : ℕ) (o : Option (Fetched C F S M)) → done_by set code from o ≡ Within to
      → turned from n o ≡ On (state_at to (n + 1))
  turned_within from to n None is = absurd cc
  turned_within from to n (Some i) is = within_same from to i.next n _ is

  turned_out : (from to : Spot C F X) (behind n : ℕ) (asked : Effect C F M X) (o : Option (Fetched C F S M))
      → done_by set code from o ≡ Out to behind asked → turned from n o
      ≡ led set (turn_out set code f outer s to behind n asked)
  turned_out from to behind n asked None is = ended from to from.at behind n Stick asked (cc) (cc) (cc)
  turned_out from to behind n asked (Some i) is = out_same from to i.next behind n _ asked is

  moves_within : (from to : Spot C F X) (n : ℕ) → step_from set code from ≡ Within to
      → (device set).move (state_at from n) ≡ On (state_at to (n + 1))
  moves_within from to n is = turned_within from to n (set.fetch code from.at) is

  moves_out : (from to : Spot C F X) (behind n : ℕ) (asked : Effect C F M X) → step_from set code from
      ≡ Out to behind asked → (device set).move (state_at from n) ≡ led set (turn_out set code f outer s to behind n
      asked)
  moves_out from to behind n asked is = turned_out from to behind n asked (set.fetch code from.at) is

  -- ---- many turns

  -- from the spot behind the first instruction on
  abbrev Further : (n before : ℕ) → Spot C F X → Type 0
  Further n before to =
      (mid : Spot C F X) → walk set code n mid ≡ Within to → (from : Spot C F X)
      → (device set).move (state_at from before) ≡ On (state_at mid (before + 1))
      → Leads (device set) (suc n) (state_at from before) (On (state_at to (before + suc n)))

  leads_from : (n before : ℕ) (from to : Spot C F X) → Further n before to → (w : Walked C F M X)
      → step_from set code from ≡ w → and_then w (walk set code n) ≡ Within to
      → Leads (device set) (suc n) (state_at from before) (On (state_at to (before + suc n)))
  leads_from n before from to further (Out spot next asked) e is = absurd cc
  leads_from n before from to further (Within mid) e is = further mid is from (moves_within from mid before e)

  leads_on : (n before : ℕ) (from to : Spot C F X) → walk set code (suc n) from ≡ Within to
      → Leads (device set) (suc n) (state_at from before) (On (state_at to (before + suc n)))
  leads_on zero before from to is = leads_from zero before from to
      (λ mid here at moves. let same : mid ≡ to = let i = here in cc in
      last (moves ∙ ap (λ (p : Spot C F X). On (state_at p (before + 1))) same))
      (step_from set code from) refl is
  leads_on (suc n) before from to is = leads_from (suc n) before from to
      (λ mid here at moves. let sum : before + 1 + suc n ≡ before + suc (suc n) = omega arith in
      first moves (subst (λ (j : ℕ). Leads (device set) (suc n) (state_at mid (before + 1)) (On (state_at to j))) sum
      (leads_on n (before + 1) mid to here)))
      (step_from set code from) refl is

  -- turns that end with the one of an instruction that leads out
  abbrev Ends : (n before : ℕ) → (from to : Spot C F X) → (behind : ℕ) → Effect C F M X → Type 0
  Ends n before from to behind asked = (turns : ℕ) × (suc turns ≤ n) × Leads (device set) (suc turns)
      (state_at from before) (led set (turn_out set code f outer s to behind (before + turns) asked))

  ends_from : (n before : ℕ) (from to : Spot C F X) (behind : ℕ) (asked : Effect C F M X)
      → ((mid : Spot C F X) → walk set code n mid ≡ Out to behind asked → Ends n (before + 1) mid to behind asked)
      → (w : Walked C F M X) → step_from set code from ≡ w → and_then w (walk set code n) ≡ Out to behind asked
      → Ends (suc n) before from to behind asked
  ends_from n before from to behind asked further (Out spot next other) e is =
      let none : before ≡ before + 0 = omega arith in (
        0,
        omega arith,
        subst (λ (j : ℕ). Leads (device set) 1 (state_at from before) (led set (turn_out set code f outer s to behind j
            asked))) none (last (moves_out from to behind before asked (e ∙ is))),
      )
  ends_from n before from to behind asked further (Within mid) e is =
      let later = further mid is in
      let few = later.1 in
      let sum : before + 1 + later.0 ≡ before + suc later.0 = omega arith in (
        suc later.0,
        omega (arith, few),
        first (moves_within from mid before e) (subst (λ (j : ℕ). Leads (device set) (suc later.0)
            (state_at mid (before + 1)) (led set (turn_out set code f outer s to behind j asked))) sum later.2),
      )

  leads_out : (n before : ℕ) (from to : Spot C F X) (behind : ℕ) (asked : Effect C F M X) → walk set code n from
      ≡ Out to behind asked → Ends n before from to behind asked
  leads_out zero before from to behind asked is = absurd cc
  leads_out (suc n) before from to behind asked is = ends_from n before from to behind asked
      (λ mid here. leads_out n (before + 1) mid to behind asked here) (step_from set code from) refl is

module _ {P C F S M X : Type 0} (set : Setting P C F S M X) (code : P) where
  pub walks_on : LeadsOn set code
  walks_on f outer s n before from to is = leads_on set code f outer s n before from to is

  pub walks_out : LeadsOut set code
  walks_out f outer s n before from to behind asked is = leads_out set code f outer s n before from to behind asked is

  split_from : (n k : ℕ) → ((mid : Spot C F X) → walk set code (n + k) mid ≡ and_then (walk set code n mid)
      (walk set code k)) → (w : Walked C F M X) → and_then w (walk set code (n + k))
      ≡ and_then (and_then w (walk set code n)) (walk set code k)
  split_from n k further (Within mid) = further mid
  split_from n k further (Out spot next asked) = refl

  pub walks_split : Splits set code
  walks_split zero k from = ap (λ (j : ℕ). walk set code j from) (zero-add k)
  walks_split (suc n) k from =
      let more : suc n + k ≡ suc (n + k) = omega arith in
      ap (λ (j : ℕ). walk set code j from) more
      ∙ split_from n k (λ mid. walks_split n k mid) (step_from set code from)

-- ---- bounds

pub agree_more : (few more : ℕ) (one other : ℕ → Report) → few ≤ more → Agree few one other → Agree more one other
agree_more few more one other le agree = record {
  notes = agree.notes;
  ends = λ n m far over. agree.ends n m (let less = mul-le-mul_right n le in omega (arith, less, far)) over;
  ends_only = agree.ends_only;
  never_stuck = agree.never_stuck;
}
