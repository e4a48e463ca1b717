-- Stretches of instructions make a table that is closed and breaks no rule: each instruction is a block of its own.
use Rattle.std.proofs.Common.{◌≡◌, ℕ, zero, suc, ◌+◌, ◌-◌, ◌<◌, ◌≤◌, refl, sym, ap, subst, ◌∙◌, arith, Bool, true}
use Rattle.std.proofs.Common.{false}
use Rattle.std.proofs.Common.{List, [], ◌∷◌, ◌++◌, length, length-append, flat_map, map, slice_get, Some}
use Rattle.std.proofs.Common.{Contains}
use Rattle.std.specs.Prelude.{nat_lt}
use Rattle.std.proofs.lemmas.Bool.Decides.{nat_tests}
use Rattle.cjc_types.proofs.BytesGets.{get_back, get_below, get_front, get_inside}
use Rattle.cjc_types.specs.Fixpoint.Tables.{IsClosed}
use Rattle.cjc_types.specs.Fixpoint.Working.Edges.{contains_cons}
use Rattle.std.proofs.Common.{inl, inr, ◌⊎◌}
use Rattle.cjc_types.specs.States.{states}
use Rattle.cjc_types.specs.declared.state.State.{State}
use Rattle.cjc_frames.specs.Acts.{Subtype, after}
use Rattle.cjc_frames.specs.Flow.{Body, caught, covers, entry, frame_flow, place_at}
use Rattle.cjc_frames.specs.Working.ActLaws.{own_after}
use Rattle.cjc_frames.specs.declared.acts.Catch.{Catch}
use Rattle.cjc_frames.specs.declared.acts.Step.{Step}
use Rattle.cjc_accepted_proof.specs.Blocks.{AllStand, AreBlocks, Block, goes_on, label_of, one, steps_of}
use Rattle.cjc_accepted_proof.specs.Blocks as blocks
use Rattle.cjc_accepted_proof.specs.Tables.{BreaksNone}
use Rattle.cjc_accepted_proof.proofs.BlocksLaws.{below_itself, below_through, breaks_none, closed_table}
use Rattle.cjc_int_accepted.specs.Stretches.{AreStretches, IsAlong, JumpsTo, LeadsTo, Stretch, frame_through}
use Rattle.cjc_int_accepted.specs.Stretches.{frames_along, frames_in, label_in, out, steps_in, within}

-- ---- an instruction as a block

abbrev single : Step → State → Block
single s x = record { steps = s ∷ []; before = x; middle = x; behind = after s.act x }

abbrev blocks_along : List Step → State → List Block
blocks_along [] x = []
blocks_along (s ∷ steps) x = single s x ∷ blocks_along steps (after s.act x)

abbrev pub blocks_in : List Stretch → List Block
blocks_in stretches = flat_map (λ (t : Stretch). blocks_along t.steps t.before) stretches

along_long : (steps : List Step) (x : State) → length (blocks_along steps x) ≡ length steps
along_long [] x = refl
along_long (s ∷ steps) x = ap suc (along_long steps (after s.act x))

steps_along : (steps : List Step) (x : State) (more : List Block) → steps_of (blocks_along steps x ++ more) ≡ steps
    ++ steps_of more
steps_along [] x more = refl
steps_along (s ∷ steps) x more = ap (λ ss. s ∷ ss) (steps_along steps (after s.act x) more)

all_steps : (ts : List Stretch) → steps_of (blocks_in ts) ≡ steps_in ts
all_steps [] = refl
all_steps (t ∷ ts) = steps_along t.steps t.before (blocks_in ts) ∙ ap (λ ss. t.steps ++ ss) (all_steps ts)

-- labels of single instructions are their places
label_along : (steps : List Step) (x : State) (more : List Block) (k : ℕ) → k ≤ length steps → label_of (blocks_along
    steps x ++ more) k ≡ k
label_along [] x [] zero le = refl
label_along [] x (b ∷ more) zero le = refl
label_along [] x more (suc k) le = absurd (omega (arith, le))
label_along (s ∷ steps) x more zero le = refl
label_along (s ∷ steps) x more (suc k) le = let rest = label_along steps (after s.act x) more k (omega (arith, le)) in
    omega (arith, rest)

label_past : (steps : List Step) (x : State) (more : List Block) (k : ℕ) → label_of (blocks_along steps x ++ more)
    (length steps + k) ≡ length steps + label_of more k
label_past [] x more k = let none : 0 + k ≡ k = omega arith in let all : 0 + label_of more k ≡ label_of more k = omega
    arith in ap (label_of more) none ∙ sym all
label_past (s ∷ steps) x more k =
    let rest = label_past steps (after s.act x) more k in
    let up : suc (length steps) + k ≡ suc (length steps + k) = omega arith in
    let here : label_of (single s x ∷ (blocks_along steps (after s.act x) ++ more)) (suc (length steps + k)) ≡ 1
    + label_of (blocks_along steps (after s.act x) ++ more) (length steps + k) = refl in
    ap (label_of (single s x ∷ (blocks_along steps (after s.act x) ++ more))) up ∙ here ∙ omega (arith, rest)

label_is : (ts : List Stretch) (k : ℕ) → k ≤ length (steps_in ts) → label_of (blocks_in ts) k ≡ k
label_is [] zero le = refl
label_is [] (suc k) le = absurd (omega (arith, le))
label_is (t ∷ ts) k le = by (nat_lt (length t.steps) k) refl (label_is ts (k - length t.steps))
  where
    by : (b : Bool) → nat_lt (length t.steps) k ≡ b → (k - length t.steps ≤ length (steps_in ts) → label_of
        (blocks_in ts) (k - length t.steps) ≡ k - length t.steps) → label_of (blocks_in (t ∷ ts)) k ≡ k
    by false e rest = let few : k ≤ length t.steps = grind (arith, nat_tests, e) in label_along t.steps t.before
        (blocks_in ts) k few
    by true e rest =
        let past : length t.steps < k = grind (arith, nat_tests, e) in
        let long = length-append t.steps (steps_in ts) in
        let r = rest (omega (arith, le, long)) in
        let same : k ≡ length t.steps + (k - length t.steps) = omega (arith, past) in
        ap (label_of (blocks_in (t ∷ ts))) same ∙ label_past t.steps t.before (blocks_in ts) (k - length t.steps)
        ∙ omega (arith, r, past)

-- ---- the instructions of a stretch

-- the block of one
block_along : (steps : List Step) (x : State) (i : ℕ) (s : Step) (y : State) → slice_get steps i ≡ Some s
    → slice_get (frames_along steps x) i ≡ Some y → slice_get (blocks_along steps x) i ≡ Some (single s y)
block_along [] x i s y e f = absurd cc
block_along (u ∷ steps) x zero s y e f =
    let step : u ≡ s = cc in
    let frame : x ≡ y = cc in
    ap (λ (v : Step). Some (single v x)) step ∙ ap (λ (v : State). Some (single s v)) frame
block_along (u ∷ steps) x (suc i) s y e f = block_along steps (after u.act x) i s y e f

-- and what a block is of
pub record IsOne (steps : List Step) (x : State) (i : ℕ) (k : Block) : Type 0 where
  pub step : Step
  pub frame : State
  pub is_step : slice_get steps i ≡ Some step
  pub is_frame : slice_get (frames_along steps x) i ≡ Some frame
  pub is : k ≡ single step frame

along_at : (steps : List Step) (x : State) (i : ℕ) (k : Block) → slice_get (blocks_along steps x) i ≡ Some k → IsOne
    steps x i k
along_at [] x i k e = absurd cc
along_at (s ∷ steps) x zero k e = record {
  step = s;
  frame = x;
  is_step = refl;
  is_frame = refl;
  is = (let same : single s x ≡ k = cc in sym same);
}
along_at (s ∷ steps) x (suc i) k e =
    let r = along_at steps (after s.act x) i k e in
    record { step = r.step; frame = r.frame; is_step = r.is_step; is_frame = r.is_frame; is = r.is }

-- where an instruction of a stretch stands among all
block_at : (ts : List Stretch) (place : ℕ) (t : Stretch) → slice_get ts place ≡ Some t → (i : ℕ) (s : Step) (x : State)
    → IsAlong t i s x → slice_get (blocks_in ts) (label_in ts place + i) ≡ Some (single s x)
block_at [] place t e i s x is = absurd cc
block_at (u ∷ ts) zero t e i s x is =
    let same : u ≡ t = cc in
    let here : slice_get (blocks_along u.steps u.before) i ≡ Some (single s x) = ap (λ (v : Stretch). slice_get
    (blocks_along v.steps v.before) i) same ∙ block_along t.steps t.before i s x is.step is.frame in
    let lt = get_below (blocks_along u.steps u.before) i (single s x) here in
    let first : 0 + i ≡ i = omega arith in
    ap (slice_get (blocks_along u.steps u.before ++ blocks_in ts)) first
    ∙ get_front (blocks_along u.steps u.before) (blocks_in ts) i lt ∙ here
block_at (u ∷ ts) (suc place) t e i s x is =
    let rest = block_at ts place t e i s x is in
    let long = along_long u.steps u.before in
    let past : length (blocks_along u.steps u.before) ≤ length u.steps + label_in ts place + i = omega (arith, long) in
    let back : length u.steps + label_in ts place + i - length (blocks_along u.steps u.before) ≡ label_in ts place + i =
    omega (arith, long) in
    get_back (blocks_along u.steps u.before) (blocks_in ts) (length u.steps + label_in ts place + i) past
    ∙ ap (slice_get (blocks_in ts)) back ∙ rest

-- the stretch of an instruction, and which of the stretch's it is
pub record IsIn (ts : List Stretch) (q : ℕ) (k : Block) : Type 0 where
  pub place : ℕ
  pub stretch : Stretch
  pub there : slice_get ts place ≡ Some stretch
  pub index : ℕ
  pub at : q ≡ label_in ts place + index
  pub step : Step
  pub frame : State
  pub along : IsAlong stretch index step frame
  pub is : k ≡ single step frame

located : (ts : List Stretch) (q : ℕ) (k : Block) → slice_get (blocks_in ts) q ≡ Some k → IsIn ts q k
located [] q k e = absurd cc
located (t ∷ ts) q k e = by (nat_lt q (length t.steps)) refl (located ts (q - length t.steps) k)
  where
    long : length (blocks_along t.steps t.before) ≡ length t.steps
    long = along_long t.steps t.before

    by : (b : Bool) → nat_lt q (length t.steps) ≡ b → (slice_get (blocks_in ts) (q - length t.steps) ≡ Some k
        → IsIn ts (q - length t.steps) k) → IsIn (t ∷ ts) q k
    by true g rest =
        let lt : q < length t.steps = grind (arith, nat_tests, g) in
        let r = along_at t.steps t.before q k (sym (get_front (blocks_along t.steps t.before) (blocks_in ts) q (omega (
          arith,
          lt,
          long,
        ))) ∙ e) in
        record {
          place = 0;
          stretch = t;
          there = refl;
          index = q;
          at = omega arith;
          step = r.step;
          frame = r.frame;
          along = record { step = r.is_step; frame = r.is_frame };
          is = r.is;
        }
    by false g rest =
        let le : length t.steps ≤ q = grind (arith, nat_tests, g) in
        let r = rest (ap (λ n. slice_get (blocks_in ts) (q - n)) (sym long) ∙ sym (get_back (blocks_along t.steps
        t.before) (blocks_in ts) q (omega (arith, le, long))) ∙ e) in
        let at = r.at in
        record {
          place = suc r.place;
          stretch = r.stretch;
          there = r.there;
          index = r.index;
          at = omega (arith, le, at);
          step = r.step;
          frame = r.frame;
          along = r.along;
          is = r.is;
        }

-- the frame before the next instruction is the one behind this
next_along : (steps : List Step) (x : State) (i : ℕ) (s : Step) (y : State) → slice_get steps i ≡ Some s → slice_get
    (frames_along steps x) i ≡ Some y → (n : Step) → slice_get steps (suc i) ≡ Some n → slice_get (frames_along steps x)
    (suc i) ≡ Some (after s.act y)
next_along [] x i s y e f n g = absurd cc
next_along (u ∷ []) x zero s y e f n g = absurd cc
next_along (u ∷ v ∷ steps) x zero s y e f n g =
    let step : u ≡ s = cc in
    let frame : x ≡ y = cc in
    ap (λ (w : Step). Some (after w.act x)) step ∙ ap (λ (w : State). Some (after s.act w)) frame
next_along (u ∷ steps) x (suc i) s y e f n g = next_along steps (after u.act x) i s y e f n g

-- behind the last one is the frame behind all
pub last_along : (steps : List Step) (x : State) (i : ℕ) (s : Step) (y : State) → slice_get steps i ≡ Some s → slice_get
    (frames_along steps x) i ≡ Some y → suc i ≡ length steps → (after s.act y ≡ frame_through steps x)
    × (goes_on steps ≡ (let a = s.act in a.falls))
last_along [] x i s y e f last = absurd cc
last_along (u ∷ []) x zero s y e f last =
    let step : u ≡ s = cc in
    let frame : x ≡ y = cc in (
      ap (λ (w : State). after s.act w) (sym frame) ∙ ap (λ (w : Step). after w.act x) (sym step),
      ap (λ (w : Step). let a = w.act in a.falls) step,
    )
last_along (u ∷ v ∷ steps) x zero s y e f last = absurd (omega (arith, last))
last_along (u ∷ []) x (suc i) s y e f last = absurd (omega (arith, last))
last_along (u ∷ v ∷ steps) x (suc i) s y e f last = last_along (v ∷ steps) (after u.act x) i s y e f (omega (
  arith,
  last,
))

own_along : (n : ℕ) (steps : List Step) (x : State) → (let s = states n in s.Own x) → (i : ℕ) (y : State) → slice_get
    (frames_along steps x) i ≡ Some y → (let s = states n in s.Own y)
own_along n [] x own i y e = absurd cc
own_along n (s ∷ steps) x own zero y e = let same : x ≡ y = cc in subst (λ (z : State). let s = states n in s.Own z)
    same own
own_along n (s ∷ steps) x own (suc i) y e = own_along n steps (after s.act x) (own_after s.act n x own) i y e

pub label_step : (ts : List Stretch) (place : ℕ) (t : Stretch) → slice_get ts place ≡ Some t → label_in ts (suc place)
    ≡ label_in ts place + length t.steps
label_step [] place t e = absurd cc
label_step (u ∷ ts) zero t e = let same : u ≡ t = cc in let long = ap (λ (v : Stretch). length v.steps) same in
    let none = first ts in omega (arith, long, none)
  where
    first : (us : List Stretch) → label_in us 0 ≡ 0
    first [] = refl
    first (v ∷ us) = refl
label_step (u ∷ ts) (suc place) t e =
    let rest = label_step ts place t e in
    omega (arith, rest)

-- ---- a method

module _ (is_of : Subtype) (b : Body) (ts : List Stretch) (are : AreStretches is_of b ts) where
  abbrev count : ℕ
  count = b.local_count

  abbrev Under : State → State → Type 0
  Under x y = let s = states count in s.Below x y

  abbrev all : List Block
  all = blocks_in ts

  steps_are : b.steps ≡ steps_of all
  steps_are = are.steps ∙ sym (all_steps ts)

  -- the first instruction from a stretch on, before which the card knows no more
  abbrev Reached : (place : ℕ) → State → Type 0
  Reached place x = (k : Block) × (slice_get all (label_in ts place) ≡ Some k) × Under x k.before

  reached : (fuel place : ℕ) (t : Stretch) → length ts ≤ place + fuel → slice_get ts place ≡ Some t → Reached place
      t.before
  reached zero place t few there = let within = get_below ts place t there in absurd (omega (arith, few, within))
  reached (suc fuel) place t few there = by t.steps refl (λ n next. reached fuel (suc place) n (omega (arith, few))
      next)
    where
      by : (steps : List Step) → t.steps ≡ steps → ((n : Stretch) → slice_get ts (suc place) ≡ Some n → Reached (suc
          place) n.before) → Reached place t.before
      by [] f rest =
          let n = are.next place t there (ap goes_on f) in
          let none : length t.steps ≡ 0 = ap length f in
          let up = label_step ts place t there in
          let same : label_in ts (suc place) ≡ label_in ts place = omega (arith, none, up) in
          let r = rest n.0 n.1 in
          let k = r.0 in (
            k,
            ap (slice_get all) (sym same) ∙ r.1,
            below_through count t.before (let m = n.0 in m.before) k.before (subst (λ (x : State). Under x (let m = n.0
                in m.before)) (ap (λ (ss : List Step). frame_through ss t.before) f) n.2) r.2,
          )
      by (s ∷ more) f rest =
          let none : label_in ts place + 0 ≡ label_in ts place = omega arith in (
            single s t.before,
            ap (slice_get all) (sym none) ∙ block_at ts place t there 0 s t.before (record {
              step = ap (λ (ss : List Step). slice_get ss 0) f;
              frame = ap (λ (ss : List Step). slice_get (frames_along ss t.before) 0) f;
            }),
            below_itself count t.before,
          )

  long : length b.steps ≡ length (steps_in ts)
  long = ap length are.steps

  -- a block at a label
  leads_at : (label : ℕ) (x : State) (k : Block) → slice_get all label ≡ Some k → Under x k.before → blocks.LeadsTo
      count all label x
  leads_at label x k there below =
      let lt = get_below all label k there in
      let fits = all_long ts in
      record {
        place = label;
        block = k;
        there = there;
        is = label_is ts label (omega (arith, lt, fits));
        below = below;
      }
    where
      all_long : (us : List Stretch) → length (blocks_in us) ≡ length (steps_in us)
      all_long [] = refl
      all_long (u ∷ us) =
          let rest = all_long us in
          let here = along_long u.steps u.before in
          let front = length-append (blocks_along u.steps u.before) (blocks_in us) in
          let back = length-append u.steps (steps_in us) in
          omega (arith, rest, here, front, back)

  leads : (label : ℕ) (x : State) → LeadsTo count ts label x → blocks.LeadsTo count all label x
  leads label x l =
      let t = l.stretch in
      let r = reached (length ts) l.place t (omega arith) l.there in
      let k = r.0 in
      leads_at label x k (ap (slice_get all) (sym l.is) ∙ r.1) (below_through count x t.before k.before l.below r.2)

  module _ (q : ℕ) (k : Block) (e : slice_get all q ≡ Some k) where
    abbrev is : IsIn ts q k
    is = located ts q k e

    owned : (let s = states count in s.Own k.before × s.Own k.middle)
    owned =
        let i = is in
        let t = i.stretch in
        let along = i.along in
        let own = own_along count t.steps t.before (are.own i.place t i.there) i.index i.frame along.frame in
        subst (λ (v : Block). let s = states count in s.Own v.before × s.Own v.middle) (sym i.is) (own, own)

    stands : AllStand is_of count b.max_stack k.before k.middle k.behind k.steps
    stands =
        let i = is in
        let s = i.step in
        subst (λ (v : Block). AllStand is_of count b.max_stack v.before v.middle v.behind v.steps) (sym i.is) (one
        (record {
          unbroken = are.unbroken i.place i.stretch i.there i.index s i.frame i.along;
          goes = below_itself count (after s.act i.frame);
        }))

    -- where it goes on
    follows : goes_on k.steps ≡ true → (n : Block) × (slice_get all (suc q) ≡ Some n) × Under k.behind n.before
    follows goes =
        let i = is in
        let t = i.stretch in
        let s = i.step in
        let along = i.along in
        let at = i.at in
        let falls : (let a = s.act in a.falls) ≡ true = ap (λ (v : Block). goes_on v.steps) (sym i.is) ∙ goes in
        subst (λ (v : Block). (n : Block) × (slice_get all (suc q) ≡ Some n) × Under v.behind n.before) (sym i.is)
        (by (nat_lt (suc i.index) (length t.steps)) refl falls)
      where
        by : (u : Bool) → (let i = is in let t = i.stretch in nat_lt (suc i.index) (length t.steps)) ≡ u
            → (let i = is in let s = i.step in let a = s.act in a.falls) ≡ true → (n : Block)
            × (slice_get all (suc q) ≡ Some n) × (let i = is in let s = i.step in Under (after s.act i.frame) n.before)
        by true f falls =
            let i = is in
            let t = i.stretch in
            let s = i.step in
            let along = i.along in
            let at = i.at in
            let n = get_inside t.steps (suc i.index) (grind (arith, nat_tests, f)) in
            let frame = next_along t.steps t.before i.index s i.frame along.step along.frame n.0 n.1 in
            let same : suc q ≡ label_in ts i.place + suc i.index = omega (arith, at) in (
              single n.0 (after s.act i.frame),
              ap (slice_get all) same ∙ block_at ts i.place t i.there (suc i.index) n.0 (after s.act i.frame) (record {
                step = n.1;
                frame = frame;
              }),
              below_itself count (after s.act i.frame),
            )
        by false f falls =
            let i = is in
            let t = i.stretch in
            let s = i.step in
            let along = i.along in
            let at = i.at in
            let lt = get_below t.steps i.index s along.step in
            let end : suc i.index ≡ length t.steps = grind (arith, nat_tests, f, lt) in
            let l = last_along t.steps t.before i.index s i.frame along.step along.frame end in
            let n = are.next i.place t i.there (l.1 ∙ falls) in
            let r = reached (length ts) (suc i.place) n.0 (omega arith) n.1 in
            let m = r.0 in
            let up = label_step ts i.place t i.there in
            let same : suc q ≡ label_in ts (suc i.place) = omega (arith, at, end, up) in (
              m,
              ap (slice_get all) same ∙ r.1,
              below_through count (after s.act i.frame) (let v = n.0 in v.before) m.before (subst (λ (x : State). Under
                  x (let v = n.0 in v.before)) (sym l.0) n.2) r.2,
            )

    one_step : (s : Step) → Contains k.steps s → (let i = is in i.step) ≡ s
    one_step s among =
        let i = is in
        by (contains_cons i.step [] s (subst (λ (v : Block). Contains v.steps s) i.is among))
      where
        by : ((let i = is in i.step) ≡ s) ⊎ Contains [] s → (let i = is in i.step) ≡ s
        by (inl same) = same
        by (inr (j, lt, f)) = absurd (omega (arith, lt))

    jump : (s : Step) → Contains k.steps s → (offset label : ℕ) → Contains (let a = s.act in a.targets) offset
        → place_at b.steps offset ≡ Some label → blocks.LeadsTo count all label k.behind
    jump s among offset label on found =
        let i = is in
        let u = i.step in
        let same = one_step s among in
        let on_step = subst (λ (v : Step). Contains (let a = v.act in a.targets) offset) (sym same) on in
        subst (λ (v : Block). blocks.LeadsTo count all label v.behind) (sym i.is) (by (are.jumps i.place i.stretch
        i.there i.index u i.frame i.along offset label on_step found))
      where
        by : (let i = is in let u = i.step in JumpsTo count ts i.place i.stretch label (after u.act i.frame))
            → (let i = is in let u = i.step in blocks.LeadsTo count all label (after u.act i.frame))
        by (out l) = let i = is in let u = i.step in leads label (after u.act i.frame) l
        by (within index v y along at below) =
            let i = is in
            let u = i.step in
            leads_at label (after u.act i.frame) (single v y) (ap (slice_get all) at ∙ block_at ts i.place i.stretch
            i.there index v y along) below

    handled : (s : Step) → Contains k.steps s → (c : Catch) → Contains b.catches c → covers c s.at ≡ true → (label : ℕ)
        → place_at b.steps c.target ≡ Some label → blocks.LeadsTo count all label (caught c k.before)
    handled s among c on cover label found =
        let i = is in
        let u = i.step in
        let same = one_step s among in
        subst (λ (v : Block). blocks.LeadsTo count all label (caught c v.before)) (sym i.is) (leads label (caught c
        i.frame) (are.handlers i.place i.stretch i.there i.index u i.frame i.along c on (ap (λ (v : Step). covers c
        v.at) same ∙ cover) label found))

  pub are_blocks : AreBlocks is_of b all
  are_blocks = record {
    steps = steps_are;
    own = owned;
    stand = stands;
    first = λ lt. leads 0 (entry b) (are.first lt);
    next = follows;
    jumps = jump;
    handlers = handled;
  }

-- ---- the table

frames_one : (steps : List Step) (x : State) (more : List Block) → blocks.frames_of (blocks_along steps x ++ more)
    ≡ frames_along steps x ++ blocks.frames_of more
frames_one [] x more = refl
frames_one (s ∷ steps) x more = ap (λ xs. x ∷ xs) (frames_one steps (after s.act x) more)

frames_are : (ts : List Stretch) → blocks.frames_of (blocks_in ts) ≡ frames_in ts
frames_are [] = refl
frames_are (t ∷ ts) = frames_one t.steps t.before (blocks_in ts) ∙ ap (λ xs. frames_along t.steps t.before ++ xs)
    (frames_are ts)

module _ (is_of : Subtype) (b : Body) (ts : List Stretch) (are : AreStretches is_of b ts) where
  pub table_closed : IsClosed (frame_flow b) (length b.steps) (map Some (frames_in ts))
  table_closed = subst (λ (xs : List State). IsClosed (frame_flow b) (length b.steps) (map Some xs)) (frames_are ts)
      (closed_table is_of b (blocks_in ts) (are_blocks is_of b ts are))

  pub table_unbroken : BreaksNone is_of b (map Some (frames_in ts))
  table_unbroken = subst (λ (xs : List State). BreaksNone is_of b (map Some xs)) (frames_are ts) (breaks_none is_of b
      (blocks_in ts) (are_blocks is_of b ts are))
