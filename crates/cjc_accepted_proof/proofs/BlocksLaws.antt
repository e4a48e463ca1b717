-- A table of the frames of blocks is closed and breaks no rule.
use Rattle.std.proofs.Common.{◌≡◌, ◌⊎◌, ⊎_elim, ℕ, zero, suc, ◌+◌, ◌-◌, ◌<◌, ◌≤◌, refl, sym, ap, subst, ◌∙◌, arith, inl}
use Rattle.std.proofs.Common.{inr, Bool, true, false, List, [], ◌∷◌, ◌++◌, length, length-append, map, filter_map}
use Rattle.std.proofs.Common.{slice_get, Option, Some, None, option_map, Contains}
use Rattle.std.specs.Prelude.{◌==◌, nat_lt, option_to_list, if◌then◌else◌}
use Rattle.std.specs.List.{AllZip, cons_option}
use Rattle.std.proofs.lemmas.Bool.Decides.{nat_tests}
use Rattle.std.proofs.lemmas.List.{length-map}
use Rattle.std.proofs.lemmas.List.Elements.{Contains-append_cases}
use Rattle.cjc_types.proofs.BytesGets.{get_back, get_below, get_front, get_inside, get_mapped}
use Rattle.cjc_types.proofs.BytesGets.{position_there}
use Rattle.cjc_types.specs.Cells.{IsCellBelow}
use Rattle.cjc_types.specs.Fixpoint.Tables.{Covers, HasRow, IsClosed}
use Rattle.cjc_types.specs.Fixpoint.Working.Edges.{contains_cons, contains_head, contains_tail}
use Rattle.cjc_types.specs.Fixpoint.declared.flow.Edge.{Edge}
use Rattle.cjc_types.specs.States.{IsStackBelow, states}
use Rattle.cjc_types.specs.declared.cell.Cell.{Cell}
use Rattle.cjc_types.specs.declared.cell.Cell.TheVariants.{Number, Refs, Unusable}
use Rattle.cjc_types.specs.declared.state.Stack.{Stack}
use Rattle.cjc_types.specs.declared.state.Stack.TheVariants.{Cells, Clash}
use Rattle.cjc_types.specs.declared.state.State.{State}
use Rattle.cjc_frames.specs.Acts.{Breaks, Subtype, after}
use Rattle.cjc_frames.specs.Flow.{Body, caught, covers, edge, entry, frame_flow, handler_edge, next_place}
use Rattle.cjc_frames.specs.Flow.{place_at, place_edges, step_edges, successors}
use Rattle.cjc_frames.specs.declared.acts.Act.{Act}
use Rattle.cjc_frames.specs.declared.acts.Catch.{Catch}
use Rattle.cjc_frames.specs.declared.acts.Step.{Step}
use Rattle.cjc_accepted_proof.specs.Blocks.{AllStand, AreBlocks, Block, LeadsTo, frames_in, frames_of, goes_on}
use Rattle.cjc_accepted_proof.specs.Blocks.{label_of}
use Rattle.cjc_accepted_proof.specs.Blocks.{nothing, one, steps_of, two}
use Rattle.cjc_accepted_proof.specs.Frames.{Stands}
use Rattle.cjc_accepted_proof.specs.Tables.{BreaksNone}
use Rattle.cjc_accepted_proof.proofs.RowsLaws.{zip_itself}

-- ---- what lies below what

pub cell_through : (x y z : Cell) → IsCellBelow x y → IsCellBelow y z → IsCellBelow x z
cell_through x y Unusable h k = tt
cell_through Number Number Number h k = tt
cell_through (Refs a) Number Number h k = absurd h
cell_through Unusable Number Number h k = absurd h
cell_through x (Refs b) Number h k = absurd k
cell_through x Unusable Number h k = absurd k
cell_through x Number (Refs c) h k = absurd k
cell_through x Unusable (Refs c) h k = absurd k
cell_through Number (Refs b) (Refs c) h k = absurd h
cell_through Unusable (Refs b) (Refs c) h k = absurd h
cell_through (Refs a) (Refs b) (Refs c) h k = λ n i. k n (h n i)

pub cells_through : (xs ys zs : List Cell) → AllZip IsCellBelow xs ys → AllZip IsCellBelow ys zs → AllZip IsCellBelow xs
    zs
cells_through [] [] [] h k = tt
cells_through [] [] (z ∷ zs) h k = absurd k
cells_through [] (y ∷ ys) zs h k = absurd h
cells_through (x ∷ xs) [] zs h k = absurd h
cells_through (x ∷ xs) (y ∷ ys) [] h k = absurd k
cells_through (x ∷ xs) (y ∷ ys) (z ∷ zs) h k = (cell_through x y z h.0 k.0, cells_through xs ys zs h.1 k.1)

stack_through : (x y z : Stack) → IsStackBelow x y → IsStackBelow y z → IsStackBelow x z
stack_through x y Clash h k = tt
stack_through (Cells xs) (Cells ys) (Cells zs) h k = cells_through xs ys zs h k
stack_through Clash (Cells ys) (Cells zs) h k = absurd h
stack_through x Clash (Cells zs) h k = absurd k

stack_itself : (x : Stack) → IsStackBelow x x
stack_itself (Cells xs) = zip_itself xs
stack_itself Clash = tt

module _ (count : ℕ) where
  abbrev pub Below : State → State → Type 0
  Below x y = let s = states count in s.Below x y

  pub below_itself : (x : State) → Below x x
  below_itself x = (stack_itself x.stack, zip_itself x.locals)

  pub below_through : (x y z : State) → Below x y → Below y z → Below x z
  below_through x y z h k = (
    stack_through x.stack y.stack z.stack h.0 k.0,
    cells_through x.locals y.locals z.locals h.1
        k.1,
  )

-- ---- lists

of_mapped : {A B : Type 0} (f : A → B) (xs : List A) (y : B) → Contains (map f xs) y → (x : A) × Contains xs x
    × (f x ≡ y)
of_mapped f [] y (k, lt, e) = absurd (omega (arith, lt))
of_mapped {A} {B} f (x ∷ xs) y is = elim (contains_cons (f x) (map f xs) y is) [
  | inl same ↦ (x, contains_head x xs, same)
  | inr later ↦ (let h = of_mapped f xs y later in (h.0, contains_tail x xs h.0 h.1, h.2))
]

of_kept : {A B : Type 0} (h : A → Option B) (xs : List A) (y : B) → Contains (filter_map h xs) y → (x : A)
    × Contains xs x × (h x ≡ Some y)
of_kept h [] y (k, lt, e) = absurd (omega (arith, lt))
of_kept {A} {B} h (x ∷ xs) y is = go (h x) refl is (of_kept h xs y)
  where
    later : (z : A) × Contains xs z × (h z ≡ Some y) → (z : A) × Contains (x ∷ xs) z × (h z ≡ Some y)
    later r = (r.0, contains_tail x xs r.0 r.1, r.2)

    go : (o : Option B) → h x ≡ o → Contains (cons_option o (filter_map h xs)) y → (Contains (filter_map h xs) y
        → (z : A) × Contains xs z × (h z ≡ Some y)) → (z : A) × Contains (x ∷ xs) z × (h z ≡ Some y)
    go None e is rest = later (rest is)
    go (Some w) e is rest = elim (contains_cons w (filter_map h xs) y is) [
      | inl same ↦ (x, contains_head x xs, e ∙ ap Some same)
      | inr further ↦ later (rest further)
    ]

-- ---- frames beside instructions

frames_long : (steps : List Step) (x y : State) → length (frames_in steps x y) ≡ length steps
frames_long [] x y = refl
frames_long (s ∷ steps) x y = ap suc (length-map steps (λ (t : Step). y))

pub all_long : (blocks : List Block) → length (frames_of blocks) ≡ length (steps_of blocks)
all_long [] = refl
all_long (b ∷ blocks) =
    let here = frames_long b.steps b.before b.middle in
    let rest = all_long blocks in
    length-append (frames_in b.steps b.before b.middle) (frames_of blocks) ∙ ap (λ n. n + length (frames_of blocks))
    here ∙ ap (λ n. length b.steps + n) rest ∙ sym (length-append b.steps (steps_of blocks))

-- the frame of an instruction of a block stands at its label
frame_at : (blocks : List Block) (place : ℕ) (b : Block) → slice_get blocks place ≡ Some b → (i : ℕ) (x : State)
    → slice_get (frames_in b.steps b.before b.middle) i ≡ Some x → slice_get (frames_of blocks) (label_of blocks place
    + i) ≡ Some x
frame_at [] place b e i x f = absurd cc
frame_at (c ∷ blocks) zero b e i x f =
    let same : c ≡ b = cc in
    let here : slice_get (frames_in c.steps c.before c.middle) i ≡ Some x = ap (λ (d : Block). slice_get (frames_in
    d.steps d.before d.middle) i) same ∙ f in
    let lt = get_below (frames_in c.steps c.before c.middle) i x here in
    let first : 0 + i ≡ i = omega arith in
    ap (slice_get (frames_in c.steps c.before c.middle ++ frames_of blocks)) first
    ∙ get_front (frames_in c.steps c.before c.middle) (frames_of blocks) i lt ∙ here
frame_at (c ∷ blocks) (suc place) b e i x f =
    let rest = frame_at blocks place b e i x f in
    let long = frames_long c.steps c.before c.middle in
    let past : length (frames_in c.steps c.before c.middle) ≤ length c.steps + label_of blocks place + i = omega (
      arith,
      long,
    ) in
    let back : length c.steps + label_of blocks place + i - length (frames_in c.steps c.before c.middle) ≡ label_of
    blocks place + i = omega (arith, long) in
    get_back (frames_in c.steps c.before c.middle) (frames_of blocks) (length c.steps + label_of blocks place + i) past
    ∙ ap (slice_get (frames_of blocks)) back ∙ rest

label_next : (blocks : List Block) (place : ℕ) (b : Block) → slice_get blocks place ≡ Some b → label_of blocks (suc
    place) ≡ label_of blocks place + length b.steps
label_next [] place b e = absurd cc
label_next (c ∷ blocks) zero b e = let same : c ≡ b = cc in let long = ap (λ (d : Block). length d.steps) same in
    let none = none_first blocks in omega (arith, long, none)
  where
    none_first : (bs : List Block) → label_of bs 0 ≡ 0
    none_first [] = refl
    none_first (d ∷ bs) = refl
label_next (c ∷ blocks) (suc place) b e =
    let rest = label_next blocks place b e in
    omega (arith, rest)

-- the block of an instruction, and which of the block's it is
pub record IsIn (blocks : List Block) (k : ℕ) (s : Step) (x : State) : Type 0 where
  pub place : ℕ
  pub block : Block
  pub there : slice_get blocks place ≡ Some block
  pub index : ℕ
  pub is : k ≡ label_of blocks place + index
  pub is_step : slice_get block.steps index ≡ Some s
  pub is_frame : slice_get (frames_in block.steps block.before block.middle) index ≡ Some x

located : (blocks : List Block) (k : ℕ) (s : Step) (x : State) → slice_get (steps_of blocks) k ≡ Some s
    → slice_get (frames_of blocks) k ≡ Some x → IsIn blocks k s x
located [] k s x e f = absurd cc
located (b ∷ blocks) k s x e f = by (nat_lt k (length b.steps)) refl (located blocks (k - length b.steps) s x)
  where
    by : (t : Bool) → nat_lt k (length b.steps) ≡ t → (slice_get (steps_of blocks) (k - length b.steps) ≡ Some s
        → slice_get (frames_of blocks) (k - length b.steps) ≡ Some x → IsIn blocks (k - length b.steps) s x)
        → IsIn (b ∷ blocks) k s x
    by true g rest =
        let lt : k < length b.steps = grind (arith, nat_tests, g) in
        let long = frames_long b.steps b.before b.middle in
        record {
          place = 0;
          block = b;
          there = refl;
          index = k;
          is = omega arith;
          is_step = sym (get_front b.steps (steps_of blocks) k lt) ∙ e;
          is_frame = sym (get_front (frames_in b.steps b.before b.middle) (frames_of blocks) k (omega (
            arith,
            lt,
            long,
          ))) ∙ f;
        }
    by false g rest =
        let le : length b.steps ≤ k = grind (arith, nat_tests, g) in
        let long = frames_long b.steps b.before b.middle in
        let r = rest (sym (get_back b.steps (steps_of blocks) k le) ∙ e) (ap (λ n. slice_get (frames_of blocks) (k - n))
        (sym long) ∙ sym (get_back (frames_in b.steps b.before b.middle) (frames_of blocks) k (omega (arith, le, long)))
        ∙ f) in
        let at = r.is in
        record {
          place = suc r.place;
          block = r.block;
          there = r.there;
          index = r.index;
          is = omega (arith, le, at);
          is_step = r.is_step;
          is_frame = r.is_frame;
        }

-- ---- a method

module _ (is_of : Subtype) (b : Body) (blocks : List Block) (are : AreBlocks is_of b blocks) where
  abbrev count : ℕ
  count = b.local_count

  abbrev rows : List (Option State)
  rows = map Some (frames_of blocks)

  total : length b.steps ≡ length (frames_of blocks)
  total = ap length are.steps ∙ sym (all_long blocks)

  row_there : (k : ℕ) (x : State) → slice_get (frames_of blocks) k ≡ Some x → HasRow rows k x
  row_there k x e = get_mapped Some (frames_of blocks) k ∙ ap (option_map Some) e

  frame_there : (k : ℕ) (x : State) → HasRow rows k x → slice_get (frames_of blocks) k ≡ Some x
  frame_there k x e = by (slice_get (frames_of blocks) k) (sym (get_mapped Some (frames_of blocks) k) ∙ e)
    where
      by : (o : Option State) → option_map Some o ≡ Some (Some x) → o ≡ Some x
      by None f = absurd cc
      by (Some y) f = let same : Some y ≡ Some x = cc in same

  -- what is reached from a place on: the frame of the first instruction there, which knows no more
  abbrev Reached : (place : ℕ) → State → Type 0
  Reached place before = (x : State) × (slice_get (frames_of blocks) (label_of blocks place) ≡ Some x) × Below count
      before x

  reached : (fuel place : ℕ) (k : Block) → length blocks ≤ place + fuel → slice_get blocks place ≡ Some k
      → label_of blocks place < length (frames_of blocks) → Reached place k.before
  reached zero place k few there lt = let within = get_below blocks place k there in absurd (omega (arith, few, within))
  reached (suc fuel) place k few there lt = by k.steps refl (are.stand place k there) (λ n next below. (
      reached fuel (suc place) n (omega (arith, few)) next below
      ))
    where
      by : (steps : List Step) → k.steps ≡ steps → AllStand is_of count b.max_stack k.before k.middle k.behind steps
          → ((n : Block) → slice_get blocks (suc place) ≡ Some n → label_of blocks (suc place) < length (frames_of
          blocks) → Reached (suc place) n.before) → Reached place k.before
      by [] f (nothing below) rest =
          let n = are.next place k there (ap goes_on f) in
          let none : length k.steps ≡ 0 = ap length f in
          let up = label_next blocks place k there in
          let same : label_of blocks (suc place) ≡ label_of blocks place = omega (arith, none, up) in
          let r = rest n.0 n.1 (omega (arith, same, lt)) in (
            r.0,
            ap (slice_get (frames_of blocks)) (sym same) ∙ r.1,
            below_through count k.before n.0.before r.0 (below_through count k.before k.behind n.0.before below n.2)
                r.2,
          )
      by (s ∷ more) f stands rest =
          let none : label_of blocks place + 0 ≡ label_of blocks place = omega arith in (
            k.before,
            ap (slice_get (frames_of blocks)) (sym none) ∙ frame_at blocks place k there 0 k.before (ap (λ (ss : List
                Step). slice_get (frames_in ss k.before k.middle) 0) f),
            below_itself count k.before,
          )

  -- a row stands where a block leads
  covered : (label : ℕ) (x : State) → LeadsTo count blocks label x → label < length b.steps → Covers (frame_flow b) rows
      label x
  covered label x leads lt =
      let at = leads.is in
      let r = reached (length blocks) leads.place leads.block (omega arith) leads.there (omega
      (arith, at, lt, total)) in
      let y = r.0 in
      record {
        row = y;
        is_row = row_there label y (ap (slice_get (frames_of blocks)) (sym at) ∙ r.1);
        above = below_through count x (let k = leads.block in k.before) y leads.below r.2;
      }

  -- a label that is found is one of an instruction
  found_inside : (offset label : ℕ) → place_at b.steps offset ≡ Some label → label < length b.steps
  found_inside offset label e =
      let r = position_there (λ (s : Step). s.at == offset) b.steps label e in
      get_below b.steps label r.0 r.1

  -- ---- one instruction

  -- where an instruction leads from its frame
  pub record Leads (k : ℕ) (s : Step) (x : State) : Type 0 where
    pub unbroken : (rule : ℕ) → Breaks is_of b.max_stack s.act x rule → ⊥
    pub falls : (let a = s.act in a.falls) ≡ true → k + 1 < length b.steps → Covers (frame_flow b) rows (k + 1) (after
        s.act x)
    pub jumps : (offset label : ℕ) → Contains (let a = s.act in a.targets) offset → place_at b.steps offset ≡ Some label
        → Covers (frame_flow b) rows label (after s.act x)
    pub handled : (c : Catch) → Contains b.catches c → covers c s.at ≡ true → (label : ℕ) → place_at b.steps c.target
        ≡ Some label → Covers (frame_flow b) rows label (caught c x)

  module _ (place : ℕ) (m : Block) (there : slice_get blocks place ≡ Some m) where
    -- what an instruction of a block hands to its handlers
    handed : (k : ℕ) (s : Step) (y : State) → y.locals ≡ (let x = m.before in x.locals) → Contains m.steps s
        → (c : Catch)
        → Contains b.catches c → covers c s.at ≡ true → (label : ℕ) → place_at b.steps c.target ≡ Some label
        → Covers (frame_flow b) rows label (caught c y)
    handed k s y same within c on covered_by label e = covered label (caught c y) (subst (λ (ls : List Cell). LeadsTo
        count blocks label (record { stack = Cells (Refs (option_to_list c.caught) ∷ []); locals = ls })) (sym same)
        (are.handlers place m there s within c on covered_by label e)) (found_inside c.target label e)

    -- the last one leads to where the block leads
    last_leads : (k : ℕ) (s : Step) (y : State) → y.locals ≡ (let x = m.before in x.locals) → Contains m.steps s
        → k + 1 ≡ label_of blocks place + length m.steps → goes_on m.steps ≡ (let a = s.act in a.falls)
        → Stands is_of count b.max_stack s.act y m.behind → Leads k s y
    last_leads k s y same within at goes stands = record {
      unbroken = stands.unbroken;
      falls = λ e lt. (
          let n = are.next place m there (goes ∙ e) in
          let up = label_next blocks place m there in
          let next = n.0 in
          covered (k + 1) (after s.act y) (record {
            place = suc place;
            block = next;
            there = n.1;
            is = up ∙ sym at;
            below = below_through count (after s.act y) m.behind next.before stands.goes n.2;
          }) lt
          );
      jumps = λ offset label on e. (
          let l = are.jumps place m there s within offset label on e in
          let to = l.block in
          covered label (after s.act y) (record {
            place = l.place;
            block = to;
            there = l.there;
            is = l.is;
            below = below_through count (after s.act y) m.behind to.before stands.goes l.below;
          }) (found_inside offset label e)
          );
      handled = handed k s y same within;
    }

    -- the first of two leads to the second
    first_leads : (k : ℕ) (s t : Step) → m.steps ≡ s ∷ t ∷ [] → k ≡ label_of blocks place → (let a = s.act in a.targets
        ≡ []) → Stands is_of count b.max_stack s.act m.before m.middle → Leads k s m.before
    first_leads k s t both at nowhere stands = record {
      unbroken = stands.unbroken;
      falls = λ e lt. record {
        row = m.middle;
        is_row = row_there (k + 1) m.middle (ap (λ n. slice_get (frames_of blocks) (n + 1)) at ∙ frame_at blocks place m
            there 1 m.middle (ap (λ (ss : List Step). slice_get (frames_in ss m.before m.middle) 1) both));
        above = stands.goes;
      };
      jumps = λ offset label on e. absurd (none offset (subst (λ (ts : List ℕ). Contains ts offset) nowhere on));
      handled = handed k s m.before refl (subst (λ (ss : List Step). Contains ss s) (sym both) (contains_head s (t
          ∷ [])));
    }
      where
        none : (offset : ℕ) → Contains [] offset → ⊥
        none offset (j, lt, e) = omega (arith, lt)

    -- each of the block's
    leads_in : (k i : ℕ) (s : Step) (x : State) → k ≡ label_of blocks place + i → (steps : List Step) → m.steps ≡ steps
        → AllStand is_of count b.max_stack m.before m.middle m.behind steps → slice_get steps i ≡ Some s
        → slice_get (frames_in steps m.before m.middle) i ≡ Some x → Leads k s x
    leads_in k i s x at [] is stands e f = absurd cc
    leads_in k zero s x at (t ∷ []) is (one stands) e f =
        let step : t ≡ s = cc in
        let frame : m.before ≡ x = cc in
        let long : length m.steps ≡ 1 = ap length is in
        subst (λ (u : Step). Leads k u x) step (subst (λ (y : State). Leads k t y) frame (last_leads k t m.before refl
        (subst (λ (ss : List Step). Contains ss t) (sym is) (contains_head t [])) (omega (arith, at, long)) (ap goes_on
        is) stands))
    leads_in k (suc i) s x at (t ∷ []) is stands e f = absurd cc
    leads_in k zero s x at (t ∷ u ∷ []) is (two stands nowhere same later) e f =
        let step : t ≡ s = cc in
        let frame : m.before ≡ x = cc in
        subst (λ (v : Step). Leads k v x) step (subst (λ (y : State). Leads k t y) frame (first_leads k t u is (omega (
          arith,
          at,
        )) nowhere stands))
    leads_in k (suc zero) s x at (t ∷ u ∷ []) is (two stands nowhere same later) e f =
        let step : u ≡ s = cc in
        let frame : m.middle ≡ x = cc in
        let long : length m.steps ≡ 2 = ap length is in
        subst (λ (v : Step). Leads k v x) step (subst (λ (y : State). Leads k u y) frame (last_leads k u m.middle same
        (subst (λ (ss : List Step). Contains ss u) (sym is) (contains_tail t (u ∷ []) u (contains_head u []))) (omega (
          arith,
          at,
          long,
        )) (ap goes_on is) later))
    leads_in k (suc (suc i)) s x at (t ∷ u ∷ []) is stands e f = absurd cc
    leads_in k zero s x at (t ∷ u ∷ v ∷ more) is stands e f = elim stands [ ]
    leads_in k (suc zero) s x at (t ∷ u ∷ v ∷ more) is stands e f = elim stands [ ]
    leads_in k (suc (suc i)) s x at (t ∷ u ∷ v ∷ more) is stands e f = elim stands [ ]

  leads : (k : ℕ) (s : Step) (x : State) → slice_get (steps_of blocks) k ≡ Some s → slice_get (frames_of blocks) k
      ≡ Some x → Leads k s x
  leads k s x e f =
      let r = located blocks k s x e f in
      let m = r.block in
      leads_in r.place m r.there k r.index s x r.is m.steps refl (are.stand r.place m r.there) r.is_step r.is_frame

  -- ---- the table

  -- what a block has before its instructions is a frame of the method
  own_in : (m : Block) → (let s = states count in s.Own m.before × s.Own m.middle) → (steps : List Step) (i : ℕ)
      (x : State) → slice_get (frames_in steps m.before m.middle) i ≡ Some x → (let s = states count in s.Own x)
  own_in m own [] i x e = absurd cc
  own_in m own (s ∷ steps) zero x e = let same : m.before ≡ x = cc in subst (λ (y : State). let s = states count
      in s.Own y) same own.0
  own_in m own (s ∷ steps) (suc i) x e = subst (λ (y : State). let s = states count in s.Own y) (later steps i e) own.1
    where
      later : (steps : List Step) (i : ℕ) → slice_get (map (λ (t : Step). m.middle) steps) i ≡ Some x → m.middle ≡ x
      later [] i f = absurd cc
      later (t ∷ steps) zero f = cc
      later (t ∷ steps) (suc i) f = later steps i f

  step_at : (k : ℕ) (x : State) → HasRow rows k x → (s : Step) × (slice_get b.steps k ≡ Some s) × (slice_get (steps_of
      blocks) k ≡ Some s)
  step_at k x e =
      let f = frame_there k x e in
      let lt = get_below (frames_of blocks) k x f in
      let r = get_inside b.steps k (omega (arith, lt, total)) in
      (r.0, r.1, ap (λ (ss : List Step). slice_get ss k) (sym are.steps) ∙ r.1)

  own : (k : ℕ) (x : State) → HasRow rows k x → (let s = states count in s.Own x)
  own k x e =
      let s = step_at k x e in
      let r = located blocks k s.0 x s.2 (frame_there k x e) in
      let m = r.block in
      own_in m (are.own r.place m r.there) m.steps r.index x r.is_frame

  -- an edge leads where its instruction does
  module _ (k : ℕ) (s : Step) (x : State) (l : Leads k s x) where
    abbrev a : Act
    a = s.act

    next_covered : (falls : Bool) → a.falls ≡ falls → (to : ℕ) → Contains (next_place falls (length b.steps) k) to
        → Covers (frame_flow b) rows to (after s.act x)
    next_covered false e to on = absurd (none to on)
      where
        none : (to : ℕ) → Contains [] to → ⊥
        none to (j, lt, f) = omega (arith, lt)
    next_covered true e to on = by (nat_lt (k + 1) (length b.steps)) refl on
      where
        by : (t : Bool) → nat_lt (k + 1) (length b.steps) ≡ t → Contains (if t then (k + 1) ∷ [] else []) to
            → Covers (frame_flow b) rows to (after s.act x)
        by false f (j, lt, g) = absurd (omega (arith, lt))
        by true f (zero, lt, g) = subst (λ n. Covers (frame_flow b) rows n (after s.act x)) g (l.falls e (grind (
          arith,
          nat_tests,
          f,
        )))
        by true f (suc j, lt, g) = absurd (omega (arith, lt))

    followed : (to : ℕ) → Contains (successors b.steps k s.act) to → Covers (frame_flow b) rows to (after s.act x)
    followed to on = elim (Contains-append_cases (next_place a.falls (length b.steps) k) (filter_map (place_at b.steps)
        a.targets) to on) [
          | inl next ↦ next_covered a.falls refl to next
          | inr jump ↦ (let r = of_kept (place_at b.steps) a.targets to jump in l.jumps r.0 to r.1 r.2)
        ]

    by_handler : (c : Catch) → Contains b.catches c → (e : Edge State) → (t : Bool) → covers c s.at ≡ t
        → (o : Option ℕ) → place_at b.steps c.target ≡ o → (if t then option_map (edge (caught c x)) o else None)
        ≡ Some e → Covers (frame_flow b) rows e.to e.state
    by_handler c on e false is o at f = absurd cc
    by_handler c on e true is None at f = absurd cc
    by_handler c on e true is (Some to) at f =
        let same : edge (caught c x) to ≡ e = cc in
        subst (λ (d : Edge State). Covers (frame_flow b) rows d.to d.state) same (l.handled c on is to at)

    edge_covered : (ends : Bool) → (e : Edge State) → Contains (step_edges b k s ends x) e → Covers (frame_flow b) rows
        e.to e.state
    edge_covered true e (j, lt, f) = absurd (omega (arith, lt))
    edge_covered false e on = elim (Contains-append_cases (map (edge (after s.act x)) (successors b.steps k s.act))
        (filter_map (handler_edge b.steps s.at x) b.catches) e on) [
          | inl next ↦ (
              let r = of_mapped (edge (after s.act x)) (successors b.steps k s.act) e next in
              subst (λ (d : Edge State). Covers (frame_flow b) rows d.to d.state) r.2 (followed r.0 r.1)
              )
          | inr caught_by ↦ (
              let r = of_kept (handler_edge b.steps s.at x) b.catches e caught_by in
              let c = r.0 in
              by_handler c r.1 e (covers c s.at) refl (place_at b.steps c.target) refl r.2
              )
        ]

  pub closed_table : IsClosed (frame_flow b) (length b.steps) rows
  closed_table = record {
    sized = length-map (frames_of blocks) Some ∙ sym total;
    own = own;
    entry = λ lt. covered 0 (entry b) (are.first lt) lt;
    steps = λ k x e d on. (
        let s = step_at k x e in
        let st = s.0 in
        edge_covered k st x (leads k st x s.2 (frame_there k x e)) (let a = st.act in a.ends) d (subst (λ (o : Option
        Step). Contains (place_edges b k o x) d) s.1 on)
        );
  }

  pub breaks_none : BreaksNone is_of b rows
  breaks_none place rule breach =
      let s = step_at place breach.state breach.reached in
      let l = leads place s.0 breach.state s.2 (frame_there place breach.state breach.reached) in
      let same : s.0 ≡ breach.step = (let both : Some s.0 ≡ Some breach.step = sym s.1 ∙ breach.is_step in cc) in
      l.unbroken rule (subst (λ (t : Step). Breaks is_of b.max_stack t.act breach.state rule) (sym same) breach.breaks)
