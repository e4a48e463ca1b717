-- What breaks a rule in a frame breaks one in each frame above, so a closed table that breaks none leaves the least one
-- none.
use Rattle.std.proofs.Common.{◌≡◌, ◌⊎◌, ℕ, zero, suc, ◌+◌, ◌-◌, ◌<◌, ◌≤◌, refl, sym, ap, ◌∙◌, inl, inr}
use Rattle.std.proofs.Common.{⊎_elim}
use Rattle.std.proofs.Common.{Bool, true, false, List, [], ◌∷◌, ◌++◌, length, length-append, map, drop, slice_get}
use Rattle.std.proofs.Common.{Option}
use Rattle.std.specs.Prelude.{◌&&◌, ◌||◌, not, nat_le, nat_lt, if◌then◌else◌}
use Rattle.std.specs.List.{AllZip, list_all, list_any}
use Rattle.std.proofs.lemmas.List.{length-drop, length-map}
use Rattle.cjc_types.proofs.Greater.{member_passes}
use Rattle.cjc_types.specs.Names.{In}
use Rattle.cjc_types.specs.Cells.{IsCellBelow}
use Rattle.cjc_types.specs.Fixpoint.Tables.{IsClosed}
use Rattle.cjc_types.specs.Rules.{all_types}
use Rattle.cjc_types.specs.States.{IsStackBelow, states}
use Rattle.cjc_types.specs.declared.cell.Cell.{Cell}
use Rattle.cjc_types.specs.declared.cell.Cell.TheVariants.{Number, Refs, Unusable}
use Rattle.cjc_types.specs.declared.state.Stack.{Stack}
use Rattle.cjc_types.specs.declared.state.Stack.TheVariants.{Cells, Clash}
use Rattle.cjc_types.specs.declared.state.State.{State}
use Rattle.cjc_frames.specs.declared.acts.Need.{Need}
use Rattle.cjc_frames.specs.declared.acts.Need.TheVariants.{AnyWord, NumberWord, ReferenceWord, OfType, OfArrays}
use Rattle.cjc_frames.specs.declared.acts.Read.{Read}
use Rattle.cjc_frames.specs.declared.acts.Write.{Write}
use Rattle.cjc_frames.specs.declared.acts.Act.{Act}
use Rattle.cjc_frames.specs.Acts.{Breaks, Subtype, given, has_wrong, has_wrong_local, is_off, is_wrong}
use Rattle.cjc_frames.specs.Acts.{is_wrong_local}
use Rattle.cjc_frames.specs.Acts.{lacks_local, meets, stack_behind}
use Rattle.cjc_frames.specs.Acts.Breaks.{clash, wrong, off, unknown, misnamed}
use Rattle.cjc_frames.specs.Flow.{Body, frame_flow}
use Rattle.cjc_frames.specs.Tables.{IsLeastTable}
use Rattle.cjc_frames.specs.Types.{begins_with}
use Rattle.cjc_accepted_proof.specs.Tables.{BreaksNone}

-- ---- cells

-- names of which each passes
all_in : (p : List ℕ → Bool) (xs : List (List ℕ)) → ((n : List ℕ) → In n xs → p n ≡ true) → list_all p xs ≡ true
all_in p [] h = refl
all_in p (x ∷ xs) h = ap (λ b. b && list_all p xs) (h x (inl refl)) ∙ all_in p xs (λ n i. h n (inr i))

-- fewer types pass as well
types_below : (p : List ℕ → Bool) (x y : Cell) → IsCellBelow x y → all_types p y ≡ true → all_types p x ≡ true
types_below p x Number below e = absurd cc
types_below p x Unusable below e = absurd cc
types_below p Number (Refs names) below e = absurd below
types_below p Unusable (Refs names) below e = absurd below
types_below p (Refs less) (Refs names) below e = all_in p less (λ n i. member_passes p names n e (below n i))

module _ (is_of : Subtype) where
  meets_below : (n : Need) (x y : Cell) → IsCellBelow x y → meets is_of n y ≡ true → meets is_of n x ≡ true
  meets_below AnyWord x y below e = refl
  meets_below NumberWord x (Refs names) below e = absurd cc
  meets_below NumberWord x Unusable below e = absurd cc
  meets_below NumberWord Number Number below e = refl
  meets_below NumberWord (Refs less) Number below e = absurd below
  meets_below NumberWord Unusable Number below e = absurd below
  meets_below ReferenceWord x Number below e = absurd cc
  meets_below ReferenceWord x Unusable below e = absurd cc
  meets_below ReferenceWord Number (Refs names) below e = absurd below
  meets_below ReferenceWord (Refs less) (Refs names) below e = refl
  meets_below ReferenceWord Unusable (Refs names) below e = absurd below
  meets_below (OfType type) x y below e = types_below (λ t. is_of t type) x y below e
  meets_below (OfArrays nibbles) x y below e = types_below (begins_with nibbles) x y below e

  fails_above : (n : Need) (x y : Cell) → IsCellBelow x y → not (meets is_of n x) ≡ true → not (meets is_of n y) ≡ true
  fails_above n x y below e = by (meets is_of n y) refl
    where
      by : (b : Bool) → meets is_of n y ≡ b → not (meets is_of n y) ≡ true
      by true f = absurd (let g : not true ≡ true = sym (ap not (meets_below n x y below f)) ∙ e in cc)
      by false f = ap not f

  -- ---- stacks and locals

  wrong_above : (needs : List Need) (xs ys : List Cell) → AllZip IsCellBelow xs ys → has_wrong is_of needs xs ≡ true
      → has_wrong is_of needs ys ≡ true
  wrong_above [] xs ys below e = absurd cc
  wrong_above (n ∷ needs) [] ys below e = absurd cc
  wrong_above (n ∷ needs) (x ∷ xs) [] below e = absurd below
  wrong_above (n ∷ needs) (x ∷ xs) (y ∷ ys) below e = by (not (meets is_of n x)) refl e (wrong_above needs xs ys
      below.1)
    where
      by : (b : Bool) → not (meets is_of n x) ≡ b → (b || has_wrong is_of needs xs) ≡ true
          → (has_wrong is_of needs xs ≡ true → has_wrong is_of needs ys ≡ true)
          → (not (meets is_of n y) || has_wrong is_of needs ys) ≡ true
      by true is f more = ap (λ b. b || has_wrong is_of needs ys) (fails_above n x y below.0 is)
      by false is f more = ap (λ b. not (meets is_of n y) || b) (more f) ∙ last (not (meets is_of n y))
        where
          last : (b : Bool) → (b || true) ≡ true
          last true = refl
          last false = refl

  local_above : (n : Need) (k : ℕ) (xs ys : List Cell) → AllZip IsCellBelow xs ys → is_wrong_local is_of n (slice_get xs
      k) ≡ true → is_wrong_local is_of n (slice_get ys k) ≡ true
  local_above n k [] ys below e = absurd cc
  local_above n k (x ∷ xs) [] below e = absurd below
  local_above n zero (x ∷ xs) (y ∷ ys) below e = fails_above n x y below.0 e
  local_above n (suc k) (x ∷ xs) (y ∷ ys) below e = local_above n k xs ys below.1 e

  locals_above : (reads : List Read) (xs ys : List Cell) → AllZip IsCellBelow xs ys → has_wrong_local is_of reads xs
      ≡ true → has_wrong_local is_of reads ys ≡ true
  locals_above [] xs ys below e = absurd cc
  locals_above (r ∷ reads) xs ys below e = by (is_wrong_local is_of r.need (slice_get xs r.local)) refl e (locals_above
      reads xs ys below)
    where
      last : (b : Bool) → (b || true) ≡ true
      last true = refl
      last false = refl

      by : (b : Bool) → is_wrong_local is_of r.need (slice_get xs r.local) ≡ b → (b || has_wrong_local is_of reads xs)
          ≡ true → (has_wrong_local is_of reads xs ≡ true → has_wrong_local is_of reads ys ≡ true)
          → (is_wrong_local is_of r.need (slice_get ys r.local) || has_wrong_local is_of reads ys) ≡ true
      by true is f more = ap (λ b. b || has_wrong_local is_of reads ys) (local_above r.need r.local xs ys below is)
      by false is f more = ap (λ b. is_wrong_local is_of r.need (slice_get ys r.local) || b) (more f) ∙ last
          (is_wrong_local is_of r.need (slice_get ys r.local))

  length_below : (xs ys : List Cell) → AllZip IsCellBelow xs ys → length xs ≡ length ys
  length_below [] [] below = refl
  length_below [] (y ∷ ys) below = absurd below
  length_below (x ∷ xs) [] below = absurd below
  length_below (x ∷ xs) (y ∷ ys) below = ap suc (length_below xs ys below.1)

  -- ---- frames

  is_wrong_above : (a : Act) (ls ms xs ys : List Cell) → AllZip IsCellBelow ls ms → AllZip IsCellBelow xs ys
      → is_wrong is_of a ls xs ≡ true → is_wrong is_of a ms ys ≡ true
  is_wrong_above a ls ms xs ys lower below e =
      by (has_wrong is_of a.takes xs) refl (has_wrong_local is_of a.reads ls) refl a.misfits e
    where
      more : (b : Bool) → (b || true) ≡ true
      more true = refl
      more false = refl

      by : (b : Bool) → has_wrong is_of a.takes xs ≡ b → (c : Bool) → has_wrong_local is_of a.reads ls ≡ c → (d : Bool)
          → ((b || c) || d) ≡ true → ((has_wrong is_of a.takes ys || has_wrong_local is_of a.reads ms) || d) ≡ true
      by true is c other d f = ap (λ t. (t || has_wrong_local is_of a.reads ms) || d) (wrong_above a.takes xs ys below
          is)
      by false is true other d f =
          ap (λ t. (has_wrong is_of a.takes ys || t) || d) (locals_above a.reads ls ms lower other)
          ∙ ap (λ t. t || d) (more (has_wrong is_of a.takes ys))
      by false is false other true f = more (has_wrong is_of a.takes ys || has_wrong_local is_of a.reads ms)
      by false is false other false f = absurd cc

  behind_long : (a : Act) (ls xs : List Cell) → length (stack_behind a ls xs) ≡ length a.gives + (length xs - length
      a.takes)
  behind_long a ls xs = length-append (map (given ls xs) a.gives) (drop (length a.takes) xs)
      ∙ ap (λ n. n + length (drop (length a.takes) xs)) (length-map a.gives (given ls xs))
      ∙ ap (λ n. length a.gives + n) (length-drop (length a.takes) xs)

  is_off_above : (max : ℕ) (a : Act) (ls ms xs ys : List Cell) → AllZip IsCellBelow ls ms → AllZip IsCellBelow xs ys
      → is_off max a ls xs ≡ true → is_off max a ms ys ≡ true
  is_off_above max a ls ms xs ys lower below e =
      let locals = length_below ls ms lower in
      let stack = length_below xs ys below in
      let behind : length (stack_behind a ls xs) ≡ length (stack_behind a ms ys) = behind_long a ls xs
      ∙ ap (λ n. length a.gives + (n - length a.takes)) stack ∙ sym (behind_long a ms ys) in
      let lacks : lacks_local a ls ≡ lacks_local a ms = ap (λ n. list_any (λ (r : Read). nat_le n r.local) a.reads
      || list_any (λ (w : Write). nat_le n w.local) a.writes) locals in
      sym (ap (λ n. nat_lt n (length a.takes) || nat_lt max n || nat_lt max (length (stack_behind a ls xs))
      || lacks_local a ls) stack ∙ ap (λ n. nat_lt (length ys) (length a.takes) || nat_lt max (length ys) || nat_lt
      max n
      || lacks_local a ls) behind ∙ ap (λ b. nat_lt (length ys) (length a.takes) || nat_lt max (length ys)
      || nat_lt max (length (stack_behind a ms ys)) || b) lacks) ∙ e

  -- a frame above breaks a rule as well
  breaks_above : (count max : ℕ) (a : Act) (x y : State) → (let s = states count in s.Below x y) → (rule : ℕ)
      → Breaks is_of max a x rule → (other : ℕ) × Breaks is_of max a y other
  breaks_above count max a x y below rule (clash locals) = by y.stack y.locals below.0
    where
      by : (s : Stack) (ls : List Cell) → IsStackBelow Clash s → (other : ℕ)
          × Breaks is_of max a (record { stack = s; locals = ls }) other
      by (Cells ys) ls under = absurd under
      by Clash ls under = (722, clash ls)
  breaks_above count max a x y below rule (wrong s locals e) = by y.stack y.locals below.0 below.1
    where
      by : (t : Stack) (ls : List Cell) → IsStackBelow (Cells s) t
          → AllZip IsCellBelow locals ls → (other : ℕ) × Breaks is_of max a (record { stack = t; locals = ls }) other
      by (Cells ys) ls under lower = (723, wrong ys ls (is_wrong_above a locals ls s ys lower under e))
      by Clash ls under lower = (722, clash ls)
  breaks_above count max a x y below rule (off s locals e) = by y.stack y.locals below.0 below.1
    where
      by : (t : Stack) (ls : List Cell) → IsStackBelow (Cells s) t
          → AllZip IsCellBelow locals ls → (other : ℕ) × Breaks is_of max a (record { stack = t; locals = ls }) other
      by (Cells ys) ls under lower = (724, off ys ls (is_off_above max a locals ls s ys lower under e))
      by Clash ls under lower = (722, clash ls)
  breaks_above count max a x y below rule (unknown z e) = (726, unknown y e)
  breaks_above count max a x y below rule (misnamed z e) = (727, misnamed y e)

  pub none_below : (b : Body) (rows others : List (Option State)) → IsLeastTable b rows → IsClosed (frame_flow b)
      (length b.steps) others → BreaksNone is_of b others → BreaksNone is_of b rows
  none_below b rows others least closed none place rule breach =
      let above = least.least others closed place breach.state breach.reached in
      let s = breach.step in
      let broken = breaks_above b.local_count b.max_stack s.act breach.state above.row above.above rule breach.breaks in
      none place broken.0 (record {
        step = breach.step;
        is_step = breach.is_step;
        state = above.row;
        reached = above.is_row;
        breaks = broken.1;
      })
