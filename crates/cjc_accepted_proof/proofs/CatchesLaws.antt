-- Handlers of Method that cover what is written for an instruction: each is that of a handler of the class file which
-- covers the instruction.
use Rattle.std.proofs.Common.{◌≡◌, ◌⊎◌, ⊎_elim, ℕ, zero, suc, ◌+◌, ◌-◌, ◌<◌, ◌≤◌, refl, sym, ap, subst, ◌∙◌, arith}
use Rattle.std.proofs.Common.{Bool, true, false, inl, inr, List, [], ◌∷◌, ◌++◌, length, length-append, map, flat_map}
use Rattle.std.proofs.Common.{slice_get, Option, Some, None, option_map, Contains}
use Rattle.std.specs.Prelude.{◌&&◌, ◌==◌, cond, nat_le, nat_lt, if◌then◌else◌}
use Rattle.std.specs.List.{AllByRecursion}
use Rattle.std.proofs.lemmas.Bool.{cases_lt}
use Rattle.std.proofs.lemmas.Bool.Decides.{nat_tests}
use Rattle.std.proofs.lemmas.List.Elements.{Contains-append_cases}
use Rattle.cjc_types.proofs.BytesBools.{and_true}
use Rattle.cjc_types.specs.Bytecode.declared.insn.JInsn.{JInsn}
use Rattle.cjc_types.specs.ClassFile.declared.tree.Catch.{Catch as CatchByName}
use Rattle.cjc_types.specs.Fixpoint.Tables.{HasRow}
use Rattle.cjc_types.specs.Fixpoint.Working.Edges.{contains_cons, contains_head, contains_tail}
use Rattle.cjc_types.specs.Flow.{Body as BodyByName, caught_type as type_by_name, covers as covers_by_name}
use Rattle.cjc_types.specs.declared.state.State.{State}
use Rattle.cjc_check_proof.specs.Code.Written.{AllWritable}
use Rattle.cjc_check_proof.specs.NCode.Lowering.Handlers.{AllElsewhere, handler_of, handlers_of}
use Rattle.cjc_check_proof.specs.NCode.Lowering.Handlers as lowered
use Rattle.cjc_check_proof.specs.NCode.Lowering.Laid.{class_index}
use Rattle.cjc_check_proof.specs.NCode.Lowering.Naming.{Naming}
use Rattle.cjc_check_proof.specs.NCode.Lowering.Placed.{HandlersStand, first, offset_of}
use Rattle.cjc_check_proof.specs.NCode.Written.{Resolution, catch_at, catches_at, narrow_code, place_in, reached}
use Rattle.cjc_check_proof.specs.NCode.Written.{written_for}
use Rattle.cjc_check_proof.specs.NCode.declared.narrow.NCatch.{NCatch}
use Rattle.cjc_check_proof.specs.NCode.declared.narrow.NInsn.{NInsn}
use Rattle.cjc_check_proof.specs.TokenProof.Tables.Loading.{components, part}
use Rattle.cjc_check_proof.proofs.CodeLaws.Places.{label_ascends, label_grows}
use Rattle.cjc_check_proof.proofs.CodeLaws.Sorted.{each_ordered}
use Rattle.cjc_check_proof.proofs.NarrowProofPlaced.{reached_at, size, size_fixed}
use Rattle.cjc_narrow_proof.proofs.SelectedLaws.Places.{place_up}
use Rattle.cjc_verify.specs.Bodies.{catch, catches, caught_type}
use Rattle.cjc_verify.specs.CapRead.declared.tree.Handler.{Handler}
use Rattle.cjc_verify.specs.Components.Methods.{placed_at}
use Rattle.cjc_verify.specs.Components.Names.{names}
use Rattle.cjc_verify.specs.Components.Package.{Package}
use Rattle.cjc_verify.specs.Pairs.{Pair}
use Rattle.cjc_frames.specs.Flow.{covers}
use Rattle.cjc_frames.specs.declared.acts.Catch.{Catch}
use Rattle.cjc_frames.specs.declared.acts.Step.{Step}
use Rattle.cjc_accepted_proof.specs.Beside.{Beside, IsBeside, body_by_name, label_in, names_in, offset_in, opened_in}
use Rattle.cjc_accepted_proof.specs.Beside.{reached_in, step_in}
use Rattle.cjc_accepted_proof.specs.Coded.{card_type, is_of}
use Rattle.cjc_accepted_proof.specs.Frames.{IsCaughtAs}
use Rattle.cjc_accepted_proof.specs.Methods.{IsHandlerFor, steps_for, steps_from}
use Rattle.cjc_accepted_proof.specs.Written.{written_pair}

-- ---- lists

pub in_mapped : {A B : Type 0} (f : A → B) (xs : List A) (y : B) → Contains (map f xs) y → (x : A) × Contains xs x
    × (f x ≡ y)
in_mapped f [] y (k, lt, e) = absurd (omega (arith, lt))
in_mapped {A} f (x ∷ xs) y on = by (contains_cons (f x) (map f xs) y on) (in_mapped f xs y)
  where
    by : ((f x ≡ y) ⊎ Contains (map f xs) y) → (Contains (map f xs) y → (z : A) × Contains xs z × (f z ≡ y)) → (z : A)
        × Contains (x ∷ xs) z × (f z ≡ y)
    by (inl same) more = (x, contains_head x xs, same)
    by (inr later) more = let r = more later in (r.0, contains_tail x xs r.0 r.1, r.2)

pub in_handlers : (n : Naming) (to : ℕ → ℕ) (cs : List NCatch) (h : Handler) → Contains (handlers_of n to cs) h
    → (c : NCatch) × (later : List NCatch) × Contains cs c × (handler_of n to c later ≡ h)
in_handlers n to [] h (k, lt, e) = absurd (omega (arith, lt))
in_handlers n to (c ∷ cs) h on = by (contains_cons (handler_of n to c cs) (handlers_of n to cs) h on) (in_handlers n to
    cs h)
  where
    by : ((handler_of n to c cs ≡ h) ⊎ Contains (handlers_of n to cs) h) → (Contains (handlers_of n to cs) h
        → (d : NCatch) × (later : List NCatch) × Contains cs d × (handler_of n to d later ≡ h)) → (d : NCatch)
        × (later : List NCatch) × Contains (c ∷ cs) d × (handler_of n to d later ≡ h)
    by (inl same) rest = (c, cs, contains_head c cs, same)
    by (inr more) rest = let r = rest more in (r.0, r.1, contains_tail c cs r.0 r.2, r.3)

pub each_in : {A : Type 0} (P : A → Type 0) (xs : List A) (x : A) → AllByRecursion P xs → Contains xs x → P x
each_in P [] x all (k, lt, e) = absurd (omega (arith, lt))
each_in P (y ∷ ys) x all on = by (contains_cons y ys x on) (each_in P ys x all.1)
  where
    by : ((y ≡ x) ⊎ Contains ys x) → (Contains ys x → P x) → P x
    by (inl same) more = subst P same all.0
    by (inr later) more = more later

pub all_of : {A : Type 0} (P : A → Type 0) (xs : List A) → ((x : A) → Contains xs x → P x) → AllByRecursion P xs
all_of P [] each = tt
all_of P (x ∷ xs) each = (each x (contains_head x xs), all_of P xs (λ y on. each y (contains_tail x xs y on)))

-- handlers of other methods cover nothing of this one
pub elsewhere_covers : (start end at : ℕ) (hs : List Handler) (h : Handler) → start ≤ at → at ≤ end
    → AllElsewhere start end hs → Contains hs h → h.start ≤ at → at < h.start + h.length → ⊥
elsewhere_covers start end at [] h low high off (k, lt, e) from under = absurd (omega (arith, lt))
elsewhere_covers start end at (g ∷ hs) h low high (lowered.before le off) on from under =
    by (contains_cons g hs h on) (λ later. elsewhere_covers start end at hs h low high off later from under)
  where
    by : ((g ≡ h) ⊎ Contains hs h) → (Contains hs h → ⊥) → ⊥
    by (inl same) more =
        let ends : h.start + h.length ≤ start = subst (λ (z : Handler). z.start + z.length ≤ start) same le in
        omega (arith, ends, low, under)
    by (inr later) more = more later
elsewhere_covers start end at (g ∷ hs) h low high (lowered.behind lt off) on from under =
    by (contains_cons g hs h on) (λ later. elsewhere_covers start end at hs h low high off later from under)
  where
    by : ((g ≡ h) ⊎ Contains hs h) → (Contains hs h → ⊥) → ⊥
    by (inl same) more =
        let begins : end < h.start = subst (λ (z : Handler). end < z.start) same lt in
        omega (arith, begins, high, from)
    by (inr later) more = more later

-- ---- handlers by their labels

-- one that is written for a handler of these
abbrev pub IsFor : (label : ℕ → ℕ) → List CatchByName → NCatch → Type 0
IsFor label all c = (d : CatchByName) × Contains all d × (catch_at label d ≡ c)

pub all_for : (label : ℕ → ℕ) (all ds : List CatchByName) → ((d : CatchByName) → Contains ds d → Contains all d)
    → AllByRecursion (IsFor label all) (catches_at label ds)
all_for label all [] within = tt
all_for label all (d ∷ ds) within =
    let c = catch_at label d in
    by (nat_lt c.start c.end) (all_for label all ds (λ e on. within e (contains_tail d ds e on)))
  where
    by : (b : Bool) → AllByRecursion (IsFor label all) (catches_at label ds) → AllByRecursion (IsFor label all) (cond b
        (catch_at label d ∷ catches_at label ds) (catches_at label ds))
    by true rest = ((d, within d (contains_head d ds), refl), rest)
    by false rest = rest

-- ---- labels

module _ (r : Resolution) where
  -- what is written for an instruction stands before the place of an offset behind it
  place_over : (kept : List JInsn) (o k : ℕ) (i : JInsn) → slice_get kept k ≡ Some i → i.at < o
      → place_in r kept i.at + size r i ≤ place_in r kept o
  place_over [] o k i e lt = absurd cc
  place_over (x ∷ kept) o zero i e lt =
      let same : x ≡ i = cc in
      let at_same : x.at ≡ i.at = ap (λ (y : JInsn). y.at) same in
      let size_same : size r x ≡ size r i = ap (size r) same in
      let rest = place_up r kept i.at o (omega (arith, lt)) in
      let here : nat_lt x.at i.at ≡ false = grind (arith, nat_tests, at_same) in
      let there : nat_lt x.at o ≡ true = grind (arith, nat_tests, at_same, lt) in
      let first : (if nat_lt x.at i.at then size r x else 0) ≡ 0 = ap (λ (b : Bool). if b then size r x else 0) here in
      let second : (if nat_lt x.at o then size r x else 0) ≡ size r x = ap (λ (b : Bool). if b then size r x else 0)
      there in
      omega (arith, first, second, size_same, rest)
  place_over (x ∷ kept) o (suc k) i e lt =
      let rest = place_over kept o k i e lt in
      let first = part_up (nat_lt x.at i.at) refl (nat_lt x.at o) refl in
      omega (arith, first, rest)
    where
      part_up : (p : Bool) → nat_lt x.at i.at ≡ p → (q : Bool) → nat_lt x.at o ≡ q → (if p then size r x else 0)
          ≤ (if q then size r x else 0)
      part_up false f q g = omega arith
      part_up true f true g = omega arith
      part_up true f false g = absurd (let less : x.at < i.at = grind (arith, nat_tests, f) in let more : o ≤ x.at =
          grind (arith, nat_tests, g) in omega (arith, less, more, lt))

  place_few : (p : ℕ → ℕ) (kept : List JInsn) (o : ℕ) → place_in r kept o ≤ length (flat_map (written_for r p) kept)
  place_few p [] o = omega arith
  place_few p (x ∷ kept) o =
      let rest = place_few p kept o in
      let fixed = size_fixed r p (λ z. 0) x in
      let long = length-append (written_for r p x) (flat_map (written_for r p) kept) in
      let first = part_low (nat_lt x.at o) in
      omega (arith, rest, fixed, long, first)
    where
      part_low : (b : Bool) → (if b then size r x else 0) ≤ size r x
      part_low true = omega arith
      part_low false = omega arith

-- ---- a method

module _ (p : Package) (m : Beside) (codes : _) (is : IsBeside p m codes) (can : AllWritable (names p) p.methods)
    (stand : HandlersStand (names p) (placed_at m.offset m.laid) (part p))
    (caught : (d : NCatch) → Contains (let laid = m.laid in let code = laid.code in code.catches) d
    → IsCaughtAs (card_type p) (caught_type (written_pair p) (class_index (names p) d.class)) (type_by_name d.class))
  where
    -- one that catches by its index the card's type of its class
    abbrev IsNamed : NCatch → Type 0
    IsNamed d = IsCaughtAs (card_type p) (caught_type (written_pair p) (class_index (names p) d.class)) (type_by_name
        d.class)

    abbrev to : ℕ → ℕ
    to = offset_in p m

    abbrev label : ℕ → ℕ
    label = label_in p m

    abbrev r : Resolution
    r = names_in p m

    abbrev b : BodyByName
    b = body_by_name m

    abbrev count : ℕ
    count = length (let laid = m.laid in let code = laid.code in code.insns)

    label_few : (o : ℕ) → label o ≤ count
    label_few o =
        let few = place_few r label (reached_in m) o in
        let same = ap length is.insns in
        omega (arith, few, same)

    grows : (j k : ℕ) → j ≤ k → to j ≤ to k
    grows j k le = label_grows (names p) m.offset m.laid (can is.number m.laid is.is_laid) j k le

    ascends : (j k : ℕ) → j < k → k ≤ count → to j < to k
    ascends j k lt le = label_ascends (names p) m.offset m.laid (can is.number m.laid
        is.is_laid) j k lt le

    -- a step of what is written for an instruction
    step_here : (from : ℕ) (insns : List NInsn) (s : Step) → Contains (steps_from (step_in p m) from insns) s
        → (j : ℕ) × (j < length insns) × (s.at ≡ to (from + j))
    step_here from [] s (k, lt, e) = absurd (omega (arith, lt))
    step_here from (x ∷ insns) s on = by (contains_cons (step_in p m from x) (steps_from (step_in p m) (from + 1) insns) s
        on) (step_here (from + 1) insns s)
      where
        by : ((step_in p m from x ≡ s) ⊎ Contains (steps_from (step_in p m) (from + 1) insns) s)
            → (Contains (steps_from (step_in p m) (from + 1) insns) s → (j : ℕ) × (j < length insns) × (s.at ≡ to (from
            + 1
            + j))) → (j : ℕ) × (j < length (x ∷ insns)) × (s.at ≡ to (from + j))
        by (inl same) more =
            let none : from ≡ from + 0 = omega arith in
            (0, omega arith, sym (ap (λ (z : Step). z.at) same) ∙ ap to none)
        by (inr later) more =
            let rest = more later in
            let lt = rest.1 in
            let next : from + 1 + rest.0 ≡ from + suc rest.0 = omega arith in
            (suc rest.0, omega (arith, lt), rest.2 ∙ ap to next)

    module _ (at : ℕ) (i : JInsn) (x : State) (there : slice_get b.insns at ≡ Some i) (row : HasRow m.rows at x)
        (s : Step) (within : Contains (steps_for (card_type p) (is_of p) r b m.rows (opened_in p m) (step_in p m) (label
        i.at) i) s) where
      abbrev here : (j : ℕ) × (j < length (written_for r label i)) × (s.at ≡ to (label i.at + j))
      here = step_here (label i.at) (written_for r label i) s within

      abbrev k : ℕ
      k = label i.at + here.0

      fixed : length (written_for r label i) ≡ size r i
      fixed = size_fixed r label (λ z. 0) i

      kept : (j : ℕ) × (slice_get (reached_in m) j ≡ Some i)
      kept = reached_at b.insns m.rows at i x there row

      k_inside : k < count
      k_inside =
          let lt = here.1 in
          let long = fixed in
          let over = place_over r (reached_in m) (suc i.at) kept.0 i kept.1 (omega arith) in
          let few = label_few (suc i.at) in
          omega (arith, lt, long, over, few)

      -- the range of a handler by labels is its range by offsets
      in_range : (d : CatchByName) → to (label d.start) ≤ s.at → s.at < to (label d.start) + (to (label d.end)
          - to (label d.start)) → covers_by_name d i.at ≡ true
      in_range d low high =
          let at_same = here.2 in
          let lt = here.1 in
          let long = fixed in
          let start_low : label d.start ≤ k = ⊎_elim
          (λ less. (let up = ascends k (label d.start) less (label_few d.start) in absurd (omega (
            arith,
            up,
            low,
            at_same,
          ))))
          (λ le. le)
          (cases_lt k (label d.start)) in
          let end_high : k < label d.end = ⊎_elim
          (λ less. less)
          (λ le. (let up = grows (label d.end) k le in let down = grows (label d.start) k start_low
          in absurd (omega (arith, up, down, low, high, at_same))))
          (cases_lt k (label d.end)) in
          let from : d.start ≤ i.at = ⊎_elim
          (λ less. (let over = place_over r (reached_in m) d.start kept.0 i kept.1 less
          in absurd (omega (arith, over, start_low, lt, long))))
          (λ le. le)
          (cases_lt i.at d.start) in
          let under : i.at < d.end = ⊎_elim
          (λ less. less)
          (λ le. (let up = place_up r (reached_in m) d.end i.at le in absurd (omega (arith, up, end_high))))
          (cases_lt i.at d.end) in
          let first_test : nat_le d.start i.at ≡ true = grind (arith, nat_tests, from) in
          let second_test : nat_lt i.at d.end ≡ true = grind (arith, nat_tests, under) in
          ap (λ (t : Bool). t && nat_lt i.at d.end) first_test ∙ second_test

      -- a handler of Method that covers it
      pub handler_for : (c : Catch) → Contains (catches (written_pair p)) c → covers c s.at ≡ true
          → IsHandlerFor (card_type p) (is_of p) r b m.rows (opened_in p m) (step_in p m) to c i
      handler_for c on cover =
          let f = in_mapped (catch (written_pair p)) (let q = components p in let x = q.method in x.handlers) c on in
          let h = f.0 in
          let at_same = here.2 in
          let inside = k_inside in
          let last : to k < to count = ascends k count inside (omega arith) in
          let begin : to 0 ≤ to k = grows 0 k (omega arith) in
          let none : first (placed_at m.offset m.laid) ≤ to 0 = omega arith in
          let tests = and_true (nat_le c.start s.at) (nat_lt s.at (c.start + c.length)) cover in
          let c_start : h.start ≡ c.start = ap (λ (z : Catch). z.start) f.2 in
          let c_length : h.length ≡ c.length = ap (λ (z : Catch). z.length) f.2 in
          let low : c.start ≤ s.at = (let e = tests.0 in grind (arith, nat_tests, e)) in
          let high : s.at < c.start + c.length = (let e = tests.1 in grind (arith, nat_tests, e)) in
          let from : h.start ≤ s.at = omega (arith, low, c_start) in
          let under : s.at < h.start + h.length = omega (arith, high, c_start, c_length) in
          let start_low : first (placed_at m.offset m.laid) ≤ s.at = omega (arith, begin, none, at_same) in
          let end_high : s.at ≤ to count = omega (arith, last, at_same) in
          let table = (let q = placed_at m.offset m.laid in let x = q.method in x.catches) in
          let own : Contains (handlers_of (names p) to table) h = ⊎_elim
          (λ early. absurd (elsewhere_covers (first (placed_at m.offset m.laid)) (to count) s.at stand.earlier h start_low
          end_high stand.earlier_elsewhere early from under))
          (λ more. ⊎_elim
          (λ here. here)
          (λ late. absurd (elsewhere_covers (first (placed_at m.offset m.laid)) (to count) s.at stand.later h start_low
          end_high stand.later_elsewhere late from under))
          (Contains-append_cases (handlers_of (names p) to table) stand.later h more))
          (Contains-append_cases stand.earlier (handlers_of (names p) to table ++ stand.later) h (subst (λ (hs : List
          Handler). Contains hs h) stand.table f.1)) in
          let g = in_handlers (names p) to table h own in
          let nc = g.0 in
          let tree = m.tree in
          let all : AllByRecursion (IsFor label tree.catches) (let laid = m.laid in let code = laid.code in code.catches)
          = subst (AllByRecursion (IsFor label tree.catches)) (sym is.catches) (all_for label tree.catches tree.catches
          (λ d within. within)) in
          let mine = each_in (IsFor label tree.catches) table nc (each_ordered (IsFor label tree.catches) (let laid =
          m.laid
          in let code = laid.code in code.catches) all) g.2 in
          let laid_catches = (let laid = m.laid in let code = laid.code in code.catches) in
          let named : IsNamed nc = each_in IsNamed table nc (each_ordered IsNamed laid_catches (all_of IsNamed
          laid_catches caught)) g.2 in
          let d = mine.0 in
          let same : handler_of (names p) to (catch_at label d) g.1 ≡ h = ap (λ (z : NCatch). handler_of (names p) to z
          g.1) mine.2 ∙ g.3 in
          let h_start : to (label d.start) ≡ h.start = ap (λ (z : Handler). z.start) same in
          let h_length : to (label d.end) - to (label d.start) ≡ h.length = ap (λ (z : Handler). z.length) same in
          let h_target : to (label d.target) ≡ h.handler = ap (λ (z : Handler). z.handler) same in
          let h_index : class_index (names p) d.class ≡ h.catch_index = ap (λ (z : Handler). z.catch_index) same in
          record {
            catch = d;
            listed = mine.1;
            covers = in_range d (omega (arith, h_start, from)) (omega (arith, h_start, h_length, under));
            caught = subst (λ o. IsCaughtAs (card_type p) o (type_by_name d.class)) (ap (caught_type (written_pair p))
                h_index ∙ ap (λ (z : Catch). z.caught) f.2) (subst IsNamed (sym mine.2) named);
            target = sym (ap (λ (z : Catch). z.target) f.2) ∙ sym h_target;
          }
