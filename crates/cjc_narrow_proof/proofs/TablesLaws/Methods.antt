-- Where both machines stand in a method, by what was read of it and its tables.
use Rattle.std.proofs.Common.{◌≡◌, ◌<◌, ◌+◌, ℕ, suc, Bool, true, false, ◌==◌, ◌&&◌, ◌||◌, cond, List, [], ◌∷◌, length}
use Rattle.std.proofs.Common.{slice_get, filter_map, option_map, Option, Some, None, refl, sym, ap, subst, ◌∙◌, arith}
use Rattle.std.specs.Prelude.{nat_le, nat_lt, not, codes, if◌then◌else◌}
use Rattle.std.specs.List.{Contains, position_or_len}
use Rattle.std.proofs.lemmas.Bool.Decides.{nat_tests}
use Rattle.std.proofs.lemmas.List.Elements.{Contains-append_left, Contains-append_right}
use Rattle.cjc_code.specs.ClassFile.declared.tree.Catch.{Catch}
use Rattle.cjc_code.specs.declared.insn.JInsn.{JInsn}
use Rattle.cjc_types.specs.Fixpoint.Tables.{HasRow}
use Rattle.cjc_types.specs.Fixpoint.Working.Edges.{contains_head, contains_tail}
use Rattle.cjc_script.specs.Sorts.{Shape, OfClass, shape_name, shape_named}
use Rattle.cjc_world.specs.Classes.{Class}
use Rattle.cjc_types.specs.declared.state.State.{State}
use Rattle.cjc_types.specs.Steps.{goes_on, targets}
use Rattle.cjc_types.specs.Flow.{Body, place_at, next_place, successors, covers, caught_type}
use Rattle.cjc_types.specs.TypeLaws.Places.{IsPlaceOf}
use Rattle.cjc_types.proofs.Typed.{contains_kept}
use Rattle.cjc_intervals.specs.Frames.{RangeState, spans_of}
use Rattle.cjc_ncode.specs.declared.narrow.NInsn.{NInsn}
use Rattle.cjc_ncode.specs.Written.{Resolution, written_for, place_in, narrow_code}
use Rattle.cjc_ncode.specs.ByLabel.{Named}
use Rattle.cjc_jvm_semantics.specs.Linked.{Method, Linked}
use Rattle.cjc_jvm_semantics.specs.Effects.{place}
use Rattle.cjc_jvm_semantics.specs.Machine.{offset_of, takes, handler}
use Rattle.cjc_narrow.specs.Pairs.Open.{Open, closed}
use Rattle.cjc_narrow_proof.specs.Tables.Pairs.{with_open}
use Rattle.cjc_narrow_proof.specs.Selection.Tables.{Point}
use Rattle.cjc_narrow_proof.proofs.TablesLaws.Told.{on_both}
use Rattle.cjc_types.specs.Search.{cells_of}
use Rattle.cjc_narrow_proof.specs.Selection.Relation.{Kind, Refers, OnBoth, AllWider, one_wider, none_wider}
use Rattle.cjc_narrow_proof.specs.Selection.Calls.{IsWrittenAt}
use Rattle.cjc_narrow_proof.specs.Selection.Replies.{is_of_some}
use Rattle.cjc_narrow_proof.specs.Selection.Tables.{Table, class_of_code, code_of, written_place, offset_at, spot}
use Rattle.cjc_narrow_proof.specs.Selection.Tables.{Arrives, Handles, handler_at, Catches}
use Rattle.cjc_narrow_proof.proofs.SelectionLaws.KeptHandlers.{handlers_rule}
use Rattle.cjc_narrow_proof.specs.Tables.Kinds.{is_one_of, kinds, point_at, point_of, point_where}
use Rattle.cjc_narrow_proof.specs.Tables.Analysis.{Found, Analysis, reached_in, table_of, IsDecoded, IsSound, IsRead}
use Rattle.cjc_narrow_proof.specs.Tables.Analysis.{CatchesAreTold}
use Rattle.cjc_narrow_proof.proofs.TablesLaws.Placed.{size, size_fixed, reached_at, stands_at, next_at}
use Rattle.cjc_narrow_proof.proofs.TablesLaws.Arrivals.{Goes, leads_to_handler}
use Rattle.cjc_bytes.proofs.Gets.{get_below, get_inside}

-- ---- places by name

one_of : (b : Bool) (n k : ℕ) → n ≡ k → (if b then 0 else suc n) ≡ (if not b then 1 + k else 0)
one_of true n k e = refl
one_of false n k e = omega (arith, e)

place_is : (insns : List JInsn) (offset : ℕ) → place insns offset ≡ position_or_len (λ (i : JInsn). i.at == offset)
    insns
place_is [] offset = refl
place_is (i ∷ insns) offset = one_of (i.at == offset) (place insns offset) (position_or_len (λ (i : JInsn). i.at ==
    offset) insns) (place_is insns offset)

first_is : (b : Bool) (n k : ℕ) → cond b (Some n) None ≡ Some k → n ≡ k
first_is true n k e = cc
first_is false n k e = cc

place_found : (insns : List JInsn) (offset k : ℕ) → place_at insns offset ≡ Some k → place insns offset ≡ k
place_found insns offset k e = place_is insns offset
    ∙ first_is (nat_lt (position_or_len (λ (i : JInsn). i.at == offset) insns) (length insns))
    (position_or_len (λ (i : JInsn). i.at == offset) insns) k e

-- ---- handlers

-- the handler that is found is one of the list, covers the place and takes the exception
record IsHandler (by : Linked) (holder : List ℕ) (catches : List Catch) (offset : ℕ) (type : List ℕ) (target : ℕ) :
    Type 0 where
  pub catch : Catch
  pub among : Contains catches catch
  pub covered : covers catch offset ≡ true
  pub taken : takes by holder catch.class type ≡ true
  pub leads : catch.target ≡ target

later : {by : Linked} {holder : List ℕ} {catches : List Catch} {offset : ℕ} {type : List ℕ} {target : ℕ} (c : Catch)
    → IsHandler by holder catches offset type target → IsHandler by holder (c ∷ catches) offset type target
later {catches = catches} c h = record {
  catch = h.catch;
  among = contains_tail c catches h.catch h.among;
  covered = h.covered;
  taken = h.taken;
  leads = h.leads;
}

found_handler : (by : Linked) (holder : List ℕ) (catches : List Catch) (offset : ℕ) (type : List ℕ) (target : ℕ)
    → handler by holder catches offset type ≡ Some target → IsHandler by holder catches offset type target
found_handler by holder [] offset type target e = cc
found_handler by holder (c ∷ catches) offset type target e = go (nat_le c.start offset && nat_lt offset c.end)
    (takes by holder c.class type) refl refl e (found_handler by holder catches offset type target)
  where
    go : (p q : Bool) → (nat_le c.start offset && nat_lt offset c.end) ≡ p → takes by holder c.class type ≡ q
        → (if p && q then Some c.target else handler by holder catches offset type) ≡ Some target
        → (handler by holder catches offset type ≡ Some target → IsHandler by holder catches offset type target)
        → IsHandler by holder (c ∷ catches) offset type target
    go true true is takes_it f more = record {
      catch = c;
      among = contains_head c catches;
      covered = is;
      taken = takes_it;
      leads = (let same : c.target ≡ target = cc in same);
    }
    go true false is takes_it f more = later c (more f)
    go false q is takes_it f more = later c (more f)

pub wider_length : {ks js : List Kind} → AllWider ks js → length ks ≡ length js
wider_length none_wider = refl
wider_length (one_wider w more) = ap suc (wider_length more)

-- ---- points

-- where no pair is open, what is known is what the tables say
pub known_closed : (l : Named) (types : List (Option State)) (ranges : List (Option RangeState)) (at : ℕ) {o : Open}
    (p : Point) → o ≡ closed → point_at l types ranges at ≡ Some p
    → option_map (with_open o) (point_at l types ranges at) ≡ Some p
known_closed l types ranges at p out is = ap (λ o. option_map (with_open o) (point_at l types ranges at)) out
    ∙ ap (option_map (with_open closed)) is

pub point_on_both : (l : Named) (types : Option (Option State)) (ranges : Option (Option RangeState)) (p : Point)
    → point_where l types ranges ≡ Some p → OnBoth p.stack
point_on_both l None ranges p e = cc
point_on_both l (Some None) ranges p e = cc
point_on_both l (Some (Some t)) None p e = cc
point_on_both l (Some (Some t)) (Some None) p e = cc
point_on_both l (Some (Some t)) (Some (Some x)) p e =
    let same : point_of l t x ≡ p = cc in
    subst (λ (q : Point). OnBoth q.stack) same (on_both l 0 (cells_of t.stack) (spans_of x.stack))

-- ---- a method

module _ (by : Linked) (l : Named) (w : List Class) (a : Analysis) (m : Method) (read : IsRead a m)
    (decoded : IsDecoded (let f = a.found m in f.body)) (sound : IsSound w (let r = a.resolution m
    in r.constant) (a.found m)) where
  abbrev pub f : Found
  f = a.found m

  abbrev pub b : Body
  b = let f = a.found m in f.body

  abbrev pub r : Resolution
  r = a.resolution m

  abbrev pub tb : Table
  tb = table_of l a

  abbrev pub GoesTo : (to : ℕ) → (ks ls : List Kind) → Type 0
  GoesTo to ks ls = Goes l w r.constant f sound to ks ls

  -- the place of what is written for an instruction
  pub spot_is : (at : ℕ) (i : JInsn) → slice_get b.insns at ≡ Some i → spot tb m at ≡ place_in r (reached_in f) i.at
  spot_is at i there = ap (λ insns. place_in r (reached_in f) (offset_of (slice_get insns at))) read.insns
      ∙ ap (λ o. place_in r (reached_in f) (offset_of o)) there

  -- what is written stands there
  pub written_at : (at : ℕ) (i : JInsn) (t : State) → slice_get b.insns at ≡ Some i → HasRow f.types at t
      → (j : ℕ) (insn : NInsn) → slice_get (written_for r (written_place tb m) i) j ≡ Some insn
      → slice_get (let code = code_of tb m in code.insns) (spot tb m at + j) ≡ Some insn
  written_at at i t there row j insn is =
      ap (λ code. slice_get code (spot tb m at + j)) read.code
      ∙ ap (λ k. slice_get (narrow_code r (reached_in f)) (k + j)) (spot_is at i there)
      ∙ stands_at r (place_in r (reached_in f)) b.insns f.types decoded.ascend at i t there row j insn is

  -- where both go on, the table has a point
  pub arrives : (to next : ℕ) (ks ls : List Kind) → a.opened m to ≡ closed → GoesTo to ks ls → next ≡ spot tb m to
      → Arrives tb m to next ks ls
  arrives to next ks ls out goes is = record {
    point = goes.point;
    is_reached = known_closed l f.types f.ranges to goes.point out goes.is;
    place = is;
    stack = goes.stack;
    locals = goes.locals;
    all_there = point_on_both l (slice_get f.types to) (slice_get f.ranges to) goes.point goes.is;
  }

  -- ---- behind an instruction

  pub follows : (at : ℕ) (i : JInsn) → slice_get b.insns at ≡ Some i → goes_on i.op ≡ true
      → Contains (successors b.insns at i.op) (at + 1)
  follows at i there goes =
      let low = decoded.next at i there goes in
      let lt : nat_lt (at + 1) (length b.insns) ≡ true = grind (arith, nat_tests) in
      Contains-append_left (next_place (goes_on i.op) (length b.insns) at) (filter_map (place_at b.insns)
      (targets i.op)) (at + 1)
      (subst (λ on. Contains (next_place on (length b.insns) at) (at + 1)) (sym goes) (subst (λ is. Contains (if is
      then (at + 1) ∷ [] else []) (at + 1)) (sym lt) (contains_head (at + 1) [])))

  -- the place behind what is written is that of the next instruction
  pub next_spot : (at : ℕ) (i : JInsn) (t : State) → slice_get b.insns at ≡ Some i → HasRow f.types at t
      → at + 1 < length b.insns → spot tb m at + length (written_for r (written_place tb m) i) ≡ spot tb m (at + 1)
  next_spot at i t there row low =
      let same : at + 1 ≡ suc at = omega arith in
      let n = get_inside b.insns (suc at) (omega (arith, low)) in
      let sizes = size_fixed r (written_place tb m) (λ o. 0) i in
      let here = spot_is at i there in
      let behind = spot_is (suc at) n.0 n.1 in
      let next = next_at r b.insns f.types decoded.ascend at i n.0 t there n.1 row in
      ap (λ k. spot tb m at + k) sizes ∙ ap (λ k. k + size r i) here ∙ sym next ∙ sym behind ∙ ap (spot tb m) (sym same)

  -- ---- jumps

  -- of an offset at which an instruction stands
  at_place : (offset to : ℕ) → IsPlaceOf b.insns offset to → (ks ls : List Kind) → a.opened m to ≡ closed
      → GoesTo to ks ls → Arrives tb m (place m.insns offset) (written_place tb m offset) ks ls
  at_place offset to stands ks ls out known =
      let named : place m.insns offset ≡ to = ap (λ insns. place insns offset) read.insns
      ∙ place_found b.insns offset to stands.found in
      let there = spot_is to stands.insn stands.is_insn in
      subst (λ k. Arrives tb m k (written_place tb m offset) ks ls) (sym named) (arrives to (written_place tb m offset)
      ks ls out known (ap (place_in r (reached_in f)) (sym stands.stands) ∙ sym there))

  -- an instruction that is a target stands in the list
  pub target_there : (at : ℕ) (i : JInsn) (offset : ℕ) → slice_get b.insns at ≡ Some i → Contains (targets i.op) offset
      → place m.insns offset < length b.insns
  target_there at i offset there among =
      let p = decoded.targets at i offset there among in
      let stands = p.1 in
      let named : place m.insns offset ≡ p.0 = ap (λ insns. place insns offset) read.insns
      ∙ place_found b.insns offset p.0 stands.found in
      let low = get_below b.insns p.0 stands.insn stands.is_insn in
      omega (arith, named, low)

  pub leads : (at : ℕ) (i : JInsn) (offset : ℕ) (ks ls : List Kind) → slice_get b.insns at ≡ Some i
      → Contains (targets i.op) offset → ((to : ℕ) → Contains (successors b.insns at i.op) to → GoesTo to ks ls)
      → Arrives tb m (place m.insns offset) (written_place tb m offset) ks ls
  leads at i offset ks ls there among goes =
      let p = decoded.targets at i offset there among in
      let to = p.0 in
      let stands = p.1 in
      let known = goes to (Contains-append_right (next_place (goes_on i.op) (length b.insns) at)
      (filter_map (place_at b.insns) (targets i.op)) to (contains_kept (place_at b.insns) (targets i.op) offset to among
      stands.found)) in
      at_place offset to stands ks ls (read.pairs.targets at i offset to there among stands) known

  -- ---- handlers

  module _ (told : CatchesAreTold by l a m) (at : ℕ) (i : JInsn) (t : State) (x : RangeState) (there : slice_get b.insns
      at ≡ Some i) (row : HasRow f.types at t) (ranged : HasRow f.ranges at x) where
    offset_here : offset_at m at ≡ i.at
    offset_here = ap (λ insns. offset_of (slice_get insns at)) read.insns ∙ ap offset_of there

    is_written : 0 < length (written_for r (λ o. 0) i) → IsWrittenAt r (reached_in f) (offset_at m at) (spot tb m at)
    is_written some =
        let k = reached_at b.insns f.types at i t there row in
        let here = spot_is at i there in
        let offset = offset_here in
        record {
          number = k.0;
          insn = i;
          is_there = k.1;
          is_at = sym offset;
          behind = 0;
          is_among = some;
          place = (let e = ap (place_in r (reached_in f)) offset in omega (arith, here, e));
        }

    caught_within : (kind : Shape (List ℕ)) → a.may_throw kind ≡ true → (c : Catch) → Contains m.catches c
        → takes by (class_of_code m) c.class (shape_name kind) ≡ true → is_one_of l (caught_type c.class ∷ []) kind
        ≡ true
    caught_within kind may c among taken = go c.class refl taken
      where
        one : (name : List ℕ) → shape_named name ≡ Some (OfClass name) → l.is_of kind (OfClass name) ≡ true
            → is_one_of l (name ∷ []) kind ≡ true
        one name named is = ap (λ o. is_of_some l kind o || false) named ∙ ap (λ b. b || false) is

        go : (class : Option (List ℕ)) → c.class ≡ class → takes by (class_of_code m) class (shape_name kind) ≡ true
            → is_one_of l (caught_type class ∷ []) kind ≡ true
        go None e taken = one (codes "java/lang/Throwable") refl (told.throwable kind may)
        go (Some class) e taken = one class (told.named c class among e) (sym (told.tells kind class) ∙ taken)

    handled : (kind : Shape (List ℕ)) → a.may_throw kind ≡ true → (target : ℕ) → handler_at by m at kind ≡ Some target
        → Handles tb m target (kinds l t.locals x.locals) kind
    handled kind may target found =
        let h = found_handler by (class_of_code m) m.catches (offset_at m at) (shape_name kind) target found in
        let c = h.catch in
        let among : Contains b.catches c = subst (λ cs. Contains cs c) read.catches h.among in
        let covered : covers c i.at ≡ true = subst (λ o. covers c o ≡ true) offset_here h.covered in
        let place_there = decoded.handlers c among in
        let to = place_there.0 in
        let stands = place_there.1 in
        let known = leads_to_handler l w r.constant f sound at i t x there row ranged c among covered to stands.found in
        let high = known.low in
        let one = wider_length known.stack in
        let max = read.max_stack in
        let narrow_max = read.narrow_max_stack in
        record {
          within = is_one_of l (caught_type c.class ∷ []);
          passes = caught_within kind may c h.among h.taken;
          arrives = subst (λ o. Arrives tb m (place m.insns o) (written_place tb m o)
              (Refers (is_one_of l (caught_type c.class ∷ [])) ∷ []) (kinds l t.locals x.locals)) h.leads
              (at_place c.target to stands (Refers (is_one_of l (caught_type c.class ∷ []))
              ∷ []) (kinds l t.locals x.locals) (read.pairs.handlers c to among stands) known);
          has_room = omega (arith, high, one, max);
          narrow_has_room = omega (arith, high, one, max, narrow_max);
        }

    -- Exceptions of each type that may be thrown are handled alike there, where something is written.
    pub catches : 0 < length (written_for r (λ o. 0) i) → Catches by l tb m at (kinds l t.locals x.locals)
    catches some kind may = handlers_rule by l tb m at (kinds l t.locals x.locals) kind read.handlers (is_written some)
        (told.tells kind) (handled kind may)
