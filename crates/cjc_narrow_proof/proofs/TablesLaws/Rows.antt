-- Rows of instructions that name nothing keep their rules, by both tables.
use Rattle.std.proofs.Common.{◌≡◌, ◌<◌, ◌+◌, ℕ, suc, true, List, [], ◌∷◌, ◌++◌, length, take, drop, slice_get}
use Rattle.std.proofs.Common.{Option, Some, sym, ap, subst, ◌∙◌, arith}
use Rattle.std.specs.Prelude.{◌≢◌}
use Rattle.std.specs.List.{Contains}
use Rattle.cjc_range.specs.Span.{Span}
use Rattle.cjc_code.specs.declared.insn.JInsn.{JInsn}
use Rattle.cjc_code.specs.declared.insn.JOp.{JOp}
use Rattle.cjc_code.specs.declared.insn.JOp.TheVariants as jop
use Rattle.cjc_types.specs.Fixpoint.Tables.{HasRow}
use Rattle.cjc_world.specs.Classes.{Class}
use Rattle.cjc_types.specs.declared.cell.Cell.{Cell}
use Rattle.cjc_types.specs.declared.state.State.{State}
use Rattle.cjc_types.specs.Search.{cells_of}
use Rattle.cjc_types.specs.Steps.{takes, goes_on, targets}
use Rattle.cjc_types.specs.Steps as typed
use Rattle.cjc_types.specs.Flow.{successors}
use Rattle.cjc_intervals.specs.Frames.{RangeState, spans_of}
use Rattle.cjc_intervals.specs.Steps.{gives, stack_behind, locals_after}
use Rattle.cjc_ncode.specs.declared.narrow.NInsn.{NInsn}
use Rattle.cjc_script.specs.declared.value.Value.{Value}
use Rattle.cjc_ncode.specs.Written.{written, written_as, written_for}
use Rattle.cjc_ncode.specs.ByLabel.{Named}
use Rattle.cjc_jvm_semantics.specs.Linked.{Method, Linked}
use Rattle.cjc_range.proofs.Order.{within_refl, within_trans}
use Rattle.cjc_narrow_proof.specs.Selection.Relation.{Kind, Range, Refers, Free, Away, Wider, more_numbers, more_types}
use Rattle.cjc_narrow_proof.specs.Selection.Relation.{number_free, reference_free, free_free, away, AllWider}
use Rattle.cjc_narrow_proof.specs.Selection.Relation.{none_wider, one_wider}
use Rattle.cjc_narrow_proof.specs.Selection.Rows.{HasRoom, RowAgrees, RowOnLocals, IsNotWritten}
use Rattle.cjc_narrow_proof.specs.Selection.Jumps.{JumpAgrees}
use Rattle.cjc_narrow_proof.specs.Selection.Switches.{TwoAgree}
use Rattle.cjc_jvm_semantics.specs.Effects.{Store, Go, effect, place}
use Rattle.cjc_narrow_proof.specs.Selection.Tables.{written_place, spot, Arrives, Catches}
use Rattle.cjc_narrow_proof.specs.Selection.Runs.{RuleWithin}
use Rattle.cjc_narrow_proof.proofs.SelectionLaws.KeptRows.{row_rule, on_locals_rule, jump_rule, not_written_rule}
use Rattle.cjc_narrow_proof.proofs.SelectionLaws.KeptRows.{two_rule}
use Rattle.cjc_narrow_proof.specs.Tables.Kinds.{kinds, kinds_from, point_of}
use Rattle.cjc_narrow_proof.specs.Tables.Analysis.{Analysis, IsAlone, IsDecoded, IsSound, IsRead}
use Rattle.cjc_narrow_proof.specs.Tables.Analysis.{CatchesAreTold}
use Rattle.cjc_narrow_proof.proofs.TablesLaws.Calm.{never_tosses}
use Rattle.cjc_narrow_proof.proofs.TablesLaws.Told.{kinds_length, before_is, behind_is}
use Rattle.cjc_narrow_proof.proofs.TablesLaws.Arrivals.{is_typed, leads_on}
use Rattle.cjc_narrow_proof.proofs.TablesLaws.Placed.{size_fixed}
use Rattle.cjc_narrow_proof.proofs.TablesLaws.Methods.{tb, GoesTo, written_at, arrives, follows, next_spot}
use Rattle.cjc_narrow_proof.proofs.TablesLaws.Methods.{target_there, leads, catches, wider_length}

-- ---- orders of kinds

pub wider_itself : (k : Kind) → Wider k k
wider_itself (Range s) = more_numbers (within_refl s)
wider_itself (Refers within) = more_types (λ kind e. e)
wider_itself Free = free_free
wider_itself (Away k) = away (wider_itself k)

pub all_wider_itself : (ks : List Kind) → AllWider ks ks
all_wider_itself [] = none_wider
all_wider_itself (k ∷ ks) = one_wider (wider_itself k) (all_wider_itself ks)

pub wider_append : {ks js is hs : List Kind} → AllWider ks js → AllWider is hs → AllWider (ks ++ is) (js ++ hs)
wider_append none_wider q = q
wider_append (one_wider w more) q = one_wider w (wider_append more q)

pub wider_through : {a b c : Kind} → Wider a b → Wider b c → Wider a c
wider_through (more_numbers {s = s} {t = t} h) (more_numbers {t = u} k) = more_numbers (within_trans s t u h k)
wider_through (more_numbers h) number_free = number_free
wider_through (more_types f) (more_types g) = more_types (λ kind e. g kind (f kind e))
wider_through (more_types f) reference_free = reference_free
wider_through number_free free_free = number_free
wider_through reference_free free_free = reference_free
wider_through free_free free_free = free_free
wider_through (away p) (away q) = away (wider_through p q)

pub all_wider_through : {ks js is : List Kind} → AllWider ks js → AllWider js is → AllWider ks is
all_wider_through none_wider none_wider = none_wider
all_wider_through (one_wider p ps) (one_wider q qs) = one_wider (wider_through p q) (all_wider_through ps qs)

module _ (by : Linked) (l : Named) (w : List Class) (a : Analysis) (m : Method) (read : IsRead a m)
    (decoded : IsDecoded (let f = a.found m in f.body)) (sound : IsSound w (let r = a.resolution m
    in r.constant) (a.found m)) (told : CatchesAreTold by l a m)
    (at offset : ℕ) (op : JOp) (t : State) (x : RangeState) (there : slice_get (let f = a.found m in let b = f.body
    in b.insns) at ≡ Some (record { at = offset; op = op })) (row : HasRow (let f = a.found m in f.types) at t)
    (ranged : IsAlone a m at x) where
  abbrev pub insn_here : JInsn
  insn_here = record { at = offset; op = op }

  abbrev pub cells : List Cell
  cells = cells_of t.stack

  abbrev pub numbers : List Span
  numbers = spans_of x.stack

  abbrev pub given : List Cell
  given = typed.gives op t.locals cells

  abbrev pub new : List Span
  new = gives (let r = a.resolution m in r.constant) op cells x.locals numbers

  abbrev pub behind : List Span
  behind = stack_behind (let r = a.resolution m in r.constant) op cells x.locals numbers

  -- what is taken, what is given and what stays
  abbrev pub before : List Kind
  before = kinds l (take (takes op) cells) numbers

  abbrev pub after : List Kind
  after = kinds l given behind

  abbrev pub rest : List Kind
  rest = kinds_from l (takes op) (drop (takes op) cells) numbers

  abbrev pub locals : List Kind
  locals = kinds l t.locals x.locals

  abbrev pub locals_behind : List Kind
  locals_behind = kinds l (typed.locals_after op t.locals t.stack) (locals_after op x.locals x.stack)

  abbrev Keeps : Type 0
  Keeps = RuleWithin by l (tb by l w a m read decoded sound) m at (point_of l t x) insn_here

  pub stack_before : kinds l cells numbers ≡ before ++ rest
  stack_before = let h = is_typed l w (let r = a.resolution m in r.constant) (a.found m) sound at insn_here t there row
      in before_is l (takes op) cells numbers h.there

  pub stack_after : length given ≡ length new → kinds l (typed.stack_behind op t.locals cells) behind ≡ after ++ rest
  stack_after same = behind_is l (takes op) given cells new numbers same

  pub roomy : length given ≡ length new → HasRoom (after ++ rest) m.max_stack (let n = a.narrowed m in let code = n.code
      in code.max_stack)
  roomy same =
      let h = is_typed l w (let r = a.resolution m in r.constant) (a.found m) sound at insn_here t there row in
      let high = h.room_behind in
      let long = kinds_length l 0 (typed.stack_behind op t.locals cells) behind in
      let parts = ap length (stack_after same) in
      let max = read.max_stack in
      let narrow_max = read.narrow_max_stack in
      record {
        by_name = omega (arith, high, long, parts, max);
        narrow = omega (
          arith,
          high,
          long,
          parts,
          max,
          narrow_max,
        );
      }

  -- where it leads
  pub on : length given ≡ length new → (to : ℕ) → Contains (successors (let f = a.found m in let b = f.body
      in b.insns) at op) to → GoesTo by l w a m read decoded sound to (after ++ rest) locals_behind
  on same to is = subst (λ ks. GoesTo by l w a m read decoded sound to ks locals_behind) (stack_after same)
      (leads_on l w (let r = a.resolution m in r.constant)
      (a.found m) sound at insn_here t x there row ranged.row to is)

  -- its role changes nothing of what is written
  pub as_alone : (p : ℕ → ℕ) → written_for (a.resolution m) p insn_here ≡ written (a.resolution m) p op
  as_alone p = ap (λ role. written_as role (a.resolution m) p op) (ranged.stands.alone insn_here there)

  pub first_there : (insn : NInsn) (more : List NInsn)
      → written (a.resolution m) (written_place (tb by l w a m read decoded sound) m) op ≡ insn ∷ more
      → slice_get (let n = a.narrowed m in let code = n.code in code.insns) (spot (tb by l w a m read decoded sound) m
      at) ≡ Some insn
  first_there insn more is =
      let here : spot (tb by l w a m read decoded sound) m at + 0 ≡ spot (tb by l w a m read decoded sound) m at =
      omega arith in
      subst (λ k. slice_get (let n = a.narrowed m in let code = n.code in code.insns) k ≡ Some insn) here
      (written_at by l w a m read decoded sound at insn_here t there row 0 insn
      (ap (λ is. slice_get is 0) (as_alone (written_place (tb by l w a m read decoded sound) m) ∙ is)))

  second_there : (insn second : NInsn) → written (a.resolution m) (written_place (tb by l w a m read decoded sound) m)
      op ≡ insn ∷ second ∷ [] → slice_get (let n = a.narrowed m in let code = n.code
      in code.insns) (spot (tb by l w a m read decoded sound) m at + 1) ≡ Some second
  second_there insn second is = written_at by l w a m read decoded sound at insn_here t there row 1 second
      (ap (λ is. slice_get is 1) (as_alone (written_place (tb by l w a m read decoded sound) m) ∙ is))

  -- behind n instructions that are written
  place_behind : (n : ℕ) → length (written (a.resolution m) (written_place (tb by l w a m read decoded sound) m) op) ≡ n
      → at + 1 < length (let f = a.found m in let b = f.body in b.insns) → spot (tb by l w a m read decoded sound) m at
      + n ≡ spot (tb by l w a m read decoded sound) m (at + 1)
  place_behind n long low = ap (λ k. spot (tb by l w a m read decoded sound) m at + k)
      (sym (ap length (as_alone (written_place (tb by l w a m read decoded sound) m)) ∙ long))
      ∙ next_spot by l w a m read decoded sound at insn_here t there row low

  pub next_place_is : (n : ℕ) → length (written (a.resolution m) (written_place (tb by l w a m read decoded sound) m)
      op) ≡ n → goes_on op ≡ true → spot (tb by l w a m read decoded sound) m at + n
      ≡ spot (tb by l w a m read decoded sound) m (at + 1)
  next_place_is n long goes = place_behind n long (decoded.next at insn_here there goes)

  pub some_written : (n : ℕ) → length (written (a.resolution m) (written_place (tb by l w a m read decoded sound) m) op)
      ≡ suc n → 0 < length (written_for (a.resolution m) (λ o. 0) insn_here)
  some_written n long =
      let same = size_fixed (a.resolution m) (written_place (tb by l w a m read decoded sound) m) (λ o. 0) insn_here in
      let alone = ap length (as_alone (written_place (tb by l w a m read decoded sound) m)) in
      omega (arith, same, alone, long)

  -- ---- rules

  -- one instruction is written, and both go on behind it
  pub row_by : op ≢ jop.Throw → goes_on op ≡ true → (insn : NInsn)
      → written (a.resolution m) (written_place (tb by l w a m read decoded sound) m) op ≡ insn ∷ []
      → length given ≡ length new → locals_behind ≡ locals → RowAgrees by l (a.resolution m) m op before after → Keeps
  row_by calm goes insn is same kept agrees =
      let long : length (written (a.resolution m) (written_place (tb by l w a m read decoded sound) m) op) ≡ 1 =
      ap length is in
      row_rule by l (tb by l w a m read decoded sound) m at (point_of l t x) insn_here before after rest insn is
      (first_there insn [] is) agrees stack_before (roomy same)
      (λ locals store vs object. never_tosses by m at locals store op calm vs object)
      (arrives by l w a m read decoded sound (at + 1) (spot (tb by l w a m read decoded sound) m at + 1) (after
      ++ rest) locals ranged.stands.behind (subst (λ ls. GoesTo by l w a m read decoded sound (at + 1)
      (after ++ rest) ls) kept
      (on same (at + 1) (follows by l w a m read decoded sound at insn_here there goes)))
      (next_place_is 1 long goes))
      (catches by l w a m read decoded sound told at insn_here t x there row ranged.row (some_written 0 long))

  -- the same where locals are read or written
  pub on_locals_by : op ≢ jop.Throw → goes_on op ≡ true → (insn : NInsn)
      → written (a.resolution m) (written_place (tb by l w a m read decoded sound) m) op ≡ insn ∷ []
      → length given ≡ length new → RowOnLocals by l (a.resolution m) m op before after locals locals_behind → Keeps
  on_locals_by calm goes insn is same agrees =
      let long : length (written (a.resolution m) (written_place (tb by l w a m read decoded sound) m) op) ≡ 1 =
      ap length is in
      on_locals_rule by l (tb by l w a m read decoded sound) m at (point_of l t x) insn_here before after locals_behind
      rest insn is (first_there insn [] is) agrees stack_before (roomy same)
      (λ locals store vs object. never_tosses by m at locals store op calm vs object)
      (arrives by l w a m read decoded sound (at + 1) (spot (tb by l w a m read decoded sound) m at + 1) (after
      ++ rest) locals_behind ranged.stands.behind (on same (at + 1)
      (follows by l w a m read decoded sound at insn_here there goes))
      (next_place_is 1 long goes))
      (catches by l w a m read decoded sound told at insn_here t x there row ranged.row (some_written 0 long))

  -- nothing is written
  pub not_written_by : goes_on op ≡ true → length given ≡ length new → locals_behind ≡ locals
      → IsNotWritten by (a.resolution m) m op before after → Keeps
  not_written_by goes same kept not_written =
      let none : length (written (a.resolution m) (written_place (tb by l w a m read decoded sound) m) op) ≡ 0 =
      ap length (not_written.is_left_out (written_place (tb by l w a m read decoded sound) m)) in
      let few = decoded.few in
      let low = decoded.next at insn_here there goes in
      let here : spot (tb by l w a m read decoded sound) m at + 0 ≡ spot (tb by l w a m read decoded sound) m at =
      omega arith in
      not_written_rule by l (tb by l w a m read decoded sound) m at (point_of l t x) insn_here before after rest
      not_written stack_before
      (arrives by l w a m read decoded sound (at + 1) (spot (tb by l w a m read decoded sound) m at) (after
      ++ rest) locals ranged.stands.behind (subst (λ ls. GoesTo by l w a m read decoded sound (at + 1)
      (after ++ rest) ls) kept
      (on same (at + 1) (follows by l w a m read decoded sound at insn_here there goes))) (sym here
      ∙ next_place_is 0 none goes))
      (omega (arith, few, low))

  -- ---- jumps

  -- to each of its targets
  lands : length given ≡ length new → locals_behind ≡ locals → (o : ℕ) → Contains (targets op) o
      → Arrives (tb by l w a m read decoded sound) m (place m.insns o) (written_place (tb by l w a m read decoded sound)
      m o) (after ++ rest) locals
  lands same kept o among = leads by l w a m read decoded sound at insn_here o (after ++ rest) locals there among
      (λ to is. subst (λ ls. GoesTo by l w a m read decoded sound to (after ++ rest) ls) kept (on same to is))

  -- one instruction is written, which jumps or goes on
  pub jump_by : goes_on op ≡ true → (insn : NInsn)
      → written (a.resolution m) (written_place (tb by l w a m read decoded sound) m) op ≡ insn ∷ [] → given ≡ []
      → new ≡ [] → locals_behind ≡ locals → JumpAgrees by l (a.resolution m) m op before (targets op) → Keeps
  jump_by goes insn is none none' kept agrees =
      let same : length given ≡ length new = ap length none ∙ sym (ap length none') in
      let long : length (written (a.resolution m) (written_place (tb by l w a m read decoded sound) m) op) ≡ 1 =
      ap length is in
      let nothing : after ++ rest ≡ rest = ap (λ cs. kinds l cs behind ++ rest) none in
      jump_rule by l (tb by l w a m read decoded sound) m at (point_of l t x) insn_here before rest (targets op) insn is
      (first_there insn [] is) agrees stack_before
      (λ o among. subst (λ ks. Arrives (tb by l w a m read decoded sound) m (place m.insns o)
      (written_place (tb by l w a m read decoded sound) m o) ks locals) nothing (lands same kept o among))
      (λ ls after' store new' vs stack e. subst (λ ks. Arrives (tb by l w a m read decoded sound) m (at + 1)
      (spot (tb by l w a m read decoded sound) m at + 1) ks locals) nothing
      (arrives by l w a m read decoded sound (at + 1) (spot (tb by l w a m read decoded sound) m at + 1) (after
      ++ rest) locals ranged.stands.behind (subst (λ ls. GoesTo by l w a m read decoded sound (at + 1)
      (after ++ rest) ls) kept
      (on same (at + 1) (follows by l w a m read decoded sound at insn_here there goes)))
      (next_place_is 1 long goes)))

  -- A jump that never goes on may lead behind itself, as to any of its targets.
  abbrev pub OnlyJumps : Type 0
  OnlyJumps = (ls after' : List (Option Value)) (store new' : Store) (vs stack : List Value)
      → effect by m at ls store op vs ≡ Go (at + 1) stack after' new' → (o : ℕ) × Contains (targets op) o
      × (place m.insns o ≡ at + 1)

  lands_behind : (n : ℕ) → length (written (a.resolution m) (written_place (tb by l w a m read decoded sound) m) op) ≡ n
      → length given ≡ length new → locals_behind ≡ locals → (o : ℕ) → Contains (targets op) o
      → place m.insns o ≡ at + 1 → Arrives (tb by l w a m read decoded sound) m (at + 1)
      (spot (tb by l w a m read decoded sound) m at + n) (after ++ rest) locals
  lands_behind n long same kept o among is =
      let lands_there = lands same kept o among in
      let low = target_there by l w a m read decoded sound at insn_here o there among in
      record {
        point = lands_there.point;
        is_reached = subst (λ k. (tb by l w a m read decoded sound).point m k ≡ Some lands_there.point) is
            lands_there.is_reached;
        all_there = lands_there.all_there;
        place = place_behind n long (subst (λ k. k < length (let f = a.found m in let b = f.body in b.insns)) is low);
        stack = lands_there.stack;
        locals = lands_there.locals;
      }

  -- one instruction is written, which jumps
  pub jump_only_by : (insn : NInsn) → written (a.resolution m) (written_place (tb by l w a m read decoded sound) m) op
      ≡ insn ∷ [] → given ≡ [] → new ≡ [] → locals_behind ≡ locals → OnlyJumps
      → JumpAgrees by l (a.resolution m) m op before (targets op) → Keeps
  jump_only_by insn is none none' kept only agrees =
      let same : length given ≡ length new = ap length none ∙ sym (ap length none') in
      let long : length (written (a.resolution m) (written_place (tb by l w a m read decoded sound) m) op) ≡ 1 =
      ap length is in
      let nothing : after ++ rest ≡ rest = ap (λ cs. kinds l cs behind ++ rest) none in
      jump_rule by l (tb by l w a m read decoded sound) m at (point_of l t x) insn_here before rest (targets op) insn is
      (first_there insn [] is) agrees stack_before
      (λ o among. subst (λ ks. Arrives (tb by l w a m read decoded sound) m (place m.insns o)
      (written_place (tb by l w a m read decoded sound) m o) ks locals) nothing (lands same kept o among))
      (λ ls after' store new' vs stack e. (let j = only ls after' store new' vs stack e
      in subst (λ ks. Arrives (tb by l w a m read decoded sound) m (at + 1) (spot (tb by l w a m read decoded sound)
      m at + 1) ks locals) nothing (lands_behind 1 long same kept j.0 j.1 j.2)))

  -- two instructions are written, the second of which jumps
  pub two_by : (insn second : NInsn) → written (a.resolution m) (written_place (tb by l w a m read decoded sound) m) op
      ≡ insn ∷ second ∷ [] → given ≡ [] → new ≡ [] → locals_behind ≡ locals → OnlyJumps
      → TwoAgree by l (a.resolution m) m op before (targets op) → Keeps
  two_by insn second is none none' kept only agrees =
      let same : length given ≡ length new = ap length none ∙ sym (ap length none') in
      let long : length (written (a.resolution m) (written_place (tb by l w a m read decoded sound) m) op) ≡ 2 =
      ap length is in
      let nothing : after ++ rest ≡ rest = ap (λ cs. kinds l cs behind ++ rest) none in
      let far : spot (tb by l w a m read decoded sound) m at + 2 ≡ spot (tb by l w a m read decoded sound) m at + 1 +
      1 = omega arith in
      two_rule by l (tb by l w a m read decoded sound) m at (point_of l t x) insn_here before rest (targets op) insn
      second is (first_there insn (second ∷ []) is) (second_there insn second is) agrees stack_before
      (λ o among. subst (λ ks. Arrives (tb by l w a m read decoded sound) m (place m.insns o)
      (written_place (tb by l w a m read decoded sound) m o) ks locals) nothing (lands same kept o among))
      (λ ls after' store new' vs stack e. (let j = only ls after' store new' vs stack e
      in subst (λ k. Arrives (tb by l w a m read decoded sound) m (at + 1) k rest locals) far
      (subst (λ ks. Arrives (tb by l w a m read decoded sound) m (at + 1) (spot (tb by l w a m read decoded sound) m
      at + 2) ks locals) nothing (lands_behind 2 long same kept j.0 j.1 j.2))))

  -- ---- what is left is known as less

  -- cells of which more is known have as much room
  pub roomy_wider : (left : List Kind) → AllWider left after → length given ≡ length new
      → HasRoom (left ++ rest) m.max_stack (let n = a.narrowed m in let code = n.code in code.max_stack)
  roomy_wider left wider same =
      let high = roomy same in
      let by_name = high.by_name in
      let narrow = high.narrow in
      let sizes = wider_length (wider_append wider (all_wider_itself rest)) in
      record { by_name = omega (arith, by_name, sizes); narrow = omega (arith, narrow, sizes) }

  -- and both go on behind the one instruction that is written
  pub arrives_wider : goes_on op ≡ true
      → length (written (a.resolution m) (written_place (tb by l w a m read decoded sound) m) op) ≡ 1
      → length given ≡ length new → locals_behind ≡ locals → (left : List Kind) → AllWider left after
      → Arrives (tb by l w a m read decoded sound) m (at + 1) (spot (tb by l w a m read decoded sound) m at + 1) (left
      ++ rest) locals
  arrives_wider goes long same kept left wider =
      let there_on = subst (λ ls. GoesTo by l w a m read decoded sound (at + 1) (after ++ rest) ls) kept
      (on same (at + 1) (follows by l w a m read decoded sound at insn_here there goes)) in
      arrives by l w a m read decoded sound (at + 1) (spot (tb by l w a m read decoded sound) m at + 1) (left
      ++ rest) locals ranged.stands.behind
      (record {
        point = there_on.point;
        is = there_on.is;
        stack = all_wider_through (wider_append wider (all_wider_itself rest)) there_on.stack;
        locals =
            there_on.locals;
        low = there_on.low;
      }) (next_place_is 1 long goes)

  -- exceptions are handled alike where one instruction is written
  pub catches_here : (n : ℕ) → length (written (a.resolution m) (written_place (tb by l w a m read decoded sound) m) op)
      ≡ suc n → Catches by l (tb by l w a m read decoded sound) m at locals
  catches_here n long = catches by l w a m read decoded sound told at insn_here t x there row ranged.row
      (some_written n long)

  -- one instruction is written, which leaves cells of which more is known
  pub wider_row_by : op ≢ jop.Throw → goes_on op ≡ true → (insn : NInsn)
      → written (a.resolution m) (written_place (tb by l w a m read decoded sound) m) op ≡ insn ∷ []
      → length given ≡ length new → locals_behind ≡ locals → (left : List Kind) → AllWider left after
      → RowAgrees by l (a.resolution m) m op before left → Keeps
  wider_row_by calm goes insn is same kept left wider agrees =
      let long : length (written (a.resolution m) (written_place (tb by l w a m read decoded sound) m) op) ≡ 1 =
      ap length is in
      row_rule by l (tb by l w a m read decoded sound) m at (point_of l t x) insn_here before left rest insn is
      (first_there insn [] is) agrees stack_before (roomy_wider left wider same)
      (λ locals store vs object. never_tosses by m at locals store op calm vs object)
      (arrives_wider goes long same kept left wider) (catches_here 0 long)
