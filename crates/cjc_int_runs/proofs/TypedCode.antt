-- A method whose code is what is written for its reached instructions stands, where enough is known before each.
use Rattle.std.proofs.Common.{◌≡◌, ℕ, suc, zero, ◌+◌, ◌≤◌, ◌<◌, arith, refl, sym, ap, subst, ◌∙◌, Bool, true, false}
use Rattle.std.proofs.Common.{List, [], ◌∷◌, ◌++◌, slice_get}
use Rattle.std.specs.Prelude.{if◌then◌else◌, nat_lt, ◌==◌, Option, Some, option_map}
use Rattle.std.proofs.lemmas.Bool.Decides.{nat_tests}
use Rattle.std.proofs.lemmas.Bool.{ltb-true, ltb-false}
use Rattle.cjc_int_proof.specs.Bytecode.declared.insn.JInsn.{JInsn}
use Rattle.cjc_int_proof.specs.Bytecode.declared.insn.JOp.{JOp}
use Rattle.cjc_script.specs.Sorts.{Shape, Sort}
use Rattle.cjc_card_semantics.specs.Bytecode.Machine.{Start}
use Rattle.cjc_ncode.specs.declared.narrow.NMethod.{NMethod}
use Rattle.cjc_ncode.specs.ByLabel.{Named}
use Rattle.cjc_ncode.specs.ByLabel as labels
use Rattle.cjc_ncode.specs.IntCode.IntCode.{Before, Reached, place_in, prologue, written}
use Rattle.cjc_jvm_semantics.specs.Linked.{Method, Linked}
use Rattle.cjc_jvm_semantics.specs.Effects.{place}
use Rattle.cjc_jvm_semantics.specs.Machine.{Frame, offset_of}
use Rattle.cjc_narrow_proof.specs.Selection.Calls.{NFrame}
use Rattle.cjc_narrow_proof.specs.Selection.Relation.{Kind, NMemory}
use Rattle.cjc_narrow_proof.specs.Selection.Tables.{handler_at, offset_at}
use Rattle.cjc_int_runs.specs.Bodies.{IntInsn, has_row, has_jump, is_nop, is_throw}
use Rattle.cjc_int_runs.specs.Bodies.{has_return, is_call, IntMethodStands}
use Rattle.cjc_int_runs.specs.IntFrames.{IntPoint, IntBody, int_spot, IntArrives, IntCatches}
use Rattle.cjc_int_runs.specs.Placed.{offset_in}
use Rattle.cjc_int_runs.specs.Steps.{StandAt, behind, HasIntRoom}
use Rattle.cjc_int_runs.specs.Typed.{IsWritten, Knows, TellsClasses, IsTaken, IntTyped}
use Rattle.cjc_int_runs.specs.Typed.{row_typed, jump_typed, nop_typed}
use Rattle.cjc_int_runs.specs.Typed.{throw_typed, return_typed, call_typed, IntMethodIsTyped}
use Rattle.cjc_int_runs.proofs.Guard.{behind_is}
use Rattle.cjc_int_runs.proofs.SomeWritten.{row_some, jump_some}
use Rattle.cjc_int_runs.proofs.PlacedCode.{code_stands, next_stands, handlers_found, none_before}

-- what stands at the place of an offset has this offset
place_has : (insns : List JInsn) (offset : ℕ) (j : JInsn) → slice_get insns (place insns offset) ≡ Some j
    → j.at ≡ offset
place_has [] offset j e = absurd cc
place_has (i ∷ insns) offset j e = go (λ e. place_has insns offset j e) (i.at == offset) refl e
  where
    go : (slice_get insns (place insns offset) ≡ Some j → j.at ≡ offset) → (b : Bool) → (i.at == offset) ≡ b
        → slice_get (i ∷ insns) (if b then 0 else suc (place insns offset)) ≡ Some j → j.at ≡ offset
    go later true is e =
        let same : i ≡ j = cc in
        let at : i.at ≡ offset = grind (arith, nat_tests, is) in
        sym (ap (λ (x : JInsn). x.at) same) ∙ at
    go later false is e = later e

some_same : {i j : JInsn} → Some i ≡ Some j → i ≡ j
some_same e = cc

module _ (b : IntBody) (m : Method) (reached : List Reached) (is : IsWritten b m reached) where
  abbrev to : ℕ → ℕ
  to = place_in b.frame b.resolution reached

  -- where what is written for an instruction ends, by the places, its own, what is known before it and itself
  abbrev ends : (ℕ → ℕ) → ℕ → Before → JOp → ℕ
  ends q o before op = behind (q o) (written b.frame b.resolution q before (q o) op)

  -- a reached instruction of the method
  module _ (at : ℕ) (p : IntPoint) (known : b.point at ≡ Some p) (i : JInsn) (there : slice_get m.insns at ≡ Some i)
    where
      abbrev k : ℕ
      k = (is.is_reached at p known).0

      abbrev x : Reached
      x = (is.is_reached at p known).1

      x_there : slice_get reached k ≡ Some x
      x_there = (is.is_reached at p known).2

      insn_same : x.insn ≡ i
      insn_same = some_same (sym (is.is_reached at p known).3 ∙ there)

      before_same : x.before ≡ p.before
      before_same = (is.is_reached at p known).4

      offset_same : offset_at m at ≡ offset_in x
      offset_same = ap offset_of (is.is_reached at p known).3

      op_same : (let n = x.insn in n.op) ≡ i.op
      op_same = ap (λ (n : JInsn). n.op) insn_same

      -- a fact about its own place, what is known and itself, told by the body
      told : (G : (ℕ → ℕ) → ℕ → Before → JOp → Type 0) → (let n = x.insn in G to n.at x.before n.op)
          → G b.place_of (offset_at m at) p.before i.op
      told G g =
          subst (λ op. G b.place_of (offset_at m at) p.before op) op_same
          (subst (λ before. G b.place_of (offset_at m at) before (let n = x.insn in n.op)) before_same
          (subst (λ o. G b.place_of o x.before (let n = x.insn in n.op)) (sym offset_same)
          (subst (λ q. G q (let n = x.insn in n.at) x.before (let n = x.insn in n.op)) (sym is.place_of) g)))

      stands_there : StandAt b.code (int_spot b m at) (written b.frame b.resolution b.place_of p.before (int_spot b m
          at)
          i.op)
      stands_there = told (λ q o before op. StandAt b.code (q o) (written b.frame b.resolution q before (q o) op))
          (code_stands b.frame b.resolution reached is.ascends b.code is.insns k x x_there)

      abbrev then_at : ℕ
      then_at = ends b.place_of (offset_at m at) p.before i.op

      -- the instruction behind it
      module _ (ks ls : List Kind) (knows : Knows b (at + 1) ks ls) where
        abbrev y : Reached
        y = (is.is_reached (at + 1) knows.point knows.is_reached).1

        y_there : slice_get m.insns (at + 1) ≡ Some y.insn
        y_there = (is.is_reached (at + 1) knows.point knows.is_reached).3

        x_at : slice_get m.insns at ≡ Some x.insn
        x_at = (is.is_reached at p known).3

        up : offset_in x < offset_in y
        up = is.in_order at (at + 1) x.insn y.insn x_at y_there (omega arith)

        -- a reached instruction before the next one is not behind this one
        not_behind : (n : ℕ) (z : Reached) → slice_get m.insns n ≡ Some z.insn → offset_in z < offset_in y
            → (a : Bool) → nat_lt n at ≡ a → (c : Bool) → nat_lt at n ≡ c → (d : Bool) → nat_lt (at + 1) n ≡ d
            → offset_in z ≤ offset_in x
        not_behind n z z_at lt true e c e' d e'' =
            let less = is.in_order n at z.insn x.insn z_at x_at (ltb-true n at e) in
            omega (arith, less)
        not_behind n z z_at lt false e false e' d e'' =
            let one = ltb-false n at e in
            let two = ltb-false at n e' in
            let same : n ≡ at = omega (arith, one, two) in
            let z_here : slice_get m.insns at ≡ Some z.insn = ap (slice_get m.insns) (sym same) ∙ z_at in
            let offsets : offset_in z ≡ offset_in x = ap offset_of (sym z_here ∙ x_at) in
            omega (arith, offsets)
        not_behind n z z_at lt false e true e' true e'' =
            let more = is.in_order (at + 1) n y.insn z.insn y_there z_at (ltb-true (at + 1) n e'') in
            absurd (omega (arith, more, lt))
        not_behind n z z_at lt false e true e' false e'' =
            let one = ltb-true at n e' in
            let two = ltb-false (at + 1) n e'' in
            let same : n ≡ at + 1 = omega (arith, one, two) in
            let z_here : slice_get m.insns (at + 1) ≡ Some z.insn = ap (slice_get m.insns) (sym same) ∙ z_at in
            let offsets : offset_in z ≡ offset_in y = ap offset_of (sym z_here ∙ y_there) in
            absurd (omega (arith, offsets, lt))

        last : (j : ℕ) (z : Reached) → slice_get reached j ≡ Some z → offset_in z < offset_in y → offset_in z
            ≤ offset_in x
        last j z z_there lt =
            let n = (is.is_there j z z_there).0 in
            not_behind n z (is.is_there j z z_there).1 lt (nat_lt n at) refl (nat_lt at n) refl (nat_lt (at + 1) n) refl

        next_is : b.place_of (offset_in y) ≡ then_at
        next_is = told (λ q o before op. q (offset_in y) ≡ ends q o before op)
            (next_stands b.frame b.resolution reached is.ascends (offset_in y) k x x_there up last)

        arrives_next : IntArrives b m (at + 1) then_at ks ls
        arrives_next = record {
          point = knows.point;
          is_reached = knows.is_reached;
          place = sym next_is ∙ ap b.place_of (sym (ap offset_of y_there));
          stack = knows.stack;
          locals = knows.locals;
        }

  -- at an offset
  arrives_at : (offset : ℕ) (ks ls : List Kind) → Knows b (place m.insns offset) ks ls
      → IntArrives b m (place m.insns offset) (b.place_of offset) ks ls
  arrives_at offset ks ls knows =
      let q = is.is_reached (place m.insns offset) knows.point knows.is_reached in
      let found : offset_at m (place m.insns offset) ≡ offset = ap offset_of q.3
      ∙ place_has m.insns offset (let r = q.1 in r.insn) q.3 in
      record {
        point = knows.point;
        is_reached = knows.is_reached;
        place = ap b.place_of (sym found);
        stack = knows.stack;
        locals = knows.locals;
      }

  -- at the beginning, behind the prologue
  module _ (ls : List Kind) (knows : Knows b 0 [] ls) where
    abbrev first : Reached
    first = (is.is_reached 0 knows.point knows.is_reached).1

    first_there : slice_get m.insns 0 ≡ Some first.insn
    first_there = (is.is_reached 0 knows.point knows.is_reached).3

    not_before : (z : Reached) (n : ℕ) → slice_get m.insns n ≡ Some z.insn → offset_at m 0 ≤ offset_in z
    not_before z zero e =
        let same : offset_at m 0 ≡ offset_in z = ap offset_of e in
        omega (arith, same)
    not_before z (suc n) e =
        let same : offset_at m 0 ≡ offset_in first = ap offset_of first_there in
        let more = is.in_order 0 (suc n) first.insn z.insn first_there e (omega arith) in
        omega (arith, same, more)

    begins : behind 0 (prologue b.frame) ≡ place_in b.frame b.resolution reached (offset_at m 0)
    begins =
        let long = behind_is 0 (prologue b.frame) in
        let none = none_before b.frame b.resolution reached (offset_at m 0) (λ j z there. not_before z
        (is.is_there j z there).0 (is.is_there j z there).1) in
        omega (arith, long, none)

    pub arrives_first : IntArrives b m 0 (behind 0 (prologue b.frame)) [] ls
    arrives_first = record {
      point = knows.point;
      is_reached = knows.is_reached;
      place = begins ∙ ap (λ q. q (offset_at m 0)) (sym is.place_of);
      stack = knows.stack;
      locals = knows.locals;
    }

  room_for : (cells : ℕ) → cells ≤ m.max_stack → HasIntRoom cells m.max_stack (let code = b.code in code.max_stack)
  room_for cells le = record { by_name = le; words = is.has_room }

  module _ (by : Linked) (l : Named) (Here : NMemory → Frame → NFrame → Type 0) (results : Method → Option Sort)
      (narrowed : Method → Start NMethod) (may_throw : Shape (List ℕ) → Bool)
      (tells : TellsClasses by l Here results narrowed may_throw b m) where
    module _ (at : ℕ) (p : IntPoint) (known : b.point at ≡ Some p) (i : JInsn) (there : slice_get m.insns at ≡ Some i)
      where
        abbrev end_at : ℕ
        end_at = then_at at p known i there

        caught : IsTaken by l Here results narrowed may_throw b m at p i
            → IntCatches by l b m at (int_spot b m at) end_at p.locals may_throw
        caught taken = record {
          found = λ kind may q up down. found_there kind may q up down;
          handles = λ kind may target e. (let h = taken kind may target e in record {
            within = h.within;
            passes = h.passes;
            arrives = arrives_at target _ p.locals h.knows;
            has_room = h.has_room;
            narrow_has_room = (let room = is.has_room in let high = h.has_room in omega (arith, room, high));
          });
        }
          where
            found_there : (kind : Shape (List ℕ)) → may_throw kind ≡ true → (q : ℕ) → int_spot b m at ≤ q → q < end_at
                → labels.handler l (let code = b.code in code.catches) q kind
                ≡ option_map b.place_of (handler_at by m at kind)
            found_there kind may q = told at p known i there (λ places o before op. places o ≤ q → q < ends places o
                before op → labels.handler l (let code = b.code in code.catches) q kind
                ≡ option_map places (handler_at by m at kind)) (λ up down. handlers_found b.frame b.resolution
                reached by l
                m b.code is.catches at (k at p known i there) (x at p known i there) (x_there at p known i there)
                (offset_same at p known i there) kind (tells kind may) q up down)

        insn_of : IntTyped by l Here results narrowed may_throw b m at p i
            → IntInsn by l Here results narrowed may_throw b m at p i
        insn_of (row_typed before ks after js stack row not_nop room room' knows taken) =
            has_row before ks after js stack row (row_some by l b.frame b.resolution m b.place_of (int_spot b m at) row
            not_nop) (room_for _ room) (room_for _ room') (arrives_next at p known i there (after ++ ks) js knows)
            (caught taken)
        insn_of (jump_typed before ks offsets stack row room leads falls) =
            has_jump before ks offsets stack row (jump_some by l b.frame b.resolution m b.place_of (int_spot b m at)
            row) (room_for _ room) (λ offset among. arrives_at offset ks p.locals (leads offset among))
            (λ locals after store new vs stack e. arrives_next at p known i there ks p.locals
            (falls locals after store new vs stack e))
        insn_of (nop_typed nop low knows) =
            is_nop nop low (subst (λ op. IntArrives b m (at + 1) (ends b.place_of (offset_at m at) p.before op) p.stack
            p.locals) nop (arrives_next at p known i there p.stack p.locals knows))
        insn_of (throw_typed within ks throw stack may taken) = is_throw within ks throw stack may (caught taken)
        insn_of (return_typed kinds ks stack row same fits) = has_return kinds ks stack row same fits
        insn_of (call_typed op id callee types params ks receiver call stack has_types names passes few room knows room'
            taken reaches) =
            is_call op id callee types params ks receiver call stack has_types names passes few (room_for _ room)
            (arrives_next at p known i there _ p.locals knows) (room_for _ room') (caught taken) reaches

    pub method_stands : IntMethodIsTyped by l Here results narrowed may_throw b m
        → IntMethodStands by l Here results narrowed may_throw b m
    method_stands typed = record {
      stands = λ at p known. (let q = is.is_reached at p known in let i = (let r = q.1 in r.insn) in (
        i,
        (
          q.3,
          (stands_there at p known i q.3, insn_of at p known i q.3 (typed.typed at p i known q.3)),
        ),
      ));
      few_params = typed.few_params;
    }
