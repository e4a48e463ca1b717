-- What an instruction hands to the next.
use Rattle.std.proofs.Common.{◌≡◌, ◌<◌, ◌+◌, ℕ, suc, Bool, true, false, cond, nat_lt, is_some, List, length, get_or}
use Rattle.std.proofs.Common.{slice_get, Option, Some, None, option_map, refl, sym, ◌∙◌, ap, subst, arith, add-one}
use Rattle.std.proofs.lemmas.Bool.{ltb-false}
use Rattle.std.proofs.lemmas.Option.{slice_get-get_or}
use Rattle.cjc_code.specs.declared.insn.JInsn.{JInsn}
use Rattle.cjc_fixpoint.specs.Kept.{IsAscending, handed_on, mark_of}
use Rattle.cjc_types.specs.declared.state.State.{State}
use Rattle.cjc_types.specs.declared.table.Frame.{Frame}
use Rattle.cjc_types.specs.Steps.{after, goes_on}
use Rattle.cjc_types.specs.Flow.{Body, type_flow}
use Rattle.cjc_types.specs.Marks.{marks_of}
use Rattle.cjc_types.specs.Search.{frame_of}
use Rattle.cjc_types.specs.Tables.{state_of}
use Rattle.cjc_types.specs.Working.MarkLaws.{marks_are, passed}
use Rattle.cjc_types.specs.Working.Onward.{gone_on_by, gone_on}

pub gone_is : (b : Body) (insns : List JInsn) (at : ℕ) (d : JInsn) (x y : State) (on : Bool) → insns ≡ b.insns
    → at + 1 < length insns → on ≡ goes_on (get_or insns at d).op → on ≡ true → y ≡ after (get_or insns at d).op x
    → Some y ≡ gone_on b at x
gone_is b insns at d x y on is lt is_on turned is_y =
    let insn : JInsn = get_or insns at d in
    let here : slice_get b.insns at ≡ Some insn = subst (λ (js : List JInsn). slice_get js at ≡ Some insn) is
    (slice_get-get_or insns at d (omega (arith, lt))) in
    let inside : at + 1 < length b.insns = subst (λ (js : List JInsn). at + 1 < length js) is lt in
    go insn (nat_lt (at + 1) (length b.insns)) refl (sym is_on ∙ turned) inside here is_y
  where
    go : (insn : JInsn) (less : Bool) → nat_lt (at + 1) (length b.insns) ≡ less → goes_on insn.op ≡ true
        → at + 1 < length b.insns → slice_get b.insns at ≡ Some insn → y ≡ after insn.op x
        → Some y ≡ cond less (gone_on_by (slice_get b.insns at) x) None
    go insn false e f lt here is = let ge = ltb-false (at + 1) (length b.insns) e in absurd (omega (arith, ge, lt))
    go insn true e f lt here is =
        ap (λ (s : State). Some s) is
        ∙ ap (λ (g : Bool). cond g (Some (after insn.op x)) None) (sym f)
        ∙ ap (λ (o : Option JInsn). gone_on_by o x) (sym here)

none_of : (o : Option ℕ) → is_some o ≡ false → o ≡ None
none_of None h = refl
none_of (Some k) h = absurd cc

pub ascend : (b : Body) (marks : List ℕ) → marks ≡ marks_of b → IsAscending marks
ascend b marks is = subst IsAscending (sym is) (marks_are b).ascending

-- where the next place has no mark, nothing but the way on leads there
pub pass_is : (b : Body) (marks : List ℕ) (at : ℕ) (x : State) → marks ≡ marks_of b
    → false ≡ is_some (mark_of marks (at + 1)) → handed_on (type_flow b) at (Some x) ≡ gone_on b at x
pass_is b marks at x is off =
    let here : false ≡ is_some (mark_of (marks_of b) (at + 1)) =
    subst (λ (ms : List ℕ). false ≡ is_some (mark_of ms (at + 1))) is off in
    let next : false ≡ is_some (mark_of (marks_of b) (suc at)) =
    subst (λ (n : ℕ). false ≡ is_some (mark_of (marks_of b) n)) (add-one at) here in
    passed b at x (none_of (mark_of (marks_of b) (suc at)) (sym next))

pub handed_is : (b : Body) (marks : List ℕ) (at : ℕ) (frame : Frame) (state : State) (next : Option State)
    (result : Option Frame) → marks ≡ marks_of b → mark_of marks (at + 1) ≡ None → state ≡ state_of frame
    → next ≡ gone_on b at state → result ≡ option_map frame_of next
    → result ≡ option_map frame_of (handed_on (type_flow b) at (Some (state_of frame)))
handed_is b marks at frame state next result is none is_state is_next is_result =
    let off : false ≡ is_some (mark_of marks (at + 1)) = sym (ap (λ (o : Option ℕ). is_some o) none) in
    is_result ∙ ap (option_map frame_of) (is_next ∙ ap (gone_on b at) is_state
    ∙ sym (pass_is b marks at (state_of frame) is off))
