-- Methods of both modes begin alike, wherever they are given arguments of their types.
use Rattle.std.proofs.Common.{◌≡◌, ℕ, ◌+◌, ◌-◌, ◌*◌, ◌≤◌, refl, sym, ap, subst, ◌∙◌, arith, Bool, true, false, List, []}
use Rattle.std.proofs.Common.{◌∷◌, ◌++◌, length, replicate}
use Rattle.std.specs.Prelude.{Option, Some, None, map, nat_le, if◌then◌else◌}
use Rattle.std.proofs.lemmas.List.{length-append}
use Rattle.cjc_script.specs.declared.value.Value.{Value}
use Rattle.cjc_script.specs.declared.value.Value.TheVariants.{Obj}
use Rattle.cjc_script.specs.Sorts.{Shape, Sort, Reference}
use Rattle.cjc_card_semantics.specs.Bytecode.Arguments.{widths}
use Rattle.cjc_card_semantics.specs.Bytecode.Machine.{Start, locals_of}
use Rattle.cjc_ncode.specs.declared.narrow.NInsn.TheVariants as insns
use Rattle.cjc_ncode.specs.declared.narrow.NMethod.{NMethod}
use Rattle.cjc_ncode.specs.ByLabel.{Named, by_label}
use Rattle.cjc_ncode.specs.IntCode.IntCode.{nargs, prologue, moved, moved_from, is_short, loads}
use Rattle.cjc_ncode.specs.IntCode.IntCode.{stores, widened, first_word}
use Rattle.cjc_ncode.specs.IntCode.IntCode as code
use Rattle.cjc_jvm_semantics.specs.Linked.{Method, Linked}
use Rattle.cjc_jvm_semantics.specs.Machine.{Frame}
use Rattle.cjc_int_proof.specs.Walks.{Within, walk}
use Rattle.cjc_narrow_proof.specs.Selection.Calls.{NFrame}
use Rattle.cjc_narrow_proof.specs.Selection.Relation.{Kind, Refers, Heap, NMemory, Stacks, bottom as nothing_there}
use Rattle.cjc_narrow_proof.specs.Selection.Relation.{cell, number, null, object, OnBoth, no_cell, a_range, a_reference}
use Rattle.cjc_narrow_proof.specs.Selection.Relation.{all_there}
use Rattle.cjc_narrow_proof.specs.Selection.Tables.{Table}
use Rattle.cjc_narrow_proof.proofs.SelectionLaws.Begins.{frames_begin}
use Rattle.cjc_narrow_proof.proofs.SelectionLaws.Widens.{stacks_wider, locals_wider}
use Rattle.cjc_int_runs.specs.ByModes.{PassesWords, no_parameter, a_number_word, a_reference_word}
use Rattle.cjc_int_runs.specs.Entering.{IntMethodBegins, ShortMethodBegins}
use Rattle.cjc_int_runs.specs.IntFrames.{IntBody, StandsByMode, in_int_mode, in_short_mode}
use Rattle.cjc_int_runs.specs.Modes.{MayEnter, MayEnterOn}
use Rattle.cjc_int_runs.specs.Relation.{IntLocals, bottom, AllHanded, nothing, one_more, one_word, two_words}
use Rattle.cjc_int_runs.specs.Relation.{as_it_is, to_null, to_object}
use Rattle.cjc_int_runs.specs.Steps.{spot}
use Rattle.cjc_int_runs.proofs.Begins.{method_begins}
use Rattle.cjc_int_runs.proofs.IntFrames.{int_stacks_wider, int_locals_wider}

-- ---- how long the prologue is

moved_few : (f : code.Frame) (sort : Sort) (word l : ℕ) → length (moved f sort word l) ≤ 3
moved_few f sort word l =
    let first = if is_short sort then (if nat_le word 3 then insns.Op (0x1C + word) else insns.Local 0x16 word) ∷ []
    else loads (code.is_reference sort) word in
    let last = stores (code.is_reference sort) (first_word f l) in
    let a = length-append (first ++ widened sort) last in
    let c = length-append first (widened sort) in
    let one = first_few (is_short sort) (code.is_reference sort) in
    let two = widened_few (is_short sort) in let three = stores_few (code.is_reference sort) in
    omega (arith, a, c, one, two, three)
  where
    first_few : (b r : Bool) → length (if b then (if nat_le word 3 then insns.Op (0x1C + word)
        else insns.Local 0x16 word) ∷ [] else loads r word) ≤ 1
    first_few true r = omega arith
    first_few false true = omega arith
    first_few false false = omega arith

    widened_few : (b : Bool) → length (if b then insns.Op 0x5C ∷ [] else []) ≤ 1
    widened_few true = omega arith
    widened_few false = omega arith

    stores_few : (r : Bool) → length (stores r (first_word f l)) ≤ 1
    stores_few true = omega arith
    stores_few false = omega arith

all_moved_few : (f : code.Frame) (word l : ℕ) (sorts : List Sort) → length (moved_from f word l sorts)
    ≤ 3 * length sorts
all_moved_few f word l [] = omega arith
all_moved_few f word l (sort ∷ sorts) =
    let h = moved_few f sort word l in let more = all_moved_few f (word + widths (sort ∷ [])) (l + 1) sorts in
    let a = length-append (moved f sort word l) (moved_from f (word + widths (sort ∷ [])) (l + 1) sorts) in
    omega (arith, h, more, a)

-- ---- words as cells

words_agree : {heap : Heap} {sorts : List Sort} {kinds : List Kind} {args words : List Value} → PassesWords sorts kinds
    → AllHanded heap sorts kinds args words → Stacks heap kinds args words
words_agree no_parameter nothing = nothing_there
words_agree (a_number_word is_word small more) (one_more (one_word short held inside) handed) =
    cell (number refl inside) (words_agree more handed)
words_agree (a_number_word is_word small more) (one_more (two_words e inside) handed) = absurd cc
words_agree (a_reference_word more) (one_more (as_it_is to_null) handed) = cell null (words_agree more handed)
words_agree (a_reference_word more) (one_more (as_it_is (to_object thing is passes)) handed) =
    cell (object thing is passes) (words_agree more handed)

on_both : {sorts : List Sort} {kinds : List Kind} → PassesWords sorts kinds → OnBoth kinds
on_both no_parameter = no_cell
on_both (a_number_word is_word small more) = a_range (on_both more)
on_both (a_reference_word more) = a_reference (on_both more)

module _ (by : Linked) (l : Named) (tb : Table) (bodies : Method → Option IntBody) (results : Method → Option Sort)
    (m : Method) (sorts : List Sort) (kinds : List Kind) where
  abbrev Here : NMemory → Frame → NFrame → Type 0
  Here = StandsByMode l tb bodies

  -- a method in int mode
  pub int_enters : (b : IntBody) → bodies m ≡ Some b → IntMethodBegins tb.narrowed b m sorts kinds
      → MayEnter by l Here results tb.narrowed tb.may_throw m sorts kinds
  int_enters b is h memory args words handed =
      let f = b.frame in
      let given = subst (λ ss. AllHanded memory.heap ss kinds args words) (sym h.params) handed in
      let start = tb.narrowed m in
      let brings = method_begins l f b.pairs b.code h.has_room memory start.at kinds args words given h.fit h.stands in
      let few = brings.few in let long = all_moved_few f 0 0 f.params in let small = h.few in
      let same = ap length h.params in
      let a = h.arrives in
      let words_are : locals_of start.nargs start.max_locals words
      ≡ locals_of (nargs f) (2 * f.max_locals + 2 * b.pairs) words =
      ap (λ n. locals_of n start.max_locals words) h.argument_words
      ∙ ap (λ n. locals_of (nargs f) n words) h.further_words in
      let named_are : map (λ v. Some v) args ++ replicate (f.max_locals - length args) None
      ≡ map (λ v. Some v) args ++ replicate (m.max_locals - length args) None =
      ap (λ n. map (λ v. Some v) args ++ replicate (n - length args) None) (sym h.named_locals) in
      record {
        has_code = h.has_code;
        is_written = h.is_written;
        here = in_int_mode b is (record {
          point = a.point;
          is_reached = a.is_reached;
          code = h.code;
          ahead = brings.steps;
          few = omega (arith, few, long, small, same);
          stack = [];
          locals = brings.after;
          leads = ap (λ ws. walk (by_label l) b.code brings.steps (spot start.at [] ws memory)) words_are
              ∙ brings.leads ∙ ap (λ q. Within (spot q [] brings.after memory)) a.place;
          stacks_agree = int_stacks_wider a.stack bottom;
          locals_agree = subst (λ vs. IntLocals memory.heap f b.pairs (let p = a.point in p.locals) vs brings.after)
              named_are (int_locals_wider a.locals brings.agree);
        });
      }

  -- one that is not
  pub short_enters : bodies m ≡ None → ShortMethodBegins tb m sorts kinds
      → MayEnter by l Here results tb.narrowed tb.may_throw m sorts kinds
  short_enters is h memory args words handed =
      let n = h.is_narrowed in
      let frames = frames_begin memory.heap tb.narrowed kinds (on_both h.passes) n (words_agree h.passes handed) in
      let a = h.arrives in
      record {
        has_code = n.has_code;
        is_written = n.is_written;
        here = in_short_mode is (record {
          point = a.point;
          is_reached = a.is_reached;
          code = refl;
          place = a.place;
          agree = record {
            stack = stacks_wider a.stack frames.stack;
            locals = locals_wider a.locals frames.locals;
          };
          owns = all_there a.all_there;
        });
      }

-- with a receiver in front, of a type that passes the test
pub enters_on : (by : Linked) (l : Named) (Here : NMemory → Frame → NFrame → Type 0) (results : Method → Option Sort)
    (narrowed : Method → Start NMethod) (may_throw : Shape (List ℕ) → Bool) (m : Method) (sorts : List Sort)
    (kinds : List Kind) (of kind : Shape (List ℕ)) (receives : Shape (List ℕ) → Bool) → receives kind ≡ true
    → MayEnter by l Here results narrowed may_throw m (Reference of ∷ sorts) (Refers receives ∷ kinds)
    → MayEnterOn by l Here results narrowed may_throw m kind sorts kinds
enters_on by l Here results narrowed may_throw m sorts kinds of kind receives passes enters memory k thing args words
    there same handed =
    enters memory (Obj k ∷ args) (Obj k ∷ words) (one_more (as_it_is (to_object thing there (ap receives same
    ∙ passes))) handed)
