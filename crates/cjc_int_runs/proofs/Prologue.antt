-- The prologue brings arguments to the locals of the class file.
use Rattle.std.proofs.Common.{◌≡◌, ℕ, ◌+◌, ◌<◌, ◌≤◌, List, ◌∷◌, [], ◌++◌, length, refl, sym, ap}
use Rattle.std.proofs.Common.{◌∙◌, arith, Bool, true, ℤ, append_assoc}
use Rattle.std.specs.Prelude.{Option, Some, map, option_map, slice_get, slice_set, nat_le}
use Rattle.std.specs.Prelude.{if◌then◌else◌}
use Rattle.std.proofs.lemmas.List.{length-append}
use Rattle.std.proofs.lemmas.Int.{ints}
use Rattle.cjc_script.proofs.BytesGets.{get_behind, get_inside, get_mapped, in_front, set_length}
use Rattle.cjc_range.specs.Words.{low_word}
use Rattle.cjc_range.specs.Span.{Span, Holds}
use Rattle.cjc_range.proofs.WordsLaws.Words.{low_word_same}
use Rattle.cjc_script.specs.declared.value.Value.{Value}
use Rattle.cjc_script.specs.declared.value.Value.TheVariants.{Num, Null, Obj}
use Rattle.cjc_script.specs.Sorts.{Sort, Boolean, Byte, Short, Int, Reference, NoValue, Shape}
use Rattle.cjc_card_semantics.specs.Bytecode.Arguments.{widths}
use Rattle.cjc_card_semantics.specs.Bytecode.Calculations.{Fine, is_number, is_reference, int_words}
use Rattle.cjc_card_semantics.specs.Bytecode.Calculations
use Rattle.cjc_card_semantics.specs.Bytecode.Numbers.{high_word, spelt_by}
use Rattle.cjc_card_semantics.specs.Bytecode.Meanings.{meaning}
use Rattle.cjc_card_semantics.specs.Bytecode.Effects as narrow
use Rattle.cjc_ncode.specs.declared.narrow.NInsn.{NInsn}
use Rattle.cjc_ncode.specs.declared.narrow.NInsn.TheVariants as insns
use Rattle.cjc_ncode.specs.declared.narrow.NMethod.{NMethod}
use Rattle.cjc_ncode.specs.ByLabel.{Named, by_label, classes}
use Rattle.cjc_ncode.specs.IntCode.IntCode.{Frame, first_word, is_short, moved, moved_from}
use Rattle.cjc_int_proof.specs.Walks.{Within, walk}
use Rattle.cjc_narrow_proof.specs.Selection.Relation.{Kind, Range, Refers, Heap, NMemory}
use Rattle.cjc_narrow_proof.specs.Selection.Rows.{NEffect}
use Rattle.cjc_narrow_proof.proofs.SelectionLaws.Pushes.{number_load_is}
use Rattle.cjc_int_runs.specs.Prologue.{filled, Brings}
use Rattle.cjc_int_runs.specs.Relation.{IntLocals, RefersTo, to_null, to_object, type_range, Handed, one_word}
use Rattle.cjc_int_runs.specs.Relation.{two_words}
use Rattle.cjc_int_runs.specs.Relation.{as_it_is, AllHanded, nothing, one_more}
use Rattle.cjc_int_runs.specs.Steps.{StandAt, behind, spot}
use Rattle.cjc_int_runs.proofs.Spelling.{spelt_number, word_is_int}
use Rattle.cjc_int_runs.proofs.Stepping.{onward, push_words}
use Rattle.cjc_int_runs.proofs.Guard.{behind_both, stand_front, stand_back, and_onward}
use Rattle.cjc_int_runs.proofs.FrameWords.{number_kept, number_stays, reference_kept, reference_stays}
use Rattle.cjc_int_runs.proofs.FrameWords.{locals_long, two_set}
use Rattle.cjc_int_runs.proofs.Locals.{iload_is, aload_is, istore_is, astore_is, int_read, int_written}

-- an argument of a short type is its word
pub is_word_of : (sort : Sort) (x : ℤ) → is_short sort ≡ true → Holds (type_range sort) x → low_word x ≡ x
is_word_of Boolean x e h = let a = h.above in let b = h.below in low_word_same x (omega (arith, ints, a)) (omega (
  arith,
  ints,
  b,
))
is_word_of Byte x e h = let a = h.above in let b = h.below in low_word_same x (omega (arith, ints, a)) (omega (
  arith,
  ints,
  b,
))
is_word_of Short x e h = low_word_same x h.above h.below
is_word_of Int x e h = absurd cc
is_word_of (Reference shape) x e h = absurd cc
is_word_of NoValue x e h = absurd cc

-- ---- one argument

-- It goes to a local, whatever other locals hold; the words of arguments stay.
record Moves (l : Named) (f : Frame) (pairs : ℕ) (code : NMethod) (here : ℕ) (list : List NInsn) (ls : List Kind)
    (locals : List (Option Value)) (words : List (Option Value)) (memory : NMemory) (arguments : List (Option Value)) :
    Type 0 where
  after : List (Option Value)
  steps : ℕ
  few : steps ≤ length list
  leads : walk (by_label l) code steps (spot here [] words memory) ≡ Within (spot (behind here list) [] after memory)
  agree : IntLocals memory.heap f pairs ls locals after
  stays : agree.arguments ≡ arguments

module _ (l : Named) (f : Frame) (pairs : ℕ) (code : NMethod) (room : 2 ≤ code.max_stack) (here word n : ℕ)
    (ls : List Kind) (locals words : List (Option Value)) (memory : NMemory) (h : IntLocals memory.heap f pairs ls
    locals
    words) (lt : n < length ls) where
  -- s2i and istore behind a word
  stores_int : (at : ℕ) (high low : ℤ) → slice_get code.insns at ≡ Some (if nat_le (first_word f n) 3
      then insns.Op (0x33 + first_word f n) else insns.Local 0x2A (first_word f n))
      → walk (by_label l) code 1 (spot at (Num low ∷ Num high ∷ []) words memory)
      ≡ Within (spot (at + 1) [] (two_set (first_word f n) high low words) memory)
  stores_int at high low there =
      let k = first_word f n in let right = (locals_long h).1 in
      onward l code 0 at (at + 1) (if nat_le k 3 then insns.Op (0x33 + k) else insns.Local 0x2A k) (Num low ∷ Num high
      ∷ []) [] words (two_set k high low words) memory memory _ there
      (ap (λ o. narrow.effect (classes l) o code.max_stack (at + 1) words memory (Num low ∷ Num high ∷ [])) (istore_is
      k)
      ∙ ap (λ q. let e : NEffect = narrow.effect_of_result q (at + 1) memory in e)
      (int_written k words [] high low (omega (arith, right, lt)) code.max_stack)) refl

  moves_short : (sort : Sort) (s : Span) (x : ℤ) → is_short sort ≡ true → Holds (type_range sort) x → Holds s x
      → slice_get words word ≡ Some (Some (Num (low_word x)))
      → slice_get code.insns here ≡ Some (if nat_le word 3 then insns.Op (0x1C + word) else insns.Local 0x16 word)
      → slice_get code.insns (here + 1) ≡ Some (insns.Op 0x5C)
      → slice_get code.insns (here + 1 + 1) ≡ Some (if nat_le (first_word f n) 3
      then insns.Op (0x33 + first_word f n) else insns.Local 0x2A (first_word f n))
      → (list : List NInsn) → length list ≡ 3 → behind here list ≡ here + 1 + 1 + 1
      → Moves l f pairs code here list (slice_set ls n (Range s)) (slice_set locals n (Some (Num x))) words memory
      h.arguments
  unfolding meaning
  moves_short sort s x short small inside held first second third list size next =
      let y = low_word x in
      let same = is_word_of sort x short small in
      record {
        after = two_set (first_word f n) (high_word y) (low_word y) words;
        steps = 3;
        few = omega (arith, size);
        leads = onward l code 2 here (here + 1) (if nat_le word 3 then insns.Op (0x1C + word) else insns.Local 0x16
            word)
            [] (Num y ∷ []) words words memory memory _ first
            (ap (λ o. narrow.effect (classes l) o code.max_stack (here + 1) words memory []) (number_load_is word)
            ∙ ap (λ o. let e : NEffect = narrow.effect_of_result (Calculations.set_local o (λ v. Calculations.if_so
            (is_number v) (Calculations.pushed (v ∷ []) code.max_stack words []))) (here + 1) memory in e) held
            ∙ push_words (Num y ∷ []) code.max_stack (here + 1) [] words memory (omega (arith, room)))
            (onward l code 1 (here + 1) (here + 1 + 1) (insns.Op 0x5C) (Num y ∷ []) (int_words y ++ []) words words
            memory
            memory _ second (push_words (int_words y) code.max_stack (here + 1 + 1) [] words memory (omega (
              arith,
              room,
            )))
            (stores_int (here + 1 + 1) (high_word y) (low_word y) third
            ∙ ap (λ p. Within (spot p [] (two_set (first_word f n) (high_word y) (low_word y) words) memory)) (sym
            next)));
        agree = number_kept h (high_word y) (low_word y) n lt (spelt_number x y (sym same) (word_is_int x)) inside;
        stays = number_stays h (high_word y) (low_word y) n lt (spelt_number x y (sym same) (word_is_int x)) inside;
      }

  moves_int : (s : Span) (x high low : ℤ) → x ≡ spelt_by high low → Holds s x
      → slice_get words word ≡ Some (Some (Num high)) → slice_get words (word + 1) ≡ Some (Some (Num low))
      → slice_get code.insns here ≡ Some (if nat_le word 3 then insns.Op (0x20 + word) else insns.Local 0x17 word)
      → slice_get code.insns (here + 1) ≡ Some (if nat_le (first_word f n) 3
      then insns.Op (0x33 + first_word f n) else insns.Local 0x2A (first_word f n))
      → (list : List NInsn) → length list ≡ 2 → behind here list ≡ here + 1 + 1
      → Moves l f pairs code here list (slice_set ls n (Range s)) (slice_set locals n (Some (Num x))) words memory
      h.arguments
  moves_int s x high low spelt inside held held' first second list size next = record {
    after = two_set (first_word f n) high low words;
    steps = 2;
    few = omega (arith, size);
    leads = onward l code 1 here (here + 1) (if nat_le word 3 then insns.Op (0x20 + word) else insns.Local 0x17 word) []
        (Num low ∷ Num high ∷ []) words words memory memory _ first
        (ap (λ o. narrow.effect (classes l) o code.max_stack (here + 1) words memory []) (iload_is word)
        ∙ ap (λ q. let e : NEffect = narrow.effect_of_result q (here + 1) memory in e)
        (int_read word code.max_stack words [] high low held held')
        ∙ push_words (Num low ∷ Num high ∷ []) code.max_stack (here + 1) [] words memory (omega (arith, room)))
        (stores_int (here + 1) high low second
        ∙ ap (λ p. Within (spot p [] (two_set (first_word f n) high low words) memory)) (sym next));
    agree = number_kept h high low n lt spelt inside;
    stays = number_stays h high low n lt spelt inside;
  }

  moves_reference : (within : Shape (List ℕ) → Bool) (v : Value) → RefersTo memory.heap within v
      → slice_get words word ≡ Some (Some v) → is_reference v ≡ true
      → slice_get code.insns here ≡ Some (if nat_le word 3 then insns.Op (0x18 + word) else insns.Local 0x15 word)
      → slice_get code.insns (here + 1) ≡ Some (if nat_le (first_word f n) 3
      then insns.Op (0x2B + first_word f n) else insns.Local 0x28 (first_word f n))
      → (list : List NInsn) → length list ≡ 2 → behind here list ≡ here + 1 + 1
      → Moves l f pairs code here list (slice_set ls n (Refers within)) (slice_set locals n (Some v)) words memory
      h.arguments
  moves_reference within v refers held kind first second list size next =
      let k = first_word f n in let right = (locals_long h).1 in
      let old = get_inside words k (omega (arith, right, lt)) in
      record {
        after = slice_set words k (Some v);
        steps = 2;
        few = omega (arith, size);
        leads = onward l code 1 here (here + 1) (if nat_le word 3 then insns.Op (0x18 + word)
            else insns.Local 0x15 word) [] (v ∷ []) words words memory memory _ first
            (ap (λ o. narrow.effect (classes l) o code.max_stack (here + 1) words memory []) (aload_is word)
            ∙ ap (λ o. let e : NEffect = narrow.effect_of_result (Calculations.set_local o (λ v. Calculations.if_so
            (is_reference v) (Calculations.pushed (v ∷ []) code.max_stack words []))) (here + 1) memory in e) held
            ∙ ap (λ t. let e : NEffect = narrow.effect_of_result (Calculations.if_so t (Calculations.pushed (v ∷ [])
            code.max_stack words [])) (here + 1) memory in e) kind
            ∙ push_words (v ∷ []) code.max_stack (here + 1) [] words memory (omega (arith, room)))
            (onward l code 0 (here + 1) (here + 1 + 1) (if nat_le k 3 then insns.Op (0x2B + k) else insns.Local 0x28 k)
            (v ∷ []) [] words (slice_set words k (Some v)) memory memory _ second
            (ap (λ o. narrow.effect (classes l) o code.max_stack (here + 1 + 1) words memory (v ∷ [])) (astore_is k)
            ∙ ap (λ t. let e : NEffect = narrow.effect_of_result (Calculations.if_so t (Calculations.there
            (slice_get words k) (Fine [] (slice_set words k (Some v))))) (here + 1 + 1) memory in e) kind
            ∙ ap (λ o. let e : NEffect = narrow.effect_of_result (Calculations.there o
            (Fine [] (slice_set words k (Some v)))) (here + 1 + 1) memory in e) old.1)
            (ap (λ p. Within (spot p [] (slice_set words k (Some v)) memory)) (sym next)));
        agree = reference_kept h n lt refers;
        stays = reference_stays h n lt refers;
      }

  -- where its words stand
  moves : (sort : Sort) (kind : Kind) (v : Value) (ws : List Value) → Handed memory.heap sort kind v ws
      → ((k : ℕ) (w : Value) → slice_get ws k ≡ Some w → slice_get words (word + k) ≡ Some (Some w))
      → StandAt code here (moved f sort word n)
      → Moves l f pairs code here (moved f sort word n) (slice_set ls n kind) (slice_set locals n (Some v)) words memory
      h.arguments
  moves Boolean _ _ _ (one_word {s = s} {x = x} short small inside) held is =
      moves_short Boolean s x short small inside (ap (slice_get words) (let e : word ≡ word + 0 = omega arith in e)
      ∙ held 0 _ refl) is.0 is.1.0 is.1.1.0 _ refl refl
  moves Byte _ _ _ (one_word {s = s} {x = x} short small inside) held is =
      moves_short Byte s x short small inside (ap (slice_get words) (let e : word ≡ word + 0 = omega arith in e)
      ∙ held 0 _ refl) is.0 is.1.0 is.1.1.0 _ refl refl
  moves Short _ _ _ (one_word {s = s} {x = x} short small inside) held is =
      moves_short Short s x short small inside (ap (slice_get words) (let e : word ≡ word + 0 = omega arith in e)
      ∙ held 0 _ refl) is.0 is.1.0 is.1.1.0 _ refl refl
  moves Int _ _ _ (two_words {s = s} {x = x} {high = high} {low = low} spelt inside) held is =
      moves_int s x high low spelt inside (ap (slice_get words) (let e : word ≡ word + 0 = omega arith in e)
      ∙ held 0 _ refl) (held 1 _ refl) is.0 is.1.0 _ refl refl
  moves (Reference shape) _ _ _ (as_it_is {within = within} to_null) held is =
      moves_reference within Null to_null (ap (slice_get words) (let e : word ≡ word + 0 = omega arith in e)
      ∙ held 0 _ refl) refl is.0 is.1.0 _ refl refl
  moves (Reference shape) _ _ _ (as_it_is {within = within} (to_object {k = k} thing there test)) held is =
      moves_reference within (Obj k) (to_object thing there test)
      (ap (slice_get words) (let e : word ≡ word + 0 = omega arith in e) ∙ held 0 _ refl) refl is.0 is.1.0 _ refl refl
  moves Int _ _ _ (one_word short small inside) held is = absurd cc
  moves (Reference shape) _ _ _ (one_word short small inside) held is = absurd cc
  moves NoValue _ _ _ (one_word short small inside) held is = absurd cc

-- ---- all arguments

-- a value has as many words as its type
pub words_long : {heap : Heap} {sort : Sort} {kind : Kind} {v : Value} {ws : List Value} → Handed heap sort kind v ws
    → length ws ≡ widths (sort ∷ [])
words_long {sort = Boolean} (one_word short small inside) = refl
words_long {sort = Byte} (one_word short small inside) = refl
words_long {sort = Short} (one_word short small inside) = refl
words_long {sort = Int} (one_word short small inside) = absurd cc
words_long {sort = Reference shape} (one_word short small inside) = absurd cc
words_long {sort = NoValue} (one_word short small inside) = absurd cc
words_long (two_words spelt inside) = refl
words_long (as_it_is refers) = refl

module _ (l : Named) (f : Frame) (pairs : ℕ) (code : NMethod) (room : 2 ≤ code.max_stack) (memory : NMemory) where
  brings_from : (here word n : ℕ) (sorts : List Sort) (ks : List Kind) (vs : List Value) (before args : List Value)
      (ls : List Kind) (locals words : List (Option Value)) → AllHanded memory.heap sorts ks vs args
      → (h : IntLocals memory.heap f pairs ls locals words) → h.arguments ≡ map (λ v. Some v) (before ++ args)
      → length before ≡ word → n + length ks ≤ length ls → StandAt code here (moved_from f word n sorts)
      → Brings l f pairs code here (moved_from f word n sorts) (filled ls n ks)
      (filled locals n (map (λ v. Some v) vs)) words memory
  brings_from here word n _ _ _ before _ ls locals words nothing h is long fits stand = record {
    after = words;
    steps = 0;
    few = omega arith;
    leads = refl;
    agree = h;
  }
  brings_from here word n _ _ _ before _ ls locals words (one_more {sort = sort} {kind = kind} {v = v} {sorts = sorts}
      {ks = ks} {vs = vs} {words = ws} {ws = args} handed more) h is long fits stand =
      let first = moved f sort word n in
      let others = moved_from f (word + widths (sort ∷ [])) (n + 1) sorts in
      let held = λ (k : ℕ) (w : Value) (e : slice_get ws k ≡ Some w). ap (λ q. slice_get q (word + k)) h.are
      ∙ in_front h.arguments (h.own ++ h.scratch) (word + k) (Some w) (ap (λ q. slice_get q (word + k)) is
      ∙ get_mapped (λ v. Some v) (before ++ (ws ++ args)) (word + k)
      ∙ ap (option_map (λ v. Some v)) (ap (λ j. slice_get (before ++ (ws ++ args)) (j + k)) (sym long)
      ∙ get_behind before (ws ++ args) k ∙ in_front ws args k w e)) in
      let m = moves l f pairs code room here word n ls locals words memory h (omega (arith, fits)) sort kind v ws handed
      held (stand_front code here first others stand) in
      let wide = words_long handed in
      let more_long = length-append before ws in
      let kept = set_length ls n kind in
      let g = brings_from (behind here first) (word + widths (sort ∷ [])) (n + 1) sorts ks vs (before ++ ws) args
      (slice_set ls n kind) (slice_set locals n (Some v)) m.after more m.agree
      (m.stays ∙ is ∙ ap (map (λ v. Some v)) (sym (append_assoc before ws args))) (omega (arith, long, wide, more_long))
      (omega (arith, fits, kept)) (stand_back code here first others stand) in
      let size = length-append first others in let few = m.few in let few' = g.few in
      record {
        after = g.after;
        steps = m.steps + g.steps;
        few = omega (arith, size, few, few');
        leads = and_onward l code m.steps g.steps (spot here [] words memory) (spot (behind here first) [] m.after
            memory)
            _ m.leads (g.leads ∙ ap (λ p. Within (spot p [] g.after memory)) (sym (behind_both here first others)));
        agree = g.agree;
      }

  pub brings : (here : ℕ) (ks : List Kind) (vs args : List Value) (ls : List Kind) (locals words : List (Option Value))
      → AllHanded memory.heap f.params ks vs args → (h : IntLocals memory.heap f pairs ls locals words)
      → h.arguments ≡ map (λ v. Some v) args → length ks ≤ length ls
      → StandAt code here (moved_from f 0 0 f.params)
      → Brings l f pairs code here (moved_from f 0 0 f.params) (filled ls 0 ks) (filled locals 0 (map (λ v. Some v) vs))
      words memory
  brings here ks vs args ls locals words handed h is fits stand =
      brings_from here 0 0 f.params ks vs [] args ls locals words handed h is refl (omega (arith, fits)) stand
