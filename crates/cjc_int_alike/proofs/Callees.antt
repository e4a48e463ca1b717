-- Methods of both modes begin with what is given for their parameters, and both sides of a call reach them.
use Rattle.std.proofs.Common.{◌≡◌, ◌+◌, ◌-◌, ℕ, suc, Bool, true, false, not, cond, List, [], ◌∷◌, ◌++◌}
use Rattle.std.proofs.Common.{map, length, replicate, Option, refl, sym, ap, subst, ◌∙◌, arith}
use Rattle.std.specs.Prelude.{if◌then◌else◌, ◌||◌}
use Rattle.std.specs.List.{AllZip, AllByRecursion}
use Rattle.cjc_bytes.specs.AccessFlags.{is_static}
use Rattle.cjc_bytes.specs.Descriptor.{Part}
use Rattle.cjc_bytes.specs.declared.fault.MemberId.{MemberId}
use Rattle.cjc_range.specs.Span.{Within, short_range, byte_range, full}
use Rattle.cjc_range.proofs.Order.{within_refl, within_trans}
use Rattle.cjc_script.specs.Sorts.{Shape, OfClass, Sort, Boolean, Byte, Short, Int, Reference, NoValue, sort_of}
use Rattle.cjc_script.specs.Sorts.{signature_of}
use Rattle.cjc_world.specs.Classes.{Class}
use Rattle.cjc_types.specs.Flow.{arguments}
use Rattle.cjc_types.specs.Types.{parts, value_of}
use Rattle.cjc_code.specs.declared.insn.JOp.{JOp}
use Rattle.cjc_ncode.specs.Written.{Resolution}
use Rattle.cjc_types.specs.declared.cell.Cell.{Cell}
use Rattle.cjc_types.specs.declared.cell.Cell.TheVariants.{Refs}
use Rattle.cjc_intervals.specs.Flow.{argument_ranges}
use Rattle.cjc_intervals.specs.Steps.{operand}
use Rattle.cjc_intervals.specs.Values.{range_of}
use Rattle.cjc_card_semantics.specs.Bytecode.Machine.{Start}
use Rattle.cjc_ncode.specs.declared.narrow.NMethod.{NMethod}
use Rattle.cjc_ncode.specs.ByLabel.{Callee, Named}
use Rattle.cjc_ncode.specs.IntCode.IntCode.{is_short, prologue}
use Rattle.cjc_jvm_semantics.specs.Linked.{Method, Linked}
use Rattle.cjc_narrow_proof.specs.Selection.Calls.{is_number_sort}
use Rattle.cjc_narrow_proof.specs.Selection.Relation.{Kind, Range, Refers, Free, Wider, more_numbers, more_types}
use Rattle.cjc_narrow_proof.specs.Selection.Entries.{kinds_of}
use Rattle.cjc_narrow_proof.specs.Selection.Objects.{class_of}
use Rattle.cjc_narrow_proof.specs.Selection.Relation.{AllWider, one_wider, boolean_range}
use Rattle.cjc_narrow_proof.specs.Selection.Rows.{kind_of, is_word_sort}
use Rattle.cjc_narrow_proof.specs.Tables.Analysis.{Analysis, declared_kinds, table_of}
use Rattle.cjc_narrow_proof.specs.Tables.Calls.{IsReachedBy, IsWordDesc, IsAsked, types_of, count_of}
use Rattle.cjc_narrow_proof.specs.Tables.Kinds.{is_named, is_one_of, kinds}
use Rattle.cjc_narrow_proof.proofs.TablesLaws.Called.{callee_begins, callee_narrowed}
use Rattle.cjc_narrow_proof.proofs.TablesLaws.Methods.{wider_length}
use Rattle.cjc_narrow_proof.proofs.TablesLaws.Passed.{IsPassed, number, reference, boolean_short, byte_short}
use Rattle.cjc_narrow_proof.proofs.TablesLaws.Rows.{all_wider_itself, all_wider_through, wider_append}
use Rattle.cjc_narrow_proof.proofs.TablesLaws.Told.{kinds_length}
use Rattle.cjc_int_mode.specs.Written.{int_frame, params_by}
use Rattle.cjc_int_runs.specs.ByModes.{PassesWords, no_parameter, a_number_word, a_reference_word}
use Rattle.cjc_int_runs.specs.Entering.{IntMethodBegins}
use Rattle.cjc_int_runs.specs.IntFrames.{IntBody, StandsByMode, IntArrives}
use Rattle.cjc_int_runs.specs.Modes.{MayEnter, MayEnterOn, CallReaches, reaches_method, reaches_import}
use Rattle.cjc_int_runs.specs.Modes.{reaches_objects, Chooses, chooses_method, chooses_import, IsImported}
use Rattle.cjc_int_runs.specs.Fields.{has_values}
use Rattle.cjc_int_runs.specs.Relation.{type_range}
use Rattle.cjc_int_runs.specs.Scripted.{IsScripted, finds_a_method, finds_none}
use Rattle.cjc_int_runs.specs.Steps.{StandAt, behind}
use Rattle.cjc_int_runs.specs.Typed.{IsWritten}
use Rattle.cjc_int_runs.proofs.Entering.{int_enters, short_enters, enters_on}
use Rattle.cjc_int_runs.proofs.PlacedCode.{prologue_stands}
use Rattle.cjc_int_runs.proofs.TypedCode.{arrives_first}
use Rattle.cjc_int_alike.specs.Callees.{IsIntBegun, IsBegunByMode, begun_in_int_mode, begun_in_short_mode}
use Rattle.cjc_int_alike.specs.Callees.{IsReachedByMode, int_code, IsCalledByMode, calls_method, calls_import}
use Rattle.cjc_int_alike.specs.Callees.{calls_on_receiver, IsSelectedByMode, selects_method, selects_import}
use Rattle.cjc_int_alike.specs.Callees.{IsScriptedByMode, script_finds_none, script_finds}
use Rattle.cjc_int_alike.specs.Calls.{IsPassedInt, AreGiven, a_word, an_int, a_reference, IsIntCalled, on_class}
use Rattle.cjc_int_alike.specs.Calls.{on_receiver}
use Rattle.cjc_int_alike.specs.Method.{int_body, int_reached}
use Rattle.cjc_int_alike.proofs.Begins.{begins_wider, range_there, first_known, few_parameters}
use Rattle.cjc_int_alike.proofs.Passed.{long_from as long_given}
use Rattle.cjc_int_alike.proofs.Returns.{signature_is}
use Rattle.cjc_int_alike.proofs.Written.{is_written}

-- ---- one word each

module _ (l : Named) where
  -- what is given for a parameter of one word is passed for it outside int mode
  word_passed : (p : Part) (k : Kind) → is_word_sort (sort_of p) ≡ true → IsPassedInt l p k → IsPassed l p k
  word_passed p _ word (a_word {s = s} short inside) = go (sort_of p) refl short inside
    where
      of : (given_as : Sort) → sort_of p ≡ given_as → is_number_sort given_as ≡ true → Within s short_range
          → Wider (Range s) (kind_of l given_as) → IsPassed l p (Range s)
      of given_as is numeric small wider = number (ap is_number_sort is ∙ numeric) small
          (subst (λ given_as. Wider (Range s) (kind_of l given_as)) (sym is) wider)

      go : (given_as : Sort) → sort_of p ≡ given_as → is_short given_as ≡ true → Within s (type_range given_as)
          → IsPassed l p (Range s)
      go Boolean is short inside = of Boolean is refl (within_trans _ _ _ inside boolean_short) (more_numbers inside)
      go Byte is short inside = of Byte is refl (within_trans _ _ _ inside byte_short) (more_numbers inside)
      go Short is short inside = of Short is refl inside (more_numbers inside)
      go Int is short inside = cc
      go (Reference shape) is short inside = cc
      go NoValue is short inside = cc
  word_passed p _ word (an_int is inside) = let none : false ≡ true = sym (ap is_word_sort is) ∙ word in cc
  word_passed p _ word (a_reference {within = within} shape is of) = reference shape is
      (subst (λ sort. Wider (Refers within) (kind_of l sort)) (sym is) (more_types of))

  words_passed : (ps : List Part) (ks : List Kind) → AllByRecursion (λ p. is_word_sort (sort_of p) ≡ true) ps
      → AllZip (IsPassedInt l) ps ks → AllZip (IsPassed l) ps ks
  words_passed [] [] words h = tt
  words_passed [] (k ∷ ks) words h = absurd h
  words_passed (p ∷ ps) [] words h = absurd h
  words_passed (p ∷ ps) (k ∷ ks) words h = (word_passed p k words.0 h.0, words_passed ps ks words.1 h.1)

  pub passes_words : (ps : List Part) (ks : List Kind) → AllByRecursion (λ p. is_word_sort (sort_of p) ≡ true) ps
      → AllZip (IsPassedInt l) ps ks → PassesWords (map sort_of ps) ks
  passes_words [] [] words h = no_parameter
  passes_words [] (k ∷ ks) words h = absurd h
  passes_words (p ∷ ps) [] words h = absurd h
  passes_words (p ∷ ps) (k ∷ ks) words h = go words.0 h.0 (passes_words ps ks words.1 h.1)
    where
      go : {k : Kind} → is_word_sort (sort_of p) ≡ true → IsPassedInt l p k → PassesWords (map sort_of ps) ks
          → PassesWords (map sort_of (p ∷ ps)) (k ∷ ks)
      go word (a_word short inside) more = a_number_word short inside more
      go word (an_int is inside) more = let none : false ≡ true = sym (ap is_word_sort is) ∙ word in cc
      go word (a_reference {within = within} shape is of) more = subst (λ sort. PassesWords (sort ∷ map sort_of ps)
          (Refers within ∷ ks)) (sym is) (a_reference_word more)

-- ---- methods

module _ (by : Linked) (l : Named) (w : List Class) (a : Analysis) (bodies : Method → Option IntBody)
    (results : Method → Option Sort) where
  abbrev ps_of : (desc : List ℕ) → List Part
  ps_of desc = let d = parts desc in d.params

  -- the class of a method's receiver
  abbrev class_in : Method → List ℕ
  class_in m = let f = a.found m in let b = f.body in b.class

  -- what a receiver passes
  abbrev pub receives_in : Method → Shape (List ℕ) → Bool
  receives_in m = is_one_of l (class_in m ∷ [])

  -- the types of a receiver and of parameters, and their kinds
  abbrev sorts_on : (on : Bool) → Method → (desc : List ℕ) → List Sort
  sorts_on on m desc = if on then Reference (OfClass (class_in m)) ∷ map sort_of (ps_of desc)
      else map sort_of (ps_of desc)

  abbrev kinds_on : (on : Bool) → Method → List Kind → List Kind
  kinds_on on m ks = if on then Refers (receives_in m) ∷ ks else ks

  -- what is given is known where the method begins
  declared : (on : Bool) (desc : List ℕ) (m : Method) → (let f = a.found m in let b = f.body in b.desc) ≡ desc
      → (let f = a.found m in let b = f.body in is_static b.flags) ≡ not on → (ks : List Kind) → AreGiven l desc ks
      → AllWider (kinds_on on m ks) (declared_kinds l (let f = a.found m in f.body))
  declared on desc m same flags ks given = go on (is_static (let f = a.found m in let b = f.body in b.flags)) refl flags
    where
      same_params : ps_of (let f = a.found m in let b = f.body in b.desc) ≡ ps_of desc
      same_params = ap ps_of same

      go : (on is : Bool) → is_static (let f = a.found m in let b = f.body in b.flags) ≡ is → is ≡ not on
          → AllWider (kinds_on on m ks) (declared_kinds l (let f = a.found m in f.body))
      go true true is e = cc
      go false false is e = cc
      go false true is e =
          subst (λ b. AllWider ks (kinds l ((cond b [] (Refs (class_in m ∷ []) ∷ []))
          ++ map value_of (ps_of (let f = a.found m in let b = f.body in b.desc))) ((cond b [] (full ∷ []))
          ++ map range_of (ps_of (let f = a.found m in let b = f.body in b.desc))))) (sym is)
          (subst (λ qs. AllWider ks (kinds l (map value_of qs) (map range_of qs))) (sym same_params)
          (begins_wider l (ps_of desc) ks (map range_of (ps_of desc)) 0 given (λ j d lt. (let e : 0 + j ≡ j =
          omega arith in ap (operand (map range_of (ps_of desc))) e ∙ range_there (ps_of desc) j d lt))))
      go true false is e =
          subst (λ b. AllWider (Refers (receives_in m) ∷ ks) (kinds l ((cond b [] (Refs (class_in m ∷ []) ∷ []))
          ++ map value_of (ps_of (let f = a.found m in let b = f.body in b.desc))) ((cond b [] (full ∷ []))
          ++ map range_of (ps_of (let f = a.found m in let b = f.body in b.desc))))) (sym is)
          (subst (λ qs. AllWider (Refers (receives_in m) ∷ ks) (kinds l (Refs (class_in m ∷ []) ∷ map value_of qs)
          (full ∷ map range_of qs))) (sym same_params)
          (one_wider (more_types (λ kind e. e)) (begins_wider l (ps_of desc) ks (full ∷ map range_of (ps_of desc)) 1
          given (λ j d lt. (let e : 1 + j ≡ suc j = omega arith in ap (operand (full ∷ map range_of (ps_of desc))) e
          ∙ range_there (ps_of desc) j d lt)))))

  -- ---- in int mode

  module _ (m : Method) (h : IsIntBegun by l w a bodies results m) where
    abbrev body : IntBody
    body = int_body l (a.resolution m) (a.found m) (int_code a h.tree m)

    abbrev params_of : List Sort
    params_of = let f = a.found m in let n = int_frame f.body in n.params

    params_are : (on : Bool) (desc : List ℕ) → (let f = a.found m in let b = f.body in b.desc) ≡ desc
        → (let f = a.found m in let b = f.body in is_static b.flags) ≡ not on → params_of ≡ sorts_on on m desc
    params_are on desc same flags = go on (is_static (let f = a.found m in let b = f.body in b.flags)) refl flags
      where
        own : params_by (signature_of (let f = a.found m in let b = f.body in b.desc)) ≡ map sort_of (ps_of desc)
        own = ap params_by (signature_is (let f = a.found m in let b = f.body in b.desc) (let g = h.gives in g.desc))
            ∙ ap (λ d. map sort_of (ps_of d)) same

        go : (on is : Bool) → is_static (let f = a.found m in let b = f.body in b.flags) ≡ is → is ≡ not on
            → params_of ≡ sorts_on on m desc
        go true true is e = cc
        go false false is e = cc
        go false true is e = ap (λ b. (if b then [] else Reference (OfClass (class_in m)) ∷ [])
            ++ params_by (signature_of (let f = a.found m in let b = f.body in b.desc))) is ∙ own
        go true false is e = ap (λ b. (if b then [] else Reference (OfClass (class_in m)) ∷ [])
            ++ params_by (signature_of (let f = a.found m in let b = f.body in b.desc))) is
            ∙ ap (λ ss. Reference (OfClass (class_in m)) ∷ ss) own

    int_begins : (sorts : List Sort) (ks : List Kind) → params_of ≡ sorts
        → AllWider ks (declared_kinds l (let f = a.found m in f.body)) → IntMethodBegins a.narrowed body m sorts ks
    int_begins sorts ks is wider =
        let whole = h.whole in
        let read = whole.read in
        let f = a.found m in
        let b = f.body in
        let room = (let begins = h.begins in begins.room) in
        let few = few_parameters by l a.may_throw w (a.resolution m) f m whole in
        let long = wider_length wider in
        let args = kinds_length l 0 (arguments b) (argument_ranges b) in
        let max = read.max_stack in
        let start = h.starts in
        record {
          has_code = h.has_code;
          is_written = ap (λ (s : Start NMethod). s.is_abstract) start;
          code = ap (λ (s : Start NMethod). s.code) start;
          argument_words = ap (λ (s : Start NMethod). s.nargs) start;
          further_words = ap (λ (s : Start NMethod). s.max_locals) start;
          params = is;
          few = (let same = ap length is in omega (arith, few, same));
          named_locals = read.max_locals;
          fit = omega (arith, room, long, args);
          stands = subst (λ n. at_start n) (sym (ap (λ (s : Start NMethod). s.at) start)) stands_there;
          has_room = omega arith;
          arrives = arrives ks wider;
        }
      where
        at_start : ℕ → Type 0
        at_start n = StandAt (int_code a h.tree m) n (prologue (int_frame (let f = a.found m in f.body)))

        stands_there : at_start 0
        stands_there = prologue_stands (int_frame (let f = a.found m in f.body)) (a.resolution m)
            (int_reached (a.found m)) (int_code a h.tree m) refl

        written_here : IsWritten body m (int_reached (a.found m))
        written_here = is_written l (a.resolution m) (a.found m) m h.tree (let whole = h.whole in whole.read)
            (let whole = h.whole in whole.decoded) h.catches h.max_stack

        arrives : (ks : List Kind) → AllWider ks (declared_kinds l (let f = a.found m in f.body))
            → IntArrives body m 0 (behind (let n = a.narrowed m in n.at) (prologue (int_frame (let f = a.found m
            in f.body)))) [] (ks ++ replicate ((let f = a.found m in let b = f.body in b.max_locals) - length ks) Free)
        arrives ks wider =
            let f = a.found m in
            let b = f.body in
            let first = arrives_first body m (int_reached f) written_here (declared_kinds l b
            ++ replicate (b.max_locals - length (declared_kinds l b)) Free)
            (first_known by l (StandsByMode l (table_of l a) bodies) results a.narrowed a.may_throw w (a.resolution m) f
            (int_code a h.tree m) m h.whole h.begins) in
            let long = wider_length wider in
            record {
              point = first.point;
              is_reached = first.is_reached;
              place = ap (λ (s : Start NMethod). behind s.at (prologue (int_frame b))) h.starts ∙ first.place;
              stack = first.stack;
              locals = all_wider_through (subst (λ n. AllWider (ks ++ replicate (b.max_locals - length ks) Free)
                  (declared_kinds l b ++ replicate (b.max_locals - n) Free)) long
                  (wider_append wider (all_wider_itself (replicate (b.max_locals - length ks) Free)))) first.locals;
            }

  -- ---- in either mode

  -- a method begins with what is given, on a receiver or without one
  enters_by : (on : Bool) (desc : List ℕ) (m : Method) → IsReachedByMode by l w a bodies results on desc m
      → (ks : List Kind) → AreGiven l desc ks → MayEnter by l (StandsByMode l (table_of l a) bodies) results a.narrowed
      a.may_throw m (sorts_on on m desc) (kinds_on on m ks)
  enters_by on desc m reached ks given = go reached.begun
    where
      wider : AllWider (kinds_on on m ks) (declared_kinds l (let f = a.found m in f.body))
      wider = declared on desc m reached.desc reached.flags ks given

      go : IsBegunByMode by l w a bodies results m → MayEnter by l (StandsByMode l (table_of l a) bodies) results
          a.narrowed a.may_throw m (sorts_on on m desc) (kinds_on on m ks)
      go (begun_in_int_mode h) = int_enters by l (table_of l a) bodies results m (sorts_on on m desc) (kinds_on on m ks)
          (body m h) h.body (int_begins m h (sorts_on on m desc) (kinds_on on m ks)
          (params_are m h on desc reached.desc reached.flags) wider)
      go (begun_in_short_mode h) = short_enters by l (table_of l a) bodies results m (sorts_on on m desc)
          (kinds_on on m ks) h.no_body (record {
            passes = words on;
            is_narrowed = callee_narrowed by l w a on desc m (length (kinds_on on m ks)) reached_short (long on);
            arrives = callee_begins by l w a on desc m word reached_short ks (kinds_on on m ks)
                (words_passed l (ps_of desc) ks word.params given) refl;
          })
        where
          word : IsWordDesc desc
          word = subst IsWordDesc reached.desc h.desc

          reached_short : IsReachedBy by l w a on desc m
          reached_short = record { whole = h.whole; desc = reached.desc; flags = reached.flags }

          words : (on : Bool) → PassesWords (sorts_on on m desc) (kinds_on on m ks)
          words true = a_reference_word (passes_words l (ps_of desc) ks word.params given)
          words false = passes_words l (ps_of desc) ks word.params given

          long : (on : Bool) → length (kinds_on on m ks) ≡ (if on then suc (count_of desc) else count_of desc)
          long true = ap suc (long_given l (ps_of desc) ks given)
          long false = long_given l (ps_of desc) ks given

  pub enters : (desc : List ℕ) (m : Method) → IsReachedByMode by l w a bodies results false desc m → (ks : List Kind)
      → AreGiven l desc ks → MayEnter by l (StandsByMode l (table_of l a) bodies) results a.narrowed a.may_throw m
      (let types = types_of desc in types.params) ks
  enters desc m reached ks given = enters_by false desc m reached ks given

  -- on a receiver of its class
  pub enters_receiver : (desc : List ℕ) (m : Method) → IsReachedByMode by l w a bodies results true desc m
      → (kind : Shape (List ℕ)) → is_named l (class_in m) kind ≡ true → (ks : List Kind) → AreGiven l desc ks
      → MayEnterOn by l (StandsByMode l (table_of l a) bodies) results a.narrowed a.may_throw m kind
      (let types = types_of desc in types.params) ks
  enters_receiver desc m reached kind is ks given = enters_on by l (StandsByMode l (table_of l a) bodies) results
      a.narrowed a.may_throw m (map sort_of (ps_of desc)) ks (OfClass (class_in m)) kind (receives_in m)
      (ap (λ b. b || false) is) (enters_by true desc m reached ks given)

  -- what callers are given
  pub gives_result : (on : Bool) (desc : List ℕ) (m : Method) → IsReachedByMode by l w a bodies results on desc m
      → results m ≡ (let types = types_of desc in types.result)
  gives_result on desc m reached = go reached.begun
    where
      by_desc : (let f = a.found m in let b = f.body in let types = types_of b.desc in types.result)
          ≡ (let types = types_of desc in types.result)
      by_desc = ap (λ d. (let types = types_of d in types.result)) reached.desc

      go : IsBegunByMode by l w a bodies results m → results m ≡ (let types = types_of desc in types.result)
      go (begun_in_int_mode h) = (let g = h.gives in g.given) ∙ by_desc
      go (begun_in_short_mode h) = h.given ∙ by_desc

-- ---- calls

module _ (by : Linked) (l : Named) (w : List Class) (a : Analysis) (bodies : Method → Option IntBody)
    (results : Method → Option Sort) where
  abbrev ReachesHere : (m : Method) (op : ℕ) (id : MemberId) (named : Callee) (params : List Kind)
      → Option (Shape (List ℕ) → Bool) → Type 0
  ReachesHere m op id named params receiver = CallReaches by l (StandsByMode l (table_of l a) bodies) results a.narrowed
      a.may_throw (class_of m) op id named (types_of id.desc) params receiver

  imported : (id event : MemberId) → IsAsked by l id.desc event → IsImported by l (StandsByMode l (table_of l a) bodies)
      results a.narrowed a.may_throw id event (types_of id.desc)
  imported id event asked = record { desc = asked.desc; asks = asked.asks }

  -- Both sides of a call reach the same, in methods of either mode.
  pub called_by_mode : (r : Resolution) (m : Method) (cells : List Cell) (op : JOp)
      → IsCalledByMode by l w a bodies results r m cells op
      → IsIntCalled by l (StandsByMode l (table_of l a) bodies) results a.narrowed a.may_throw r m cells op
  called_by_mode r m cells _ (calls_method {id = id} named desc names off words callee by_name narrow reached) =
      on_class named desc names (λ params given. reaches_method callee by_name off words narrow
      (gives_result by l w a bodies results false id.desc callee reached)
      (enters by l w a bodies results id.desc callee reached params given))
  called_by_mode r m cells _ (calls_import {id = id} named desc names off words event by_name narrow asked) =
      on_class named desc names (λ params given. reaches_import event by_name off words narrow
      (imported id event asked))
  called_by_mode r m cells _ (calls_on_receiver {op = op} {id = id} named desc names has_receiver on words selected
      by_name selects) =
      on_receiver named desc names has_receiver (λ types e params given. reaches_objects selected (is_one_of l types)
      by_name on words (λ kind passes made. chosen params given kind (selects types e kind passes made)))
    where
      chosen : (params : List Kind) → AreGiven l id.desc params → (kind : Shape (List ℕ))
          → IsSelectedByMode by l w a bodies results id named selected kind
          → Chooses by l (StandsByMode l (table_of l a) bodies) results a.narrowed a.may_throw id named
          (types_of id.desc) params selected kind
      chosen params given kind (selects_method callee is narrow reached of) = chooses_method callee is narrow
          (gives_result by l w a bodies results true id.desc callee reached)
          (enters_receiver by l w a bodies results id.desc callee reached kind of params given)
      chosen params given kind (selects_import event is narrow asked) = chooses_import event is narrow
          (imported id event asked)

  -- ---- entries

  kind_given : (p : Part) → has_values (sort_of p) ≡ true → IsPassedInt l p (kind_of l (sort_of p))
  kind_given p some = go (sort_of p) refl some
    where
      go : (sort : Sort) → sort_of p ≡ sort → has_values sort ≡ true → IsPassedInt l p (kind_of l sort)
      go Boolean is some = a_word (ap is_short is) (subst (λ s. Within boolean_range (type_range s)) (sym is)
          (within_refl boolean_range))
      go Byte is some = a_word (ap is_short is) (subst (λ s. Within byte_range (type_range s)) (sym is)
          (within_refl byte_range))
      go Short is some = a_word (ap is_short is) (subst (λ s. Within short_range (type_range s)) (sym is)
          (within_refl short_range))
      go Int is some = an_int is (within_refl full)
      go (Reference shape) is some = a_reference shape is (λ of e. e)
      go NoValue is some = cc

  kinds_given : (ps : List Part) → AllByRecursion (λ p. has_values (sort_of p) ≡ true) ps
      → AllZip (IsPassedInt l) ps (kinds_of l (map sort_of ps))
  kinds_given [] h = tt
  kinds_given (p ∷ ps) h = (kind_given p h.0, kinds_given ps h.1)

  -- A script enters methods of either mode alike.
  pub scripted_by_mode : (id : MemberId) → IsScriptedByMode by l w a bodies results id
      → IsScripted by l (StandsByMode l (table_of l a) bodies) results a.narrowed a.may_throw id
  scripted_by_mode id (script_finds_none none) = finds_none none
  scripted_by_mode id (script_finds h) = finds_a_method (record {
    types = types_of id.desc;
    has_types = signature_is id.desc h.desc;
    given = h.given;
    called = h.called;
    sent = h.sent;
    called_enters = λ m found. enters by l w a bodies results id.desc m (h.is_called m found)
        (kinds_of l (let types = types_of id.desc in types.params)) given;
    sent_enters = λ kind m made found. enters_receiver by l w a bodies results id.desc m (h.is_sent kind m made found)
        kind (h.receives kind m made found) (kinds_of l (let types = types_of id.desc in types.params)) given;
  })
    where
      given : AreGiven l id.desc (kinds_of l (let types = types_of id.desc in types.params))
      given = kinds_given (let d = parts id.desc in d.params) (let desc = h.desc in desc.params)
