-- Parameters go into scratch words and come back.
use Rattle.std.proofs.Common.{◌≡◌, ℕ, suc, ◌+◌, ◌*◌, ◌<◌, ◌≤◌, refl, sym, ap, subst, ◌∙◌, arith, List, [], ◌∷◌}
use Rattle.std.proofs.Common.{◌++◌, length, Bool, true, false, ℤ, append_assoc}
use Rattle.std.specs.Prelude.{Option, Some, slice_get, slice_set, nat_le, if◌then◌else◌}
use Rattle.std.proofs.lemmas.List.{length-append}
use Rattle.cjc_script.proofs.BytesGets.{get_inside, set_same, set_other, set_length}
use Rattle.cjc_range.specs.Words.{low_word}
use Rattle.cjc_range.specs.Span.{Span, Holds}
use Rattle.cjc_range.proofs.Order.{held_wider}
use Rattle.cjc_script.specs.declared.value.Value.{Value}
use Rattle.cjc_script.specs.declared.value.Value.TheVariants.{Num}
use Rattle.cjc_script.specs.Sorts.{Shape, Sort, Boolean, Byte, Short, Int, Reference, NoValue}
use Rattle.cjc_card_semantics.specs.Bytecode.Numbers.{spelt_by}
use Rattle.cjc_card_semantics.specs.Bytecode.Calculations.{Fine, is_reference}
use Rattle.cjc_card_semantics.specs.Bytecode.Calculations
use Rattle.cjc_card_semantics.specs.Bytecode.Effects as narrow
use Rattle.cjc_card_semantics.specs.Bytecode.Meanings.{meaning}
use Rattle.cjc_ncode.specs.declared.narrow.NInsn.{NInsn}
use Rattle.cjc_ncode.specs.declared.narrow.NInsn.TheVariants as insns
use Rattle.cjc_ncode.specs.declared.narrow.NMethod.{NMethod}
use Rattle.cjc_ncode.specs.ByLabel.{Named, by_label, classes}
use Rattle.cjc_ncode.specs.IntCode.IntCode.{Frame, nargs, scratch, is_short, stores, loads, narrowed, put_aside}
use Rattle.cjc_ncode.specs.IntCode.IntCode.{taken_back}
use Rattle.cjc_ncode.specs.IntCode.IntCode as written
use Rattle.cjc_int_proof.specs.Walks.{Within as Inside, walk}
use Rattle.cjc_narrow_proof.specs.Selection.Relation.{Kind, Range, Refers, Heap, NMemory}
use Rattle.cjc_narrow_proof.specs.Selection.Rows.{NEffect}
use Rattle.cjc_int_runs.specs.Calls.{onto, PassesInt, none_passed, a_word_passed, an_int_passed, a_reference_passed}
use Rattle.cjc_int_runs.specs.Relation.{IntStacks, number, reference, IntLocals, RefersTo, to_null, to_object}
use Rattle.cjc_int_runs.specs.Relation.{type_range, one_word, two_words, as_it_is, AllHanded, nothing, one_more}
use Rattle.cjc_int_runs.specs.Steps.{StandAt, NWalked, behind, spot}
use Rattle.cjc_int_runs.proofs.Stepping.{onward, push_words}
use Rattle.cjc_int_runs.proofs.Guard.{behind_both, stand_front, stand_back, and_onward}
use Rattle.cjc_int_runs.proofs.FrameWords.{set_behind, two_set}
use Rattle.cjc_int_runs.proofs.Locals.{iload_is, aload_is, istore_is, astore_is, int_read, int_written}

-- ---- lists

pub onto_both : {A : Type 0} (xs ys zs : List A) → onto (xs ++ ys) zs ≡ onto ys (onto xs zs)
onto_both [] ys zs = refl
onto_both (x ∷ xs) ys zs = onto_both xs ys (x ∷ zs)

pub onto_long : {A : Type 0} (xs ys : List A) → length (onto xs ys) ≡ length xs + length ys
onto_long [] ys = omega arith
onto_long (x ∷ xs) ys = let e = onto_long xs (x ∷ ys) in omega (arith, e)

-- ---- scratch words

-- a type of one word is no reference
pub no_reference : (sort : Sort) → is_short sort ≡ true → written.is_reference sort ≡ false
no_reference Boolean e = refl
no_reference Byte e = refl
no_reference Short e = refl
no_reference Int e = absurd cc
no_reference (Reference shape) e = absurd cc
no_reference NoValue e = absurd cc

module _ {heap : Heap} {f : Frame} {pairs : ℕ} {ls : List Kind} {locals words : List (Option Value)}
    (h : IntLocals heap f pairs ls locals words) where
  all_long : nargs f + 2 * f.max_locals + 2 * pairs ≡ length words
  all_long =
      let c = h.argument_words in let d = h.own_words in let p = h.scratch_words in
      let e : length words ≡ length (h.arguments ++ (h.own ++ h.scratch)) = ap length h.are in
      let g = length-append h.arguments (h.own ++ h.scratch) in let i = length-append h.own h.scratch in
      omega (arith, c, d, p, e, g, i)

  -- another scratch word changes nothing that agrees
  scratch_set : (at k : ℕ) (v : Option Value) → at ≡ nargs f + 2 * f.max_locals + k
      → IntLocals heap f pairs ls locals (slice_set words at v)
  scratch_set at k v is =
      let c = h.argument_words in let d = h.own_words in
      let front = h.arguments ++ h.own in
      let long = length-append h.arguments h.own in
      let there : at ≡ length front + k = omega (arith, c, d, is, long) in
      record {
        arguments = h.arguments;
        own = h.own;
        scratch = slice_set h.scratch k v;
        are = ap (λ w. slice_set w at v) (h.are ∙ sym (append_assoc h.arguments h.own h.scratch))
            ∙ ap (λ i. slice_set (front ++ h.scratch) i v) there ∙ set_behind front h.scratch k v
            ∙ append_assoc h.arguments h.own (slice_set h.scratch k v);
        argument_words = h.argument_words;
        own_words = h.own_words;
        scratch_words = set_length h.scratch k v ∙ h.scratch_words;
        agree = h.agree;
      }

-- The pairs from one on hold the cells of parameters.
pub data Aside (heap : Heap) (f : Frame) (words : List (Option Value)) : ℕ → List Kind → List Value → Type 0 where
  none_aside : {j : ℕ} → Aside heap f words j [] []
  number_aside : {j : ℕ} {s : Span} {x high low : ℤ} {ps : List Kind} {args : List Value} → x ≡ spelt_by high low
      → Holds s x → slice_get words (scratch f j) ≡ Some (Some (Num high))
      → slice_get words (scratch f j + 1) ≡ Some (Some (Num low)) → Aside heap f words (j + 1) ps args
      → Aside heap f words j (Range s ∷ ps) (Num x ∷ args)
  reference_aside : {j : ℕ} {within : Shape (List ℕ) → Bool} {v : Value} {ps : List Kind} {args : List Value}
      → RefersTo heap within v → slice_get words (scratch f j) ≡ Some (Some v) → Aside heap f words (j + 1) ps args
      → Aside heap f words j (Refers within ∷ ps) (v ∷ args)

-- where the words of these pairs are as they were
aside_same : (heap : Heap) (f : Frame) {words after : List (Option Value)} {j : ℕ} {ps : List Kind} {args : List Value}
    → ((k : ℕ) → scratch f j ≤ k → slice_get after k ≡ slice_get words k) → Aside heap f words j ps args
    → Aside heap f after j ps args
aside_same heap f same none_aside = none_aside
aside_same heap f {j = j} same (number_aside e h first second more) =
    number_aside e h (same (scratch f j) (omega arith) ∙ first) (same (scratch f j + 1) (omega arith) ∙ second)
    (aside_same heap f (λ k far. same k (omega (arith, far))) more)
aside_same heap f {j = j} same (reference_aside a first more) =
    reference_aside a (same (scratch f j) (omega arith) ∙ first)
    (aside_same heap f (λ k far. same k (omega (arith, far))) more)

-- ---- one cell goes aside

-- The top cell is stored, and the pairs behind its own stay.
record OneAside (l : Named) (f : Frame) (pairs : ℕ) (code : NMethod) (here j : ℕ) (ls : List Kind)
    (locals words : List (Option Value)) (memory : NMemory) (from below : List Value) (ks : List Kind)
    (args : List Value) : Type 0 where
  after : List (Option Value)
  leads : walk (by_label l) code 1 (spot here from words memory) ≡ Inside (spot (here + 1) below after memory)
  agree : IntLocals memory.heap f pairs ls locals after
  aside : Aside memory.heap f after j ks args

module _ (l : Named) (f : Frame) (pairs : ℕ) (code : NMethod) (here j : ℕ) (ls : List Kind)
    (locals words : List (Option Value)) (memory : NMemory) (h : IntLocals memory.heap f pairs ls locals words)
    (few : j < pairs) (ps : List Kind) (args : List Value) (more : Aside memory.heap f words (j + 1) ps args) where
  number_put : (s : Span) (x high low : ℤ) (ws : List Value) → x ≡ spelt_by high low → Holds s x
      → StandAt code here (stores false (scratch f j))
      → OneAside l f pairs code here j ls locals words memory (Num low ∷ Num high ∷ ws) ws (Range s ∷ ps)
      (Num x ∷ args)
  number_put s x high low ws e inside stand =
      let k = scratch f j in let long = all_long h in
      let one = slice_set words k (Some (Num high)) in
      let one_long = set_length words k (Some (Num high)) in
      let first = get_inside words k (omega (arith, long, few)) in
      let second = get_inside one (k + 1) (omega (arith, long, few, one_long)) in
      let after = two_set k high low words in
      record {
        after = after;
        leads = onward l code 0 here (here + 1) (if nat_le k 3 then insns.Op (0x33 + k) else insns.Local 0x2A k)
            (Num low ∷ Num high ∷ ws) ws words after memory memory _ stand.0
            (ap (λ o. narrow.effect (classes l) o code.max_stack (here + 1) words memory (Num low ∷ Num high ∷ ws))
            (istore_is k)
            ∙ ap (λ q. let e : NEffect = narrow.effect_of_result q (here + 1) memory in e)
            (int_written k words ws high low (omega (arith, long, few)) code.max_stack)) refl;
        agree = scratch_set (scratch_set h k (2 * j) (Some (Num high)) refl) (k + 1) (2 * j + 1) (Some (Num low))
            (omega arith);
        aside = number_aside e inside
            (set_other one (k + 1) k (Some (Num low)) (λ e. omega (arith, e))
            ∙ set_same words k (Some (Num high)) first.0 first.1)
            (set_same one (k + 1) (Some (Num low)) second.0 second.1)
            (aside_same memory.heap f (λ i far. set_other one (k + 1) i (Some (Num low)) (λ e. omega (arith, e, far))
            ∙ set_other words k i (Some (Num high)) (λ e. omega (arith, e, far))) more);
      }

  reference_put : (within : Shape (List ℕ) → Bool) (v : Value) (ws : List Value) → RefersTo memory.heap within v
      → is_reference v ≡ true → StandAt code here (stores true (scratch f j))
      → OneAside l f pairs code here j ls locals words memory (v ∷ ws) ws (Refers within ∷ ps) (v ∷ args)
  reference_put within v ws refers kind stand =
      let k = scratch f j in let long = all_long h in
      let old = get_inside words k (omega (arith, long, few)) in
      record {
        after = slice_set words k (Some v);
        leads = onward l code 0 here (here + 1) (if nat_le k 3 then insns.Op (0x2B + k) else insns.Local 0x28 k) (v
            ∷ ws) ws words (slice_set words k (Some v)) memory memory _ stand.0
            (ap (λ o. narrow.effect (classes l) o code.max_stack (here + 1) words memory (v ∷ ws)) (astore_is k)
            ∙ ap (λ t. let e : NEffect = narrow.effect_of_result (Calculations.if_so t (Calculations.there
            (slice_get words k) (Fine ws (slice_set words k (Some v))))) (here + 1) memory in e) kind
            ∙ ap (λ o. let e : NEffect = narrow.effect_of_result (Calculations.there o
            (Fine ws (slice_set words k (Some v)))) (here + 1) memory in e) old.1) refl;
        agree = scratch_set h k (2 * j) (Some v) refl;
        aside = reference_aside refers (set_same words k (Some v) old.0 old.1)
            (aside_same memory.heap f (λ i far. set_other words k i (Some v) (λ e. omega (arith, e, far))) more);
      }

-- a reference is null or an object
pub is_held : {heap : Heap} {within : Shape (List ℕ) → Bool} {v : Value} → RefersTo heap within v
    → is_reference v ≡ true
is_held to_null = refl
is_held (to_object thing is e) = refl

-- ---- all go aside

-- The cells of parameters are stored, the last first.
pub record PutAside (l : Named) (f : Frame) (pairs : ℕ) (ls : List Kind) (code : NMethod) (here j : ℕ)
    (list : List NInsn) (ps ks : List Kind) (vs ws : List Value) (locals words : List (Option Value))
    (memory : NMemory) : Type 0 where
  pub args : List Value
  pub under : List Value
  pub below : List Value
  pub nlocals : List (Option Value)
  pub steps : ℕ
  pub few : steps ≤ length list
  pub by_name : vs ≡ onto args under
  pub leads : walk (by_label l) code steps (spot here ws words memory)
      ≡ Inside (spot (behind here list) below nlocals memory)
  pub rest : IntStacks memory.heap ks under below
  pub aside : Aside memory.heap f nlocals j ps args
  pub locals_agree : IntLocals memory.heap f pairs ls locals nlocals

module _ (l : Named) (f : Frame) (pairs : ℕ) (ls : List Kind) (code : NMethod) (here : ℕ) (vs ws : List Value)
    (locals words : List (Option Value)) (memory : NMemory) where
  -- one more, the cell of which is below those that went
  module _ (j : ℕ) (few : j < pairs) (front : List NInsn) (ps ks : List Kind) (args : List Value)
      (nlocals : List (Option Value)) (steps : ℕ) (some : steps ≤ length front)
      (aside : Aside memory.heap f nlocals (j + 1) ps args) (h : IntLocals memory.heap f pairs ls locals nlocals) where
    number_further : (s : Span) (under below : List Value) → IntStacks memory.heap (Range s ∷ ks) under below
        → vs ≡ onto args under → walk (by_label l) code steps (spot here ws words memory)
        ≡ Inside (spot (behind here front) below nlocals memory)
        → StandAt code (behind here front) (stores false (scratch f j))
        → PutAside l f pairs ls code here j (front ++ stores false (scratch f j)) (Range s ∷ ps) ks vs ws locals words
        memory
    number_further s _ _ (number {x = x} {high = high} {low = low} {vs = under} {ws = below} e inside rest) is leads
        stand =
        let one = number_put l f pairs code (behind here front) j ls locals nlocals memory h few ps args aside s x high
        low
        below e inside stand in
        let last = stores false (scratch f j) in
        let long = length-append front last in
        record {
          args = Num x ∷ args;
          under = under;
          below = below;
          nlocals = one.after;
          steps = steps + 1;
          few = omega (arith, some, long);
          by_name = is;
          leads = and_onward l code steps 1 (spot here ws words memory) (spot (behind here front) (Num low ∷ Num high
              ∷ below) nlocals memory) _ leads (one.leads ∙ ap (λ q. Inside (spot q below one.after memory))
              (sym (behind_both here front last)));
          rest = rest;
          aside = one.aside;
          locals_agree = one.agree;
        }

    reference_further : (within : Shape (List ℕ) → Bool) (under below : List Value)
        → IntStacks memory.heap (Refers within ∷ ks) under below
        → vs ≡ onto args under → walk (by_label l) code steps (spot here ws words memory)
        ≡ Inside (spot (behind here front) below nlocals memory)
        → StandAt code (behind here front) (stores true (scratch f j))
        → PutAside l f pairs ls code here j (front ++ stores true (scratch f j)) (Refers within ∷ ps) ks vs ws locals
        words memory
    reference_further within _ _ (reference {v = v} {vs = under} {ws = below} a rest) is leads stand =
        let one = reference_put l f pairs code (behind here front) j ls locals nlocals memory h few ps args aside within
        v
        below a (is_held a) stand in
        let last = stores true (scratch f j) in
        let long = length-append front last in
        record {
          args = v ∷ args;
          under = under;
          below = below;
          nlocals = one.after;
          steps = steps + 1;
          few = omega (arith, some, long);
          by_name = is;
          leads = and_onward l code steps 1 (spot here ws words memory) (spot (behind here front) (v ∷ below) nlocals
              memory) _ leads (one.leads ∙ ap (λ q. Inside (spot q below one.after memory))
              (sym (behind_both here front last)));
          rest = rest;
          aside = one.aside;
          locals_agree = one.agree;
        }

  pub all_put : (j : ℕ) (sorts : List Sort) (ps ks : List Kind) → PassesInt sorts ps → j + length sorts ≤ pairs
      → StandAt code here (put_aside f j sorts) → IntLocals memory.heap f pairs ls locals words
      → IntStacks memory.heap (onto ps ks) vs ws
      → PutAside l f pairs ls code here j (put_aside f j sorts) ps ks vs ws locals words memory
  all_put j _ _ ks none_passed few stand h stacks = record {
    args = [];
    under = vs;
    below = ws;
    nlocals = words;
    steps = 0;
    few = omega arith;
    by_name = refl;
    leads = refl;
    rest = stacks;
    aside = none_aside;
    locals_agree = h;
  }
  all_put j _ _ ks (a_word_passed {sort = sort} {s = s} {sorts = sorts} {ks = ps} short small more) few stand h stacks =
      let front = put_aside f (j + 1) sorts in
      let last = stores (written.is_reference sort) (scratch f j) in
      let p = all_put (j + 1) sorts ps (Range s ∷ ks) more (omega (arith, few)) (stand_front code here front last stand)
      h
      stacks in
      let flag = no_reference sort short in
      subst (λ b. PutAside l f pairs ls code here j (front ++ stores b (scratch f j)) (Range s ∷ ps) ks vs ws locals
      words memory) (sym flag)
      (number_further j (omega (arith, few)) front ps ks p.args p.nlocals p.steps p.few p.aside p.locals_agree s p.under
      p.below p.rest p.by_name p.leads (subst (λ b. StandAt code (behind here front) (stores b (scratch f j))) flag
      (stand_back code here front last stand)))
  all_put j _ _ ks (an_int_passed {s = s} {sorts = sorts} {ks = ps} more) few stand h stacks =
      let front = put_aside f (j + 1) sorts in
      let last = stores false (scratch f j) in
      let p = all_put (j + 1) sorts ps (Range s ∷ ks) more (omega (arith, few)) (stand_front code here front last stand)
      h
      stacks in
      number_further j (omega (arith, few)) front ps ks p.args p.nlocals p.steps p.few p.aside p.locals_agree s p.under
      p.below p.rest p.by_name p.leads (stand_back code here front last stand)
  all_put j _ _ ks (a_reference_passed {within = within} {sorts = sorts} {ks = ps} more) few stand h stacks =
      let front = put_aside f (j + 1) sorts in
      let last = stores true (scratch f j) in
      let p = all_put (j + 1) sorts ps (Refers within ∷ ks) more (omega (arith, few)) (stand_front code here front last
      stand) h stacks in
      reference_further j (omega (arith, few)) front ps ks p.args p.nlocals p.steps p.few p.aside p.locals_agree within
      p.under p.below p.rest p.by_name p.leads (stand_back code here front last stand)

-- ---- and all come back

-- The cells of parameters are pushed in order, cut where they have one word.
pub record TakenBack (l : Named) (code : NMethod) (here : ℕ) (list : List NInsn) (sorts : List Sort) (ps : List Kind)
    (args below : List Value) (words : List (Option Value)) (memory : NMemory) : Type 0 where
  pub handed : List Value
  pub steps : ℕ
  pub few : steps ≤ length list
  pub leads : walk (by_label l) code steps (spot here below words memory)
      ≡ Inside (spot (behind here list) (onto handed below) words memory)
  pub agree : AllHanded memory.heap sorts ps args handed

module _ (l : Named) (f : Frame) (code : NMethod) (words : List (Option Value)) (memory : NMemory) where
  -- iload of a pair
  int_back : (n here j : ℕ) (high low : ℤ) (below : List Value) (w : NWalked)
      → slice_get words (scratch f j) ≡ Some (Some (Num high))
      → slice_get words (scratch f j + 1) ≡ Some (Some (Num low)) → length below + 2 ≤ code.max_stack
      → StandAt code here (loads false (scratch f j))
      → walk (by_label l) code n (spot (here + 1) (Num low ∷ Num high ∷ below) words memory) ≡ w
      → walk (by_label l) code (suc n) (spot here below words memory) ≡ w
  int_back n here j high low below w first second room stand rest =
      let k = scratch f j in
      onward l code n here (here + 1) (if nat_le k 3 then insns.Op (0x20 + k) else insns.Local 0x17 k) below (Num low
      ∷ Num high ∷ below) words words memory memory w stand.0
      (ap (λ o. narrow.effect (classes l) o code.max_stack (here + 1) words memory below) (iload_is k)
      ∙ ap (λ q. let e : NEffect = narrow.effect_of_result q (here + 1) memory in e)
      (int_read k code.max_stack words below high low first second)
      ∙ push_words (Num low ∷ Num high ∷ []) code.max_stack (here + 1) below words memory (omega (arith, room))) rest

  narrowed_word : (type : Sort) → is_short type ≡ true → narrowed type ≡ insns.Op 0x5E ∷ []
  narrowed_word type e = ap (λ b. if b then insns.Op 0x5E ∷ [] else []) e

  pub all_back : (here j : ℕ) (sorts : List Sort) (ps : List Kind) (args below : List Value) → PassesInt sorts ps
      → Aside memory.heap f words j ps args → length below + 2 * length sorts ≤ code.max_stack
      → StandAt code here (taken_back f j sorts)
      → TakenBack l code here (taken_back f j sorts) sorts ps args below words memory
  unfolding meaning
  all_back here j _ _ _ below none_passed none_aside room stand = record {
    handed = [];
    steps = 0;
    few = omega arith;
    leads = refl;
    agree = nothing;
  }
  all_back here j _ _ _ below (a_word_passed {sort = sort} {sorts = sorts} {ks = ps} short small more)
      (number_aside {s = s} {x = x} {high = high} {low = low} {args = args} e inside first second held) room stand =
      let y = low_word (spelt_by high low) in
      let k = scratch f j in
      let last = taken_back f (j + 1) sorts in
      let load = if nat_le k 3 then insns.Op (0x20 + k) else insns.Local 0x17 k in
      let same : taken_back f j (sort ∷ sorts) ≡ load ∷ insns.Op 0x5E ∷ last =
      ap (λ b. (loads b k ++ narrowed sort) ++ last) (no_reference sort short)
      ∙ ap (λ cut. (loads false k ++ cut) ++ last) (narrowed_word sort short) in
      let stand' = subst (StandAt code here) same stand in
      let p = all_back (here + 1 + 1) (j + 1) sorts ps args (Num y ∷ below) more held (omega (arith, room))
      stand'.1.1 in
      let few = p.few in
      subst (λ list. TakenBack l code here list (sort ∷ sorts) (Range s ∷ ps) (Num x ∷ args) below words memory)
      (sym same)
      (record {
        handed = Num y ∷ p.handed;
        steps = suc (suc p.steps);
        few = omega (arith, few);
        leads = int_back (suc p.steps) here j high low below _ first second (omega (arith, room)) (stand'.0, tt)
            (onward l code p.steps (here + 1) (here + 1 + 1) (insns.Op 0x5E) (Num low ∷ Num high ∷ below) (Num y
            ∷ below)
            words words memory memory _ stand'.1.0 refl p.leads);
        agree = subst (λ z. AllHanded memory.heap (sort ∷ sorts) (Range s ∷ ps) (Num x ∷ args) (Num (low_word z)
            ∷ p.handed)) e (one_more (one_word short (held_wider s (type_range sort) x small inside) inside) p.agree);
      })
  all_back here j _ _ _ below (an_int_passed {sorts = sorts} {ks = ps} more)
      (number_aside {s = s} {x = x} {high = high} {low = low} {args = args} e inside first second held) room stand =
      let p = all_back (here + 1) (j + 1) sorts ps args (Num low ∷ Num high ∷ below) more held (omega (arith, room))
      stand.1 in
      let few = p.few in
      record {
        handed = Num high ∷ Num low ∷ p.handed;
        steps = suc p.steps;
        few = omega (arith, few);
        leads = int_back p.steps here j high low below _ first second (omega (arith, room)) (stand.0, tt) p.leads;
        agree = one_more (two_words e inside) p.agree;
      }
  all_back here j _ _ _ below (a_reference_passed {sorts = sorts} {ks = ps} more)
      (reference_aside {within = within} {v = v} {args = args} refers first held) room stand =
      let k = scratch f j in
      let p = all_back (here + 1) (j + 1) sorts ps args (v ∷ below) more held (omega (arith, room)) stand.1 in
      let few = p.few in
      record {
        handed = v ∷ p.handed;
        steps = suc p.steps;
        few = omega (arith, few);
        leads = onward l code p.steps here (here + 1) (if nat_le k 3 then insns.Op (0x18 + k) else insns.Local 0x15 k)
            below (v ∷ below) words words memory memory _ stand.0
            (ap (λ o. narrow.effect (classes l) o code.max_stack (here + 1) words memory below) (aload_is k)
            ∙ ap (λ o. let e : NEffect = narrow.effect_of_result (Calculations.set_local o (λ v. Calculations.if_so
            (is_reference v) (Calculations.pushed (v ∷ []) code.max_stack words below))) (here + 1) memory in e) first
            ∙ ap (λ t. let e : NEffect = narrow.effect_of_result (Calculations.if_so t (Calculations.pushed (v ∷ [])
            code.max_stack words below)) (here + 1) memory in e) (is_held refers)
            ∙ push_words (v ∷ []) code.max_stack (here + 1) below words memory (omega (arith, room))) p.leads;
        agree = one_more (as_it_is refers) p.agree;
      }
