-- What the instructions take and give that are written in int mode for a call: its arguments are handed over, the entry
-- of the method is called, and a result of one word is widened.
use Rattle.std.proofs.Common.{◌≡◌, ℕ, ◌+◌, refl, sym, ap, ◌∙◌, arith, Bool, true, false, List, [], ◌∷◌, ◌++◌}
use Rattle.std.proofs.Common.{append_assoc, length, Option, Some, None}
use Rattle.std.specs.Prelude.{◌==◌, not, if◌then◌else◌}
use Rattle.std.specs.List.{list_any}
use Rattle.std.proofs.lemmas.Bool.Decides.{nat_tests}
use Rattle.cjc_types.specs.Bytecode.declared.insn.JOp.TheVariants as jop
use Rattle.cjc_types.specs.Bytes.declared.fault.MemberId.{MemberId}
use Rattle.cjc_check_proof.specs.NCode.Lowering.Naming.{Naming}
use Rattle.cjc_check_proof.specs.NCode.Written.{Resolution, call_by, nargs_of}
use Rattle.cjc_check_proof.specs.NCode.declared.narrow.NInsn.{NInsn}
use Rattle.cjc_check_proof.specs.NCode.declared.narrow.NInsn.TheVariants.{Op}
use Rattle.cjc_ncode.specs.IntCode.IntCode.{Before, Frame, called_with, handed_over, is_by_scratch, is_reference}
use Rattle.cjc_ncode.specs.IntCode.IntCode.{is_short, loads, narrowed, put_aside, scratch, stores, taken_back}
use Rattle.cjc_ncode.specs.IntCode.IntCode.{widened_result, written}
use Rattle.cjc_frames.specs.declared.acts.Act.{Act}
use Rattle.cjc_frames.specs.declared.acts.Need.{Need}
use Rattle.cjc_verify.specs.CardActs.CardTypes.{MemberType, ValueType, needs_of_all, widths, words as words_given}
use Rattle.cjc_verify.specs.CardActs.CardTypes as types
use Rattle.cjc_verify.specs.CardActs.Rows.{calculating, idle, loading, row, storing}
use Rattle.cjc_verify.specs.CardSemantics.Bytecode.Meanings.{Calls, Special, Static, Virtual}
use Rattle.cjc_verify.specs.ClassTypes.{class_type}
use Rattle.cjc_verify.specs.Instructions.{calling_interface, calling_on, calling_through, class_in, using_some}
use Rattle.cjc_verify.specs.Named.{entry_type, holder_of}
use Rattle.cjc_verify.specs.Pairs.{Pair}
use Rattle.cjc_verify.specs.Script.Sorts.{Signature, Sort, signature_of}
use Rattle.cjc_verify.specs.Script.Sorts as sorts
use Rattle.cjc_accepted_proof.specs.Plain.{act_laid}
use Rattle.cjc_accepted_proof.proofs.InstructionsLaws.Named as named
use Rattle.cjc_int_accepted.specs.Acts.{cutting, letter_of_local, letter_of_value, putting_aside, taking, taking_back}
use Rattle.cjc_int_accepted.specs.Acts.{widening}
use Rattle.cjc_int_accepted.specs.Laid.{acts_laid}
use Rattle.cjc_int_accepted.specs.Named.{AreSortsOf, CallNamed, IsResultOf, IsSortOf, handing}
use Rattle.cjc_int_accepted.specs.Named as names
use Rattle.cjc_int_accepted.proofs.ActsLaws.{load_act, store_act}
use Rattle.cjc_int_accepted.proofs.WrittenLaws.{acted_both}

-- the letter by which a parameter is moved
letter_same : (s : Sort) (t : ValueType) → IsSortOf s t → letter_of_local (is_reference s) ≡ letter_of_value t
letter_same sorts.Boolean types.Boolean e = refl
letter_same sorts.Byte types.Byte e = refl
letter_same sorts.Short types.Short e = refl
letter_same sorts.Int types.Int e = refl
letter_same (sorts.Reference shape) (types.Reference type) e = refl
letter_same s t e = absurd e

like_itself : (k : ℕ) → (k == k) ≡ true
like_itself k = grind (arith, nat_tests)

module _ (p : Pair) (result : ValueType) (n : Naming) (to : ℕ → ℕ) (wide : ℕ → Bool) where
  -- the acts of a list where it is laid
  abbrev acted : (here : ℕ) → List NInsn → List Act
  acted here insns = acts_laid p result n to wide here insns

  -- the act of one instruction
  abbrev one : (here : ℕ) → NInsn → Act
  one here insn = act_laid p result n to (to here) (wide here) insn

  loads_acts : (refs : Bool) (l at : ℕ) → acted at (loads refs l) ≡ loading (letter_of_local refs) l ∷ []
  loads_acts true l at = ap (λ y. y ∷ []) (load_act p result n to (to at) (wide at) true l)
  loads_acts false l at = ap (λ y. y ∷ []) (load_act p result n to (to at) (wide at) false l)

  stores_acts : (refs : Bool) (l at : ℕ) → acted at (stores refs l) ≡ storing (letter_of_local refs) l ∷ []
  stores_acts true l at = ap (λ y. y ∷ []) (store_act p result n to (to at) (wide at) true l)
  stores_acts false l at = ap (λ y. y ∷ []) (store_act p result n to (to at) (wide at) false l)

  cut_acts : (s : Sort) (t : ValueType) → IsSortOf s t → (at : ℕ) → acted at (narrowed s) ≡ cutting t
  unfolding row
  cut_acts sorts.Boolean types.Boolean e at = refl
  cut_acts sorts.Byte types.Byte e at = refl
  cut_acts sorts.Short types.Short e at = refl
  cut_acts sorts.Int types.Int e at = refl
  cut_acts (sorts.Reference shape) (types.Reference type) e at = refl
  cut_acts s t e at = absurd e

  widened_acts : (o : Option Sort) (t : ValueType) → IsResultOf o t → (at : ℕ) → acted at (widened_result o) ≡ widening
      t
  unfolding row
  widened_acts None types.Void e at = refl
  widened_acts (Some sorts.Boolean) types.Boolean e at = refl
  widened_acts (Some sorts.Byte) types.Byte e at = refl
  widened_acts (Some sorts.Short) types.Short e at = refl
  widened_acts (Some sorts.Int) types.Int e at = refl
  widened_acts (Some (sorts.Reference shape)) (types.Reference type) e at = refl
  widened_acts o t e at = absurd e

  cut_act : (at : ℕ) → one at (Op 0x5E) ≡ calculating 2 1
  unfolding row
  cut_act at = refl

  -- two lists in turn
  in_turn : (at : ℕ) (xs ys : List NInsn) (acts more : List Act) → acted at xs ≡ acts → acted (at + length xs) ys ≡ more
      → acted at (xs ++ ys) ≡ acts ++ more
  in_turn at xs ys acts more e g =
      acted_both p result n to wide at xs ys ∙ ap (λ zs. zs ++ acted (at + length xs) ys) e ∙ ap (λ zs. acts ++ zs) g

  module _ (f : Frame) where
    aside_acts : (j word : ℕ) → word ≡ scratch f j → (ss : List Sort) (ts : List ValueType) → AreSortsOf ss ts
        → (at : ℕ) → acted at (put_aside f j ss) ≡ putting_aside word ts
    aside_acts j word is [] [] e at = refl
    aside_acts j word is (s ∷ ss) (t ∷ ts) e at =
        let next : word + 2 ≡ scratch f (j + 1) = omega (arith, is) in
        let behind = at + length (put_aside f (j + 1) ss) in
        in_turn at (put_aside f (j + 1) ss) (stores (is_reference s) (scratch f j)) (putting_aside (word + 2) ts)
        (storing (letter_of_value t) word ∷ []) (aside_acts (j + 1) (word + 2) next ss ts e.1 at)
        (stores_acts (is_reference s) (scratch f j) behind ∙ ap (λ l. storing l (scratch f j) ∷ []) (letter_same s t
        e.0) ∙ ap (λ k. storing (letter_of_value t) k ∷ []) (sym is))
    aside_acts j word is ss ts e at = absurd e

    back_acts : (j word : ℕ) → word ≡ scratch f j → (ss : List Sort) (ts : List ValueType) → AreSortsOf ss ts
        → (at : ℕ) → acted at (taken_back f j ss) ≡ taking_back word ts
    back_acts j word is [] [] e at = refl
    back_acts j word is (s ∷ ss) (t ∷ ts) e at =
        let next : word + 2 ≡ scratch f (j + 1) = omega (arith, is) in
        let load = loads (is_reference s) (scratch f j) in
        let first = at + length load in
        let second = at + length (load ++ narrowed s) in
        in_turn at (load ++ narrowed s) (taken_back f (j + 1) ss) (loading (letter_of_value t) word ∷ cutting t)
        (taking_back (word + 2) ts) (in_turn at load (narrowed s) (loading (letter_of_value t) word ∷ []) (cutting t)
        (loads_acts (is_reference s) (scratch f j) at ∙ ap (λ l. loading l (scratch f j) ∷ []) (letter_same s t e.0)
        ∙ ap (λ k. loading (letter_of_value t) k ∷ []) (sym is)) (cut_acts s t e.0 first)) (back_acts (j + 1)
        (word + 2) next ss ts e.1 second)
    back_acts j word is ss ts e at = absurd e

    pub handing_acts : (ss : List Sort) (ts : List ValueType) → AreSortsOf ss ts → (at : ℕ) → acted at (handed_over f
        ss) ≡ handing f ss ts
    handing_acts ss ts e at = go (is_by_scratch ss) (list_any is_short ss)
      where
        go : (x y : Bool) → acted at (if x then put_aside f 0 ss ++ taken_back f 0 ss else (if y then Op 0x5E ∷ []
            else [])) ≡ (if x then putting_aside (scratch f 0) ts ++ taking_back (scratch f 0) ts else (if y
            then calculating 2 1 ∷ [] else []))
        go true y = in_turn at (put_aside f 0 ss) (taken_back f 0 ss) (putting_aside (scratch f 0) ts) (taking_back
            (scratch f 0) ts) (aside_acts 0 (scratch f 0) refl ss ts e at) (back_acts 0 (scratch f 0) refl ss ts e (at
            + length (put_aside f 0 ss)))
        go false true = ap (λ y. y ∷ []) (cut_act at)
        go false false = refl

  module _ (r : Resolution) where
    called : (op : ℕ) (m : MemberId) (t : MemberType) (receiver : List Need) → CallNamed p n r op m t receiver
        → (at : ℕ) → acted at (call_by r op m) ≡ taking (needs_of_all t.params ++ receiver) (words_given t.result) true
        [] ∷ []
    called _ m _ _ (names.sent class token entry) at =
        let key = r.virtual m in
        ap (λ a. a ∷ []) (named.virtual_act p result n to (to at) (wide at) key ∙ ap (using_some p (Calls Virtual)
        (entry_type p (n.index key))) entry)
    called _ m _ _ (names.above class token entry bare) at =
        let key = r.special m in
        let t = entry_type p (n.index key) in
        ap (λ a. a ∷ []) (named.special_act p result n to (to at) (wide at) key ∙ ap (using_some p (Calls Special) t)
        entry ∙ ap (calling_on t (class_type class)) bare)
    called _ m _ _ (names.fixed method entry right) at =
        let key = r.special m in
        let t = entry_type p (n.index key) in
        ap (λ a. a ∷ []) (named.special_act p result n to (to at) (wide at) key ∙ ap (using_some p (Calls Special) t)
        entry ∙ ap (calling_on t (holder_of p method)) right)
    called _ m _ _ (names.static method entry right) at =
        let key = r.static m in
        let t = entry_type p (n.index key) in
        ap (λ a. a ∷ []) (named.static_act p result n to (to at) (wide at) key ∙ ap (using_some p (Calls Static) t)
        entry ∙ ap (λ (c : Bool). record idle {
          takes = needs_of_all t.params ++ [];
          gives = words_given t.result;
          misnames = c;
        }) right)
    called _ m t _ (names.by_interface class t0 entry typed many) at =
        let i = r.interface m in
        let alike : (nargs_of m == 1 + widths t0.params) ≡ true = ap (λ k. k == 1 + widths t0.params) many ∙ like_itself
        (1 + widths t0.params) in
        ap (λ a. a ∷ []) (named.interface_act p result n to (to at) (wide at) (nargs_of m) i ∙ ap (λ o. calling_through
        p (nargs_of m) (n.interface_token i) (class_in o)) entry ∙ ap (calling_interface (class_type class) (nargs_of
        m)) typed ∙ ap (λ (c : Bool). calling_on t0 (class_type class) (not c)) alike)

  module _ (f : Frame) (r : Resolution) (place : ℕ → ℕ) (b : Before) (here : ℕ) where
    pub call_acts : (op : ℕ) (m : MemberId) (s : Signature) (t : MemberType) (receiver : List Need) → signature_of
        m.desc ≡ Some s → AreSortsOf s.params t.params → IsResultOf s.result t.result → CallNamed p n r op m t receiver
        → acted here (written f r place b here (jop.Call op m)) ≡ handing f s.params t.params ++ (taking (needs_of_all
        t.params ++ receiver) (words_given t.result) true [] ∷ widening t.result)
    call_acts op m s t receiver is params res names_it =
        let first = here + length (handed_over f s.params) in
        let second = here + length (handed_over f s.params ++ call_by r op m) in
        let act = taking (needs_of_all t.params ++ receiver) (words_given t.result) true [] in
        let handed = handing f s.params t.params in
        ap (λ o. acted here (called_with f r op m o)) is
        ∙ in_turn here (handed_over f s.params ++ call_by r op m) (widened_result s.result) (handed ++ act ∷ [])
        (widening t.result) (in_turn here (handed_over f s.params) (call_by r op m) handed (act ∷ []) (handing_acts f
        s.params t.params params here) (called r op m t receiver names_it first)) (widened_acts s.result t.result res
        second) ∙ append_assoc handed (act ∷ []) (widening t.result)
