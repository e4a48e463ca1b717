-- What stands before the first instruction of a method in int mode, where it is laid: it brings each argument to its
-- local, jumps nowhere, and no handler covers it.
use Rattle.std.proofs.Common.{◌≡◌, ◌⊎◌, ℕ, suc, ◌+◌, ◌<◌, ◌≤◌, refl, sym, ap, subst, ◌∙◌, arith, Bool}
use Rattle.std.proofs.Common.{true, false, inl, inr, List, [], ◌∷◌, ◌++◌, flat_map, length, map, Option}
use Rattle.std.proofs.Common.{Contains}
use Rattle.std.specs.Prelude.{nat_le, nat_lt, if◌then◌else◌}
use Rattle.std.specs.List.{AllZip}
use Rattle.std.proofs.lemmas.Bool.Decides.{nat_tests}
use Rattle.cjc_types.proofs.BytesBools.{and_true}
use Rattle.cjc_types.specs.Bytes.AccessFlags.{is_static}
use Rattle.cjc_types.specs.Bytes.Descriptor.{Part}
use Rattle.cjc_types.specs.Bytes.declared.descriptor.Kind.{Kind}
use Rattle.cjc_types.specs.Bytes.declared.descriptor.Kind.TheVariants as kinds
use Rattle.cjc_types.specs.Cells.{IsCellBelow}
use Rattle.cjc_types.specs.Fixpoint.Working.Edges.{contains_cons}
use Rattle.cjc_types.specs.Flow.{Body as BodyByName, arguments as arguments_by_name}
use Rattle.cjc_types.specs.Types.{is_void, parts, value_of}
use Rattle.cjc_types.specs.declared.cell.Cell.{Cell}
use Rattle.cjc_types.specs.declared.cell.Cell.TheVariants.{Refs}
use Rattle.cjc_types.specs.declared.state.State.{State}
use Rattle.cjc_ncode.specs.IntCode.IntCode.{Frame, first_word, moved_from, nargs, prologue}
use Rattle.cjc_check_proof.specs.NCode.Lowering.Naming.{Naming}
use Rattle.cjc_check_proof.specs.NCode.declared.narrow.NInsn.{NInsn}
use Rattle.cjc_check_proof.specs.NCode.declared.narrow.NInsn.TheVariants.{Local, Op}
use Rattle.cjc_frames.specs.Acts.{Subtype}
use Rattle.cjc_frames.specs.Flow.{Body, covers}
use Rattle.cjc_frames.specs.declared.acts.Act.{Act}
use Rattle.cjc_frames.specs.declared.acts.Catch.{Catch}
use Rattle.cjc_frames.specs.declared.acts.Given.TheVariants.{AnObject}
use Rattle.cjc_frames.specs.declared.acts.Step.{Step}
use Rattle.cjc_ncode.specs.LowerCardSemantics.Bytecode.Arguments.{widths}
use Rattle.cjc_verify.specs.CardActs.CardTypes.{ValueType, width, words}
use Rattle.cjc_verify.specs.CardActs.CardTypes as types
use Rattle.cjc_verify.specs.CardActs.Rows.{calculating, loading, row, storing}
use Rattle.cjc_verify.specs.CardSemantics.Bytecode.Effects as letters
use Rattle.cjc_verify.specs.Pairs.{Pair}
use Rattle.cjc_verify.specs.Script.Sorts.{Boolean, Byte, Int, OfClass, Reference, Shape, Short, Sort}
use Rattle.cjc_verify.specs.Script.Sorts.{reference_to, sort_of}
use Rattle.cjc_accepted_proof.specs.Coded.{step_laid}
use Rattle.cjc_accepted_proof.specs.Methods.{steps_from}
use Rattle.cjc_accepted_proof.specs.Plain.{act_laid}
use Rattle.cjc_accepted_proof.proofs.InstructionsLaws.Acts.{load_act as short_load}
use Rattle.cjc_accepted_proof.proofs.TypesLaws.{own_below}
use Rattle.cjc_int_accepted.specs.Acts.{moving, moving_all}
use Rattle.cjc_int_accepted.specs.Arguments.{arguments_of, local_of, locals_of}
use Rattle.cjc_int_accepted.specs.Entered.{AreShapes, AreSortsFor, AreTypedAs, BeginBehind, IsEntered, IsSortFor}
use Rattle.cjc_int_accepted.specs.Frames.{Room, local_words, words_of_local}
use Rattle.cjc_int_accepted.specs.Methods.{Begins, Selection, acts_of}
use Rattle.cjc_int_accepted.specs.Types.{AreValues, IsTypedAs}
use Rattle.cjc_int_accepted.proofs.ActsLaws.{load_act, store_act}
use Rattle.cjc_int_accepted.proofs.EntryLaws.{entry_arrives, entry_unbroken}

-- ---- acts that jump nowhere

abbrev StayAll : List Act → Type 0
StayAll [] = Unit {0}
StayAll (a ∷ acts) = (a.targets ≡ []) × StayAll acts

moving_stays : (t : ValueType) (word first : ℕ) (acts : List Act) → StayAll acts → StayAll (moving t word first
    ++ acts)
moving_stays types.Void word first acts rest = rest
moving_stays types.Boolean word first acts rest = (refl, (refl, (refl, rest)))
moving_stays types.Byte word first acts rest = (refl, (refl, (refl, rest)))
moving_stays types.Short word first acts rest = (refl, (refl, (refl, rest)))
moving_stays types.Int word first acts rest = (refl, (refl, rest))
moving_stays (types.Reference type) word first acts rest = (refl, (refl, rest))

all_stay : (word first : ℕ) (ts : List ValueType) → StayAll (moving_all word first ts)
all_stay word first [] = tt
all_stay word first (t ∷ ts) = moving_stays t word first (moving_all (word + width t) (first + 2) ts) (all_stay (word
    + width t) (first + 2) ts)

step_stays : (steps : List Step) → StayAll (acts_of steps) → (s : Step) → Contains steps s
    → (let a = s.act in a.targets) ≡ []
step_stays [] stay s (k, lt, e) = absurd (omega (arith, lt))
step_stays (u ∷ steps) stay s on = by (contains_cons u steps s on) (step_stays steps stay.1 s)
  where
    by : ((u ≡ s) ⊎ Contains steps s) → (Contains steps s → (let a = s.act in a.targets) ≡ [])
        → (let a = s.act in a.targets) ≡ []
    by (inl same) more = ap (λ (z : Step). let a = z.act in a.targets) (sym same) ∙ stay.0
    by (inr later) more = more later

none_in : (offsets : List ℕ) → offsets ≡ [] → (o : ℕ) → Contains offsets o → ⊥
none_in [] e o (k, lt, f) = omega (arith, lt)
none_in (x ∷ xs) e o on = absurd cc

-- ---- types

values_are : (sorts : List Sort) (ts : List ValueType) → AreSortsFor sorts ts → AreValues ts
values_are [] [] h = tt
values_are [] (t ∷ ts) h = absurd h
values_are (s ∷ sorts) [] h = absurd h
values_are (s ∷ sorts) (t ∷ ts) h = by s t h.0 (values_are sorts ts h.1)
  where
    by : (s : Sort) (t : ValueType) → IsSortFor s t → AreValues ts → AreValues (t ∷ ts)
    by Boolean types.Boolean f rest = rest
    by Byte types.Byte f rest = rest
    by Short types.Short f rest = rest
    by Int types.Int f rest = rest
    by (Reference shape) (types.Reference type) f rest = rest
    by _ _ f rest = absurd f

words_are : (sorts : List Sort) (ts : List ValueType) → AreSortsFor sorts ts → length (arguments_of ts) ≡ widths sorts
words_are [] [] h = refl
words_are [] (t ∷ ts) h = absurd h
words_are (s ∷ sorts) [] h = absurd h
words_are (s ∷ sorts) (t ∷ ts) h = by s t h.0 (words_are sorts ts h.1)
  where
    by : (s : Sort) (t : ValueType) → IsSortFor s t → length (arguments_of ts) ≡ widths sorts → length
        (arguments_of
        (t ∷ ts)) ≡ widths (s ∷ sorts)
    by Boolean types.Boolean f rest = omega (arith, rest)
    by Byte types.Byte f rest = omega (arith, rest)
    by Short types.Short f rest = omega (arith, rest)
    by Int types.Int f rest = omega (arith, rest)
    by (Reference shape) (types.Reference type) f rest = omega (arith, rest)
    by _ _ f rest = absurd f

module _ (card_type : List ℕ → Option (List ℕ)) (shapes : AreShapes card_type) where
  sort_for : (kind : Kind) (class : List ℕ) (t : ValueType) → IsTypedAs card_type kind class t → is_void kind ≡ false
      → IsSortFor (sort_of (record { kind = kind; class = class })) t
  sort_for kinds.Bool class types.Boolean h some = tt
  sort_for kinds.Byte class types.Byte h some = tt
  sort_for kinds.Short class types.Short h some = tt
  sort_for kinds.Int class types.Int h some = tt
  sort_for kinds.Ref class (types.Reference type) h some =
      let r = shapes class type h in
      subst (λ (o : Option (Shape (List ℕ))). IsSortFor (reference_to o) (types.Reference type)) (sym r.1) tt
  sort_for kinds.Void class types.Void h some = absurd cc
  sort_for kind class t h some = absurd h

  pub sorts_for : (ps : List Part) (ts : List ValueType) → AreTypedAs card_type ps ts → AreSortsFor (map sort_of ps) ts
  sorts_for [] [] h = tt
  sorts_for [] (t ∷ ts) h = absurd h
  sorts_for (p ∷ ps) [] h = absurd h
  sorts_for (p ∷ ps) (t ∷ ts) h = (sort_for p.kind p.class t h.0 h.1, sorts_for ps ts h.2)

  -- the words of a local lie below those of the class file's
  pair_below : (kind : Kind) (class : List ℕ) (t : ValueType) → IsTypedAs card_type kind class t → is_void kind ≡ false
      → (ys zs : List Cell) → AllZip IsCellBelow ys zs → AllZip IsCellBelow (local_of t ++ ys) (words_of_local card_type
      (value_of (record { kind = kind; class = class })) ++ zs)
  pair_below kinds.Bool class types.Boolean h some ys zs rest = (tt, (tt, rest))
  pair_below kinds.Byte class types.Byte h some ys zs rest = (tt, (tt, rest))
  pair_below kinds.Short class types.Short h some ys zs rest = (tt, (tt, rest))
  pair_below kinds.Int class types.Int h some ys zs rest = (tt, (tt, rest))
  pair_below kinds.Ref class (types.Reference type) h some ys zs rest = (own_below card_type class type h, (tt, rest))
  pair_below kinds.Void class types.Void h some ys zs rest = absurd cc
  pair_below kind class t h some ys zs rest = absurd h

  params_below : (ps : List Part) (ts : List ValueType) → AreTypedAs card_type ps ts → AllZip IsCellBelow (locals_of ts)
      (local_words card_type (map value_of ps))
  params_below [] [] h = tt
  params_below [] (t ∷ ts) h = absurd h
  params_below (p ∷ ps) [] h = absurd h
  params_below (p ∷ ps) (t ∷ ts) h = pair_below p.kind p.class t h.0 h.1 (locals_of ts) (local_words card_type
      (map value_of ps)) (params_below ps ts h.2)

  as_many : (ps : List Part) (ts : List ValueType) → AreTypedAs card_type ps ts → length (map value_of ps) ≡ length ts
  as_many [] [] h = refl
  as_many [] (t ∷ ts) h = absurd h
  as_many (p ∷ ps) [] h = absurd h
  as_many (p ∷ ps) (t ∷ ts) h = ap suc (as_many ps ts h.2)

-- ---- acts

module _ (p : Pair) (result : ValueType) (n : Naming) (to : ℕ → ℕ) (wide : ℕ → Bool) where
  abbrev step : (label : ℕ) → NInsn → Step
  step = step_laid p result n to wide

  widen_act : (at : ℕ) (long : Bool) → act_laid p result n to at long (Op 0x5C) ≡ calculating 1 2
  unfolding row
  widen_act at long = refl

  three : (a b c d e f : Act) (xs ys : List Act) → a ≡ d → b ≡ e → c ≡ f → xs ≡ ys → a ∷ b ∷ c ∷ xs ≡ d ∷ e ∷ f ∷ ys
  three a b c d e f xs ys one two both rest = ap (λ z. z ∷ b ∷ c ∷ xs) one ∙ ap (λ z. d ∷ z ∷ c ∷ xs) two ∙ ap (λ z. d
      ∷ e ∷ z ∷ xs) both ∙ ap (λ zs. d ∷ e ∷ f ∷ zs) rest

  pair_of : (a b d e : Act) (xs ys : List Act) → a ≡ d → b ≡ e → xs ≡ ys → a ∷ b ∷ xs ≡ d ∷ e ∷ ys
  pair_of a b d e xs ys one two rest = ap (λ z. z ∷ b ∷ xs) one ∙ ap (λ z. d ∷ z ∷ xs) two ∙ ap (λ zs. d ∷ e ∷ zs) rest

  module _ (f : Frame) where
    -- what is written for a local of which loads and stores have these opcodes
    abbrev near : (short long local : ℕ) → NInsn
    near short long local = if nat_le local 3 then Op (short + local) else Local long local

    -- its act at a label
    abbrev acted_at : (label : ℕ) → NInsn → Act
    acted_at k insn = act_laid p result n to (to k) (wide k) insn

    acts_onto : (k word l : ℕ) (sorts : List Sort) (ts : List ValueType) → ((j w : ℕ) → acts_of (steps_from step j
        (moved_from f w (l + 1) sorts)) ≡ moving_all w (first_word f (l + 1)) ts) → (s : Sort) (t : ValueType)
        → IsSortFor s t → acts_of (steps_from step k (moved_from f word l (s ∷ sorts))) ≡ moving_all word
        (first_word f l) (t ∷ ts)
    acts_onto k word l sorts ts rest s t h = by s t h
      where
        up : (j count : ℕ) → acts_of (steps_from step j (moved_from f (word + count) (l + 1) sorts)) ≡ moving_all (word
            + count) (first_word f l + 2) ts
        up j count =
            let more : first_word f (l + 1) ≡ first_word f l + 2 = omega arith in
            rest j (word + count) ∙ ap (λ i. moving_all (word + count) i ts) more

        short : acts_of (steps_from step k (moved_from f word l (Short ∷ sorts))) ≡ moving_all word (first_word f l)
            (types.Short ∷ ts)
        short =
            let first = first_word f l in
            three (acted_at k (near 0x1C 0x16 word)) (acted_at (k + 1) (Op 0x5C)) (acted_at (k + 1 + 1) (near 0x33 0x2A
            first))
            (loading letters.Short word) (calculating 1 2) (storing letters.Int first) (acts_of (steps_from step (k + 1
            + 1 + 1) (moved_from f (word + 1) (l + 1) sorts))) (moving_all (word + 1) (first + 2) ts) (short_load p
            result n to (to k) (wide k) false word) (widen_act (to (k + 1)) (wide (k + 1))) (store_act p result n to
            (to (k + 1 + 1)) (wide (k + 1 + 1)) false first) (up (k + 1 + 1 + 1) 1)

        by : (s : Sort) (u : ValueType) → IsSortFor s u → acts_of (steps_from step k (moved_from f word l (s ∷ sorts)))
            ≡ moving_all word (first_word f l) (u ∷ ts)
        by Boolean types.Boolean e = short
        by Byte types.Byte e = short
        by Short types.Short e = short
        by Int types.Int e =
            let first = first_word f l in
            pair_of (acted_at k (near 0x20 0x17 word)) (acted_at (k + 1) (near 0x33 0x2A first)) (loading
            letters.Int word)
            (storing letters.Int first) (acts_of (steps_from step (k + 1 + 1) (moved_from f (word + 2) (l + 1) sorts)))
            (moving_all (word + 2) (first + 2) ts) (load_act p result n to (to k) (wide k) false word)
            (store_act p result n to (to (k + 1)) (wide (k + 1)) false first) (up (k + 1 + 1) 2)
        by (Reference shape) (types.Reference type) e =
            let first = first_word f l in
            pair_of (acted_at k (near 0x18 0x15 word)) (acted_at (k + 1) (near 0x2B 0x28 first)) (loading
            letters.Reference word)
            (storing letters.Reference first) (acts_of (steps_from step (k + 1 + 1) (moved_from f (word + 1) (l + 1)
            sorts))) (moving_all (word + 1) (first + 2) ts) (load_act p result n to (to k) (wide k) true word)
            (store_act p result n to (to (k + 1)) (wide (k + 1)) true first) (up (k + 1 + 1) 1)
        by _ _ e = absurd e

    acts_from : (k word l : ℕ) (sorts : List Sort) (ts : List ValueType) → AreSortsFor sorts ts → acts_of
        (steps_from step k (moved_from f word l sorts)) ≡ moving_all word (first_word f l) ts
    acts_from k word l [] [] h = refl
    acts_from k word l [] (t ∷ ts) h = absurd h
    acts_from k word l (s ∷ sorts) [] h = absurd h
    acts_from k word l (s ∷ sorts) (t ∷ ts) h = acts_onto k word l sorts ts (λ j w. acts_from j w (l + 1) sorts ts h.1)
        s t h.0

    pub prologue_acts : (ts : List ValueType) → AreSortsFor f.params ts → acts_of (steps_from step 0 (prologue f))
        ≡ moving_all 0 (nargs f) ts
    prologue_acts ts h =
        let none : first_word f 0 ≡ nargs f = omega arith in
        acts_from 0 0 0 f.params ts h ∙ ap (λ i. moving_all 0 i ts) none

  -- ---- offsets

  pub laid_at : (from : ℕ) (insns : List NInsn) (s : Step) → Contains (steps_from step from insns) s → (j : ℕ)
      × (j < length
      insns) × (s.at ≡ to (from + j))
  laid_at from [] s (k, lt, e) = absurd (omega (arith, lt))
  laid_at from (x ∷ insns) s on = by (contains_cons (step from x) (steps_from step (from + 1) insns) s on) (laid_at
      (from + 1) insns s)
    where
      by : ((step from x ≡ s) ⊎ Contains (steps_from step (from + 1) insns) s) → (Contains (steps_from step (from + 1)
          insns) s → (j : ℕ) × (j < length insns) × (s.at ≡ to (from + 1 + j))) → (j : ℕ) × (j < length (x ∷ insns))
          × (s.at ≡ to (from + j))
      by (inl same) more =
          let none : from ≡ from + 0 = omega arith in
          (0, omega arith, sym (ap (λ (z : Step). z.at) same) ∙ ap to none)
      by (inr later) more =
          let rest = more later in
          let lt = rest.1 in
          let next : from + 1 + rest.0 ≡ from + suc rest.0 = omega arith in
          (suc rest.0, omega (arith, lt), rest.2 ∙ ap to next)

  -- no handler covers what stands before those that all begin behind it
  pub front_uncovered : (insns : List NInsn) (all : ℕ) (catches : List Catch) → length insns ≤ all → ((j k : ℕ) → j < k
      → k ≤ all → to j < to k) → ((j k : ℕ) → j ≤ k → to j ≤ to k) → BeginBehind to (length insns) catches → (s : Step)
      → Contains (steps_from step 0 insns) s → (h : Catch) → Contains catches h → covers h s.at ≡ true → ⊥
  front_uncovered insns all catches few ascends grows behind s on h listed over =
      let r = laid_at 0 insns s on in
      let none : 0 + r.0 ≡ r.0 = omega arith in
      let at : s.at ≡ to r.0 = r.2 ∙ ap to none in
      let there = behind h listed r.0 r.1 (ap (covers h) (sym at) ∙ over) in
      let up = ascends r.0 (length insns) r.1 few in
      let rise = grows (length insns) there.0 there.1 in
      let starts = there.2 in
      let tests = and_true (nat_le h.start s.at) (nat_lt s.at (h.start + h.length)) over in
      let low : h.start ≤ s.at = (let e = tests.0 in grind (arith, nat_tests, e)) in
      omega (arith, up, rise, starts, low, at)

  -- ---- the prologue

  module _ (card_type : List ℕ → Option (List ℕ)) (is_of : Subtype) (m : Room) (new : Selection) (b : BodyByName)
      (rows : List (Option State)) (label : ℕ → ℕ) (c : Body) (f : Frame) (holder : List ℕ) (ts : List ValueType)
      (shapes : AreShapes card_type) (is : IsEntered card_type m b c f holder ts) where
    -- what is entered, the receiver of a method that is not static among it
    pub record AreEntered (us : List ValueType) : Type 0 where
      pub sorts : AreSortsFor f.params us
      pub words : c.arguments ≡ flat_map words us
      pub as_many : length (arguments_by_name b) ≡ length us
      pub below : AllZip IsCellBelow (locals_of us) (local_words card_type (arguments_by_name b))

    abbrev ps : List Part
    ps = let d = parts b.desc in d.params

    entered : (us : List ValueType) × AreEntered us
    entered = by (is_static b.flags) refl
      where
        by : (v : Bool) → is_static b.flags ≡ v → (us : List ValueType) × AreEntered us
        by true e = (
          ts,
          record {
            sorts = subst (λ (ss : List Sort). AreSortsFor ss ts) (sym (is.sorts ∙ ap (λ v. (if v then [] else Reference
                (OfClass b.class) ∷ []) ++ map sort_of (let d = parts b.desc in d.params)) e)) (sorts_for card_type
                shapes ps ts is.typed);
            words = is.arguments ∙ ap (λ v. (if v then [] else AnObject holder ∷ []) ++ flat_map words ts) e;
            as_many = ap (λ v. length ((if v then [] else Refs (b.class ∷ []) ∷ []) ++ map value_of
                (let d = parts b.desc in d.params))) e ∙ as_many card_type shapes ps ts is.typed;
            below = subst (λ v. AllZip IsCellBelow (locals_of ts) (local_words card_type ((if v then []
                else Refs (b.class ∷ []) ∷ []) ++ map value_of (let d = parts b.desc in d.params)))) (sym e)
                (params_below card_type shapes ps ts is.typed);
          },
        )
        by false e = (
          types.Reference holder ∷ ts,
          record {
            sorts = subst (λ (ss : List Sort). AreSortsFor ss (types.Reference holder ∷ ts)) (sym (is.sorts ∙ ap (λ v.
                (if v then [] else Reference (OfClass b.class) ∷ []) ++ map sort_of (let d = parts b.desc in d.params))
                e)) (tt, sorts_for card_type shapes ps ts is.typed);
            words = is.arguments ∙ ap (λ v. (if v then [] else AnObject holder ∷ []) ++ flat_map words ts) e;
            as_many = ap (λ v. length ((if v then [] else Refs (b.class ∷ []) ∷ []) ++ map value_of
                (let d = parts b.desc in d.params))) e ∙ ap suc (as_many card_type shapes ps ts is.typed);
            below = subst (λ v. AllZip IsCellBelow (locals_of (types.Reference holder ∷ ts)) (local_words card_type
                ((if v then [] else Refs (b.class ∷ []) ∷ []) ++ map value_of (let d = parts b.desc in d.params))))
                (sym e) (
                  own_below card_type b.class holder (is.holds e),
                  (
                    tt,
                    params_below card_type shapes ps ts
                        is.typed,
                  ),
                );
          },
        )

    abbrev front : List Step
    front = steps_from step 0 (prologue f)

    pub prologue_begins : (all : ℕ) → length (prologue f) ≤ all → ((j k : ℕ) → j < k → k ≤ all → to j < to k)
        → ((j k : ℕ) → j ≤ k → to j ≤ to k) → BeginBehind to (length (prologue f)) c.catches
        → Begins card_type is_of m new b rows label to c (steps_from step 0 (prologue f))
    prologue_begins all long_enough ascends grows behind =
        let us = entered.0 in
        let fit = entered.1 in
        let some = values_are f.params us fit.sorts in
        let acts : acts_of front ≡ moving_all 0 m.arguments us = prologue_acts f us fit.sorts ∙ ap (λ i. moving_all 0 i
        us) (sym is.words) in
        let long : length (arguments_of us) ≡ m.arguments = words_are f.params us fit.sorts ∙ sym is.words in
        let many = fit.as_many in
        let few_of = is.few in
        let few : length us ≤ b.max_locals = omega (arith, many, few_of) in
        let stay : StayAll (acts_of front) = subst StayAll (sym acts) (all_stay 0 m.arguments us) in
        record {
          unbroken = entry_unbroken card_type is_of m b c front us some is.low is.room acts fit.words long is.count few
              fit.as_many fit.below;
          arrives = entry_arrives card_type is_of m b c front us some is.low is.room acts fit.words long is.count few
              fit.as_many fit.below;
          stays = λ s on o within. none_in (let a = s.act in a.targets) (step_stays front stay s on) o within;
          uncovered = front_uncovered (prologue f) all c.catches long_enough ascends grows behind;
        }
