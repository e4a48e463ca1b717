-- Calls of a fixed method, of the group or imported, are what their acts say.
use Rattle.std.proofs.Common.{◌≡◌, ◌+◌, ℕ, true, List, [], ◌∷◌, ◌++◌, length, map, Option, Some, None, refl, sym, ap}
use Rattle.std.proofs.Common.{subst, ◌∙◌, arith, length-append}
use Rattle.std.specs.Prelude.{Contains, option_map}
use Rattle.cjc_script.specs.Bytes.declared.fault.MemberId.{MemberId}
use Rattle.cjc_script.specs.Sorts.{Sort, Boolean, Byte, Short, Int, Reference, Signature}
use Rattle.cjc_script.specs.Sorts.{signature_of}
use Rattle.cjc_card_semantics.specs.Bytecode.Arguments as sorts
use Rattle.cjc_card_semantics.specs.Bytecode.Machine.{Start}
use Rattle.cjc_card_semantics.specs.Machine.Loaded.{Loaded}
use Rattle.cjc_card_semantics.specs.Machine.Calls.{argument_words, with_code}
use Rattle.cjc_card_semantics.specs.Machine.Methods.{Code, start_of}
use Rattle.cjc_card_semantics.specs.Machine.Operations.{Fixed, Outer}
use Rattle.cjc_frames.specs.declared.acts.Act.{Act}
use Rattle.cjc_frames.specs.Acts.{given}
use Rattle.cjc_card_acts.specs.CardTypes.{ValueType, needs_of, needs_of_all, width, widths}
use Rattle.cjc_card_acts.specs.CardTypes as types
use Rattle.cjc_verify_proof.specs.Frames.{Typing, Program, Begins}
use Rattle.cjc_verify_proof.specs.Calls.{receiver_needs, has_receiver, argument_cells, IsSort, AreSorts, IsResult}
use Rattle.cjc_verify_proof.specs.Turns.{IsReached, within, abroad, Calls, Reaches}

-- ---- how many words

need_counted : (t : ValueType) → length (needs_of t) ≡ width t
need_counted types.Void = refl
need_counted types.Boolean = refl
need_counted types.Byte = refl
need_counted types.Short = refl
need_counted types.Int = refl
need_counted (types.Reference type) = refl

pub needs_counted : (params : List ValueType) → length (needs_of_all params) ≡ widths params
needs_counted [] = refl
needs_counted (t ∷ params) =
    let both = length-append (needs_of_all params) (needs_of t) in
    let rest = needs_counted params in
    let one = need_counted t in
    omega (arith, both, rest, one)

sort_counted : (l : Loaded) (s : Sort) (t : ValueType) → IsSort l s t → sorts.width s ≡ width t
sort_counted l Boolean types.Boolean is = refl
sort_counted l Byte types.Byte is = refl
sort_counted l Short types.Short is = refl
sort_counted l Int types.Int is = refl
sort_counted l (Reference shape) (types.Reference type) is = refl
sort_counted l s t is = absurd is

sorts_counted : (l : Loaded) (ss : List Sort) (ts : List ValueType) → AreSorts l ss ts → sorts.widths ss ≡ widths ts
sorts_counted l [] [] are = refl
sorts_counted l [] (t ∷ ts) are = absurd are
sorts_counted l (s ∷ ss) [] are = absurd are
sorts_counted l (s ∷ ss) (t ∷ ts) are =
    let one = sort_counted l s t are.0 in
    let rest = sorts_counted l ss ts are.1 in
    omega (arith, one, rest)

-- the words of arguments, by their types and by their sorts
pub taken_counted : (receiver : Option (List ℕ)) (params : List ValueType)
    → length (needs_of_all params ++ receiver_needs receiver) ≡ length (receiver_needs receiver) + widths params
taken_counted receiver params =
    let both = length-append (needs_of_all params) (receiver_needs receiver) in
    let one = needs_counted params in
    omega (arith, both, one)

pub argument_counted : (l : Loaded) (receiver : Option (List ℕ)) (sig : Signature) (params : List ValueType)
    → AreSorts l sig.params params → argument_words (has_receiver receiver) sig ≡ length (needs_of_all params
    ++ receiver_needs receiver)
argument_counted l None sig params are =
    let a = taken_counted None params in
    let b = sorts_counted l sig.params params are in
    omega (arith, a, b)
argument_counted l (Some type) sig params are =
    let a = taken_counted (Some type) params in
    let b = sorts_counted l sig.params params are in
    omega (arith, a, b)

-- ---- calls

module _ (l : Loaded) (program : Program) (a : Act) (receiver : Option (List ℕ)) (params : List ValueType)
    (result : ValueType) (takes : a.takes ≡ needs_of_all params ++ receiver_needs receiver)
    (gives : a.gives ≡ types.words result) (writes : a.writes ≡ []) (falls : a.falls ≡ true) where
  -- a method that is there, whatever the receiver
  module _ (part offset : ℕ) (m : Start Code) (starts : start_of l part offset ≡ Some m)
      (nargs : m.nargs ≡ length a.takes) (t : Typing) (among : Contains program.methods t) (begins : Begins t m)
      (arguments : map (given [] []) (let b = t.body in b.arguments) ≡ argument_cells receiver params)
      (results : t.result ≡ result) where
    reaches_within : (o : Option (List ℕ)) → map (given [] []) (let b = t.body in b.arguments) ≡ argument_cells o params
        → Reaches l program (Fixed (has_receiver receiver) part offset) o params result
    reaches_within None args = subst (λ (x : Option (Start Code)). IsReached l program None params result (with_code x))
        (sym starts) (within m t None among begins tt args results)
    reaches_within (Some type) args = λ kind made is_of. subst (λ (x : Option (Start Code)). IsReached l program
        (Some kind)
        params result (with_code x)) (sym starts) (within m t (Some type) among begins is_of args results)

    pub fixed_calls : Calls l program a (Fixed (has_receiver receiver) part offset)
    fixed_calls = record {
      receiver = receiver;
      params = params;
      result = result;
      takes = takes;
      gives = gives;
      writes = writes;
      falls = falls;
      count = ap (option_map (λ (x : Start Code). x.nargs)) starts ∙ ap (λ n. Some n) nargs;
      on = refl;
      reaches = reaches_within receiver arguments;
    }

  -- an imported method, whatever the receiver
  module _ (id : MemberId) (sig : Signature) (is : signature_of id.desc ≡ Some sig)
      (sorted : AreSorts l sig.params params) (results : IsResult l sig.result result) where
    reaches_abroad : (o : Option (List ℕ)) → Reaches l program (Outer (has_receiver receiver) id) o params result
    reaches_abroad None = abroad id sig is sorted results
    reaches_abroad (Some type) = λ kind made is_of. abroad id sig is sorted results

    pub outer_calls : Calls l program a (Outer (has_receiver receiver) id)
    outer_calls = record {
      receiver = receiver;
      params = params;
      result = result;
      takes = takes;
      gives = gives;
      writes = writes;
      falls = falls;
      count = ap (option_map (argument_words (has_receiver receiver))) is ∙ ap (λ n. Some n)
          (argument_counted l receiver
          sig params sorted ∙ ap length (sym takes));
      on = refl;
      reaches = reaches_abroad receiver;
    }
