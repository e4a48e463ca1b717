-- Descriptors of class files and the types that Descriptor writes for them have the same values, and the arguments of a
-- method are cells of its type.
use Rattle.std.proofs.Common.{◌≡◌, ℕ, ◌+◌, ◌==◌, refl, sym, ap, subst, ◌∙◌, Bool, true, false, List, [], ◌∷◌, ◌++◌, map}
use Rattle.std.proofs.Common.{Option, Some, None, append_assoc, append-nil}
use Rattle.std.specs.Prelude.{flat_map, if◌then◌else◌, ◌&&◌, option_map}
use Rattle.std.specs.List.{AllZip, list_all}
use Rattle.std.proofs.lemmas.List.Concat.{flat_map-cons}
use Rattle.cjc_bytes.specs.AccessFlags.{is_static}
use Rattle.cjc_capread.specs.declared.tree.ClassRef.{ClassRef}
use Rattle.cjc_capread.specs.declared.tree.ClassRef.TheVariants.{Inside, Outside}
use Rattle.cjc_card_semantics.specs.Machine.ByToken.{by_token}
use Rattle.cjc_card_semantics.specs.Machine.Classes.{Class, class_named}
use Rattle.cjc_card_semantics.specs.Machine.Loaded.{Loaded}
use Rattle.cjc_card_semantics.specs.Script.Sorts.{Booleans, Bytes, Ints, OfClass, OfNumbers, OfReferences, Shorts}
use Rattle.cjc_card_semantics.specs.Script.Sorts.{Shape}
use Rattle.cjc_card_semantics.specs.Script.Sorts.{Signature, Sort, NoValue, field_sort, signature_of}
use Rattle.cjc_card_semantics.specs.Script.Sorts as sorts
use Rattle.cjc_intervals.specs.Types.declared.cell.Cell.{Cell}
use Rattle.cjc_verify.specs.Frames.declared.acts.Given.{Given}
use Rattle.cjc_verify.specs.Frames.Acts.{given}
use Rattle.cjc_card_acts.specs.CardTypes.{MemberType, ValueType, Void, by_nibble, class_by, has_class, member_type}
use Rattle.cjc_card_acts.specs.CardTypes.{onto}
use Rattle.cjc_card_acts.specs.CardTypes.{type_by, types_in, with_param, words, shape_by}
use Rattle.cjc_card_acts.specs.CardTypes as types
use Rattle.cjc_components.specs.Types.{nibbles_by, ref_nibbles, result_nibbles, shape_nibbles, sort_nibbles}
use Rattle.cjc_verify.specs.Pairs.{is_card_result, is_card_sort, is_card_type}
use Rattle.cjc_verify_proof.specs.Calls.{AreSorts, IsResult, IsSort}
use Rattle.cjc_verify_proof.specs.Control.{cells_of}
use Rattle.cjc_bytes.proofs.Lists.{map_append}

-- ---- nibbles

-- the type that is written for one of a descriptor
abbrev pub type_for : (ref : List ℕ → ClassRef) → Sort → ValueType
type_for ref sorts.Boolean = types.Boolean
type_for ref sorts.Byte = types.Byte
type_for ref sorts.Short = types.Short
type_for ref sorts.Int = types.Int
type_for ref (sorts.Reference shape) = types.Reference (shape_nibbles ref shape)
type_for ref NoValue = Void

-- the same of a result
abbrev pub result_for : (ref : List ℕ → ClassRef) → Option Sort → ValueType
result_for ref None = Void
result_for ref (Some sort) = type_for ref sort

one_nibble : (n : ℕ) → has_class n ≡ false → (rest : List ℕ) → types_in (n ∷ rest) ≡ onto (by_nibble n) (types_in rest)
unfolding types_in
one_nibble n e [] = refl
one_nibble n e (a ∷ []) = refl
one_nibble n e (a ∷ b ∷ []) = refl
one_nibble n e (a ∷ b ∷ c ∷ []) = refl
one_nibble n e (a ∷ b ∷ c ∷ d ∷ rest) = ap (λ t. if t then onto (Some (types.Reference (n ∷ a ∷ b ∷ c ∷ d ∷ [])))
    (types_in rest) else onto (by_nibble n) (types_in (a ∷ b ∷ c ∷ d ∷ rest))) e

class_nibbles : (r : ClassRef) (rest : List ℕ) → types_in ((6 ∷ ref_nibbles r) ++ rest)
    ≡ onto (Some (types.Reference (6 ∷ ref_nibbles r))) (types_in rest)
unfolding types_in
class_nibbles (Inside offset) rest = refl
class_nibbles (Outside import class) rest = refl

array_nibbles : (r : ClassRef) (rest : List ℕ) → types_in ((0xE ∷ ref_nibbles r) ++ rest)
    ≡ onto (Some (types.Reference (0xE ∷ ref_nibbles r))) (types_in rest)
unfolding types_in
array_nibbles (Inside offset) rest = refl
array_nibbles (Outside import class) rest = refl

-- the nibbles of a type that the card has say that type, whatever stands behind
sort_read : (ref : List ℕ → ClassRef) (s : Sort) → is_card_sort s ≡ true → (rest : List ℕ)
    → types_in (sort_nibbles ref s ++ rest) ≡ onto (Some (type_for ref s)) (types_in rest)
sort_read ref sorts.Boolean e rest = one_nibble 2 refl rest
sort_read ref sorts.Byte e rest = one_nibble 3 refl rest
sort_read ref sorts.Short e rest = one_nibble 4 refl rest
sort_read ref sorts.Int e rest = one_nibble 5 refl rest
sort_read ref NoValue e rest = cc
sort_read ref (sorts.Reference (OfClass c)) e rest = class_nibbles (ref c) rest
sort_read ref (sorts.Reference (OfReferences c)) e rest = array_nibbles (ref c) rest
sort_read ref (sorts.Reference (OfNumbers Booleans)) e rest = one_nibble 0xA refl rest
sort_read ref (sorts.Reference (OfNumbers Bytes)) e rest = one_nibble 0xB refl rest
sort_read ref (sorts.Reference (OfNumbers Shorts)) e rest = one_nibble 0xC refl rest
sort_read ref (sorts.Reference (OfNumbers Ints)) e rest = one_nibble 0xD refl rest

both : (a b : Bool) → (a && b) ≡ true → (a ≡ true) × (b ≡ true)
both true b e = (refl, e)
both false b e = absurd cc

result_read : (ref : List ℕ → ClassRef) (o : Option Sort) → is_card_result o ≡ true → types_in (result_nibbles ref o)
    ≡ Some (result_for ref o ∷ [])
unfolding types_in
result_read ref None e = refl
result_read ref (Some s) e = ap types_in (sym (append-nil (sort_nibbles ref s))) ∙ sort_read ref s e []

params_read : (ref : List ℕ → ClassRef) (ss : List Sort) → list_all is_card_sort ss ≡ true → (rest : List ℕ)
    (ts : List ValueType) → types_in rest ≡ Some ts → types_in (flat_map (sort_nibbles ref) ss ++ rest)
    ≡ Some (map (type_for ref) ss ++ ts)
params_read ref [] e rest ts f = f
params_read ref (s ∷ ss) e rest ts f =
    let b = both (is_card_sort s) (list_all is_card_sort ss) e in
    ap (λ ns. types_in (ns ++ rest)) (flat_map-cons (sort_nibbles ref) s ss)
    ∙ ap types_in (append_assoc (sort_nibbles ref s) (flat_map (sort_nibbles ref) ss) rest)
    ∙ sort_read ref s b.0 (flat_map (sort_nibbles ref) ss ++ rest)
    ∙ ap (onto (Some (type_for ref s))) (params_read ref ss b.1 rest ts f)

-- parameters, and the result behind them
parts_of : (ts : List ValueType) (r : ValueType) → member_type (ts ++ r ∷ []) ≡ record { params = ts; result = r }
parts_of [] r = refl
parts_of (t ∷ []) r = refl
parts_of (t ∷ u ∷ ts) r = ap (with_param t) (parts_of (u ∷ ts) r)

-- the type that nibbles of a method's descriptor say
pub method_read : (ref : List ℕ → ClassRef) (desc : List ℕ) (s : Signature)
    → (list_all is_card_sort s.params && is_card_result s.result) ≡ true
    → type_by (types_in (nibbles_by ref desc (Some s))) ≡ record {
      params = map (type_for ref) s.params;
      result = result_for ref s.result;
    }
method_read ref desc s e =
    let b = both (list_all is_card_sort s.params) (is_card_result s.result) e in
    ap type_by (params_read ref s.params b.0 (result_nibbles ref s.result) (result_for ref s.result ∷ [])
    (result_read ref s.result b.1))
    ∙ parts_of (map (type_for ref) s.params) (result_for ref s.result)

-- ---- values

-- class_refs mean the classes of their names
abbrev pub NamesAreMeant : Loaded → (ref : List ℕ → ClassRef) → Type 0
NamesAreMeant l ref = (name : List ℕ) → class_by l (ref_nibbles (ref name)) ≡ class_named l name

module _ (l : Loaded) (ref : List ℕ → ClassRef) (meant : NamesAreMeant l ref) where
  is_sort : (s : Sort) → is_card_sort s ≡ true → IsSort l s (type_for ref s)
  unfolding by_token
  is_sort sorts.Boolean e = tt
  is_sort sorts.Byte e = tt
  is_sort sorts.Short e = tt
  is_sort sorts.Int e = tt
  is_sort NoValue e = absurd cc
  is_sort (sorts.Reference (OfClass c)) e = sym (ap (option_map OfClass) (meant c))
  is_sort (sorts.Reference (OfReferences c)) e = sym (ap (option_map OfReferences) (meant c))
  is_sort (sorts.Reference (OfNumbers Booleans)) e = refl
  is_sort (sorts.Reference (OfNumbers Bytes)) e = refl
  is_sort (sorts.Reference (OfNumbers Shorts)) e = refl
  is_sort (sorts.Reference (OfNumbers Ints)) e = refl

  are_sorts : (ss : List Sort) → list_all is_card_sort ss ≡ true → AreSorts l ss (map (type_for ref) ss)
  are_sorts [] e = tt
  are_sorts (s ∷ ss) e = let b = both (is_card_sort s) (list_all is_card_sort ss) e in (is_sort s b.0, are_sorts ss b.1)

  is_result : (o : Option Sort) → is_card_result o ≡ true → IsResult l o (result_for ref o)
  is_result None e = tt
  is_result (Some s) e = is_sort s e

  -- the values of a method's descriptor are those of the type that is written for it
  pub record HaveSorts (desc : List ℕ) (s : Signature) (nibbles : List ℕ) : Type 0 where
    pub params : AreSorts l s.params (let t = type_by (types_in nibbles) in t.params)
    pub result : IsResult l s.result (let t = type_by (types_in nibbles) in t.result)

  pub have_sorts : (desc : List ℕ) (s : Signature) → signature_of desc ≡ Some s → (nibbles : List ℕ)
      → (if is_card_type desc (signature_of desc) then Some (nibbles_by ref desc (signature_of desc)) else None)
      ≡ Some nibbles → HaveSorts desc s nibbles
  have_sorts desc s is nibbles e = by (list_all is_card_sort s.params && is_card_result s.result) refl
      (sym (ap (λ o. if is_card_type desc o then Some (nibbles_by ref desc o) else None) is) ∙ e)
    where
      at : (list_all is_card_sort s.params && is_card_result s.result) ≡ true
          → nibbles_by ref desc (Some s) ≡ nibbles → HaveSorts desc s nibbles
      at card same =
          let b = both (list_all is_card_sort s.params) (is_card_result s.result) card in
          let t = sym (method_read ref desc s card) ∙ ap (λ ns. type_by (types_in ns)) same in
          record {
            params = subst (λ (m : MemberType). AreSorts l s.params m.params) t (are_sorts s.params b.0);
            result = subst (λ (m : MemberType). IsResult l s.result m.result) t (is_result s.result b.1);
          }

      some : (x : List ℕ) → Some x ≡ Some nibbles → x ≡ nibbles
      some x f = cc

      by : (b : Bool) → (list_all is_card_sort s.params && is_card_result s.result) ≡ b
          → (if b then Some (nibbles_by ref desc (Some s)) else None) ≡ Some nibbles → HaveSorts desc s nibbles
      by false card f = absurd cc
      by true card f = at card (some (nibbles_by ref desc (Some s)) f)

-- ---- arguments

all_given : (ts : List ValueType) → map (given [] []) (flat_map words ts) ≡ flat_map cells_of ts
all_given [] = refl
all_given (t ∷ ts) =
    ap (map (given [] [])) (flat_map-cons words t ts)
    ∙ map_append (given [] []) (words t) (flat_map words ts)
    ∙ ap (λ xs. map (given [] []) (words t) ++ xs) (all_given ts)
    ∙ sym (flat_map-cons cells_of t ts)

-- the cells of arguments with what stands before them
pub arguments_given : (first : List Given) (ts : List ValueType) → map (given [] []) (first ++ flat_map words ts)
    ≡ map (given [] []) first ++ flat_map cells_of ts
arguments_given first ts = map_append (given [] []) first (flat_map words ts)
    ∙ ap (λ xs. map (given [] []) first ++ xs) (all_given ts)
