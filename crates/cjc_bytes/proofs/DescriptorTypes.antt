-- The types of a descriptor, cut out byte by byte, are its parts.
use Rattle.std.proofs.Common.{◌≡◌, ℕ, zero, suc, ◌+◌, ◌-◌, ◌<◌, ◌≤◌, Bool, true, false, List, [], ◌∷◌, ◌++◌, length}
use Rattle.std.proofs.Common.{take, drop, get_or, map, Option, Some, None, refl, sym, ap, subst, ◌∙◌, append_assoc}
use Rattle.std.proofs.Common.{arith, drop-cons, add-one, add-zero}
use Rattle.std.proofs.lemmas.List.{append-nil, drop_all, map-append, take_at, length-append, length-drop, get_or-drop}
use Rattle.std.proofs.lemmas.List.{drop-drop, take_all, length-map}
use Rattle.std.proofs.Math.Seq.{take-suc, get_or-append_seam}
use Rattle.cjc_bytes.specs.declared.descriptor.Kind.{Kind}
use Rattle.cjc_bytes.specs.declared.descriptor.Role.{Role}
use Rattle.cjc_bytes.specs.declared.descriptor.Role.TheVariants as roles
use Rattle.cjc_bytes.specs.Descriptor.{Part, Parts, part_at, base_kind, IsName, last, more, IsClassName, simple, inside}
use Rattle.cjc_bytes.specs.Descriptor.{IsType, base, object, array, AreTypes, none, next, IsResult, value, nothing}
use Rattle.cjc_bytes.specs.Descriptor.{IsDescriptor, field, method, IsLongestStart}
use Rattle.cjc_bytes.specs.Spots.{role_of, cut_by, types_from, types, part_of, part_by, gathered, begins_method}
use Rattle.cjc_bytes.specs.Spots.{parts_of, bad_at, where_none, desc_of}
use Rattle.cjc_bytes.specs.declared.descriptor.ParseState.TheVariants as spots
use Rattle.cjc_bytes.proofs.DescriptorRead.{differs, byte_differs, is_descriptor, descriptor_reads, start_of, no_longer}
use Rattle.cjc_bytes.proofs.Gets.{all_but_last}

-- ---- one type

-- the bytes of a name, and of a class name up to its end
name_cut : {name : List ℕ} → IsName name → (begun rest : List ℕ) → types_from begun true (name ++ rest)
    ≡ types_from (begun ++ name) true rest
unfolding types_from
name_cut (last {b = b} good) begun rest = rw (byte_differs 59 b refl good) refl
name_cut (more {b = b} {name = name} good n) begun rest =
    rw (byte_differs 59 b refl good) (name_cut n (begun ++ b ∷ []) rest ∙ ap (λ (q : List ℕ). types_from q true rest)
    (append_assoc begun (b ∷ []) name))

class_cut : {name : List ℕ} → IsClassName name → (begun rest : List ℕ) → types_from begun true (name ++ rest)
    ≡ types_from (begun ++ name) true rest
unfolding types_from
class_cut (simple n) begun rest = name_cut n begun rest
class_cut (inside {front = front} {back = back} n c) begun rest =
    let first : types_from begun true (front ++ (47 ∷ (back ++ rest))) ≡ types_from ((begun ++ front) ++ 47 ∷ []) true
    (back ++ rest) = name_cut n begun (47 ∷ (back ++ rest)) in
    let behind : types_from ((begun ++ front) ++ 47 ∷ []) true (back ++ rest) ≡ types_from (((begun ++ front)
    ++ 47 ∷ []) ++ back) true rest = class_cut c ((begun ++ front) ++ 47 ∷ []) rest in
    let same : ((begun ++ front) ++ 47 ∷ []) ++ back ≡ begun ++ (front ++ 47 ∷ back) = simp append_assoc in
    rw append_assoc (first ∙ behind ∙ ap (λ (q : List ℕ). types_from q true rest) same)

type_cut : {p : Part} {bytes : List ℕ} → IsType p bytes → (begun rest : List ℕ) → types_from begun false (bytes ++ rest)
    ≡ (begun ++ bytes) ∷ types rest
unfolding types_from
type_cut (base {b = b} {kind = kind} good) begun rest =
    rw (
      differs base_kind 91 b kind refl good,
      differs base_kind 76 b kind refl good,
      differs base_kind 40 b kind refl
          good,
      differs base_kind 41 b kind refl good,
    ) refl
type_cut (object {name = name} c) begun rest =
    let first : types_from (begun ++ 76 ∷ []) true (name ++ 59 ∷ rest) ≡ types_from ((begun ++ 76 ∷ [])
    ++ name) true (59 ∷ rest) = class_cut c (begun ++ 76 ∷ []) (59 ∷ rest) in
    let same : ((begun ++ 76 ∷ []) ++ name) ++ 59 ∷ [] ≡ begun ++ (76 ∷ name ++ 59 ∷ []) = simp append_assoc in
    let all : types_from (begun ++ 76 ∷ []) true ((name ++ 59 ∷ []) ++ rest) ≡ (begun ++ (76 ∷ name ++ 59 ∷ []))
    ∷ types rest = rw (append_assoc name (59 ∷ []) rest) (first ∙ ap (λ (q : List ℕ). q ∷ types rest) same) in
    all
type_cut (array {bytes = bytes} t) begun rest =
    type_cut t (begun ++ 91 ∷ []) rest ∙ ap (λ (q : List ℕ). q ∷ types rest) (append_assoc begun (91 ∷ []) bytes)

part_is : {p : Part} {bytes : List ℕ} → IsType p bytes → part_of bytes ≡ p
part_is (base {b = b} {kind = kind} good) = rw (
  differs base_kind 91 b kind refl good,
  differs base_kind 76 b kind refl
      good,
  good,
) refl
part_is (object {name = name} c) = rw (all_but_last name) refl
part_is (array t) = refl

-- ---- a whole descriptor

record ParamsCut (ps : List Part) (bytes : List ℕ) : Type 0 where
  each : List (List ℕ)
  are : (rest : List ℕ) → types (bytes ++ rest) ≡ each ++ types rest
  parts : map part_of each ≡ ps

params_cut : {ps : List Part} {bytes : List ℕ} → AreTypes ps bytes → ParamsCut ps bytes
params_cut none = record { each = []; are = λ rest. refl; parts = refl }
params_cut (next {p = p} {ps = ps} {front = front} {back = back} t ts) =
    let c = params_cut ts in
    record {
      each = front ∷ c.each;
      are = λ rest. rw append_assoc (type_cut t [] (back ++ rest)
          ∙ ap (λ (q : List (List ℕ)). front ∷ q) (c.are rest));
      parts = rw (part_is t, c.parts) refl;
    }

alone_cut : {p : Part} {bytes : List ℕ} → IsType p bytes → types bytes ≡ bytes ∷ []
unfolding types_from
alone_cut {bytes = bytes} t = rw append-nil at (type_cut t [] [])

result_cut : {r : Part} {bytes : List ℕ} → IsResult r bytes → (types bytes ≡ bytes ∷ []) × (part_of bytes ≡ r)
unfolding types_from
result_cut (value t) = (alone_cut t, part_is t)
result_cut nothing = (refl, refl)

gathered_is : (is_method : Bool) (ps : List Part) (r : Part) → gathered is_method (ps ++ r ∷ [])
    ≡ record { is_method = is_method; params = ps; result = r }
gathered_is is_method [] r = refl
gathered_is is_method (p ∷ []) r = refl
gathered_is is_method (p ∷ q ∷ ps) r = rw (gathered_is is_method (q ∷ ps) r) refl

no_method : {p : Part} {bytes : List ℕ} → IsType p bytes → begins_method bytes ≡ false
no_method (base {b = b} {kind = kind} good) = differs base_kind 40 b kind refl good
no_method (object c) = refl
no_method (array t) = refl

pub parts_are : {d : Parts} {bytes : List ℕ} → IsDescriptor d bytes → parts_of bytes ≡ d
unfolding parts_of types_from
parts_are (field t) = rw (no_method t, alone_cut t, part_is t) refl
parts_are (method {ps = ps} {r = r} {front = front} {back = back} ts result) =
    let c = params_cut ts in
    let last_one = result_cut result in
    let all : types (front ++ 41 ∷ back) ≡ c.each ++ back ∷ [] = c.are (41 ∷ back) ∙ ap (λ (q : List (List ℕ)). c.each
    ++ q) last_one.0 in
    let parts : map part_of (c.each ++ back ∷ []) ≡ ps ++ r ∷ [] = map-append part_of c.each (back ∷ [])
    ∙ rw (c.parts, last_one.1) refl in
    ap (λ (q : List (List ℕ)). gathered true (map part_of q)) all ∙ (ap (gathered true) parts ∙ gathered_is true ps r)

-- ---- the loops

-- the bytes from one place to before another, and one more
one_more_byte : (bytes : List ℕ) (start i d : ℕ) → start ≤ i → i < length bytes
    → take ((i + 1) - start) (drop start bytes) ≡ take (i - start) (drop start bytes) ++ get_or bytes i d ∷ []
one_more_byte bytes start i d le lt =
    let more : (i + 1) - start ≡ suc (i - start) = omega arith in
    let room : i - start < length (drop start bytes) = omega (arith, length-drop start bytes) in
    let place : start + (i - start) ≡ i = omega arith in
    rw more (take-suc (drop start bytes) (i - start) d room ∙ ap (λ (b : ℕ). take (i - start) (drop start bytes)
    ++ b ∷ []) (get_or-drop start bytes (i - start) d ∙ ap (λ (k : ℕ). get_or bytes k d) place))

step_at : (begun : List ℕ) (in_name : Bool) (bytes : List ℕ) (i d : ℕ) → i < length bytes
    → types_from begun in_name (drop i bytes) ≡ cut_by (role_of in_name (get_or bytes i d)) (begun ++ get_or bytes i d
    ∷ []) (λ now is_open. types_from now is_open (drop (i + 1) bytes))
unfolding types_from
step_at begun in_name bytes i d lt = rw (add-one, drop-cons bytes i d lt) refl

pub between : (bytes : List ℕ) (start i d : ℕ) (in_name : Bool) (total : List (List ℕ))
    → role_of in_name (get_or bytes i d) ≡ roles.Between → i < length bytes
    → types_from (take (i - start) (drop start bytes)) in_name (drop i bytes) ≡ total
    → types_from (take ((i + 1) - (i + 1)) (drop (i + 1) bytes)) false (drop (i + 1) bytes) ≡ total
between bytes start i d in_name total role lt h =
    let none_yet : (i + 1) - (i + 1) ≡ 0 = omega arith in
    let begun : List ℕ = take (i - start) (drop start bytes) in
    let step : types_from begun in_name (drop i bytes) ≡ types_from [] false (drop (i + 1) bytes) =
    rw (step_at begun in_name bytes i d lt, role) refl in
    rw none_yet (sym step ∙ h)

pub goes : (bytes : List ℕ) (start i d : ℕ) (in_name is_open : Bool) (total : List (List ℕ))
    → role_of in_name (get_or bytes i d) ≡ roles.Inside is_open → i < length bytes → start ≤ i
    → types_from (take (i - start) (drop start bytes)) in_name (drop i bytes) ≡ total
    → types_from (take ((i + 1) - start) (drop start bytes)) is_open (drop (i + 1) bytes) ≡ total
goes bytes start i d in_name is_open total role lt le h =
    let begun : List ℕ = take (i - start) (drop start bytes) in
    let step : types_from begun in_name (drop i bytes) ≡ types_from (begun ++ get_or bytes i d ∷ []) is_open
    (drop (i + 1) bytes) = rw (step_at begun in_name bytes i d lt, role) refl in
    rw (one_more_byte bytes start i d le lt) (sym step ∙ h)

pub ends : (bytes : List ℕ) (start i d : ℕ) (in_name : Bool) (total : List (List ℕ))
    → role_of in_name (get_or bytes i d) ≡ roles.Last → i < length bytes → start ≤ i
    → types_from (take (i - start) (drop start bytes)) in_name (drop i bytes) ≡ total
    → total ≡ take ((i + 1) - start) (drop start bytes) ∷ types (take (length bytes - (i + 1)) (drop (i + 1) bytes))
ends bytes start i d in_name total role lt le h =
    let begun : List ℕ = take (i - start) (drop start bytes) in
    let step : types_from begun in_name (drop i bytes) ≡ (begun ++ get_or bytes i d ∷ []) ∷ types (drop (i + 1) bytes) =
    rw (step_at begun in_name bytes i d lt, role) refl in
    let rest : take (length bytes - (i + 1)) (drop (i + 1) bytes) ≡ drop (i + 1) bytes =
    take_all (length bytes - (i + 1)) (drop (i + 1) bytes) (omega (arith, length-drop (i + 1) bytes)) in
    rw (one_more_byte bytes start i d le lt, rest) (sym h ∙ step)

pub runs_out : {P : Type 0} (bytes begun : List ℕ) (in_name : Bool) (i : ℕ) → 0 < length (types bytes)
    → length bytes ≤ i → types_from begun in_name (drop i bytes) ≡ types bytes → P
unfolding types_from
runs_out bytes begun in_name i some le h =
    let nothing_left : [] ≡ types bytes = sym (rw (drop_all i bytes le) refl) ∙ h in
    let none_there : length (types bytes) ≡ 0 = sym (ap length nothing_left) in
    absurd (omega arith)

-- the loop over whole types
pub later : (all rest behind : List (List ℕ)) (first : List ℕ) (k : ℕ) → drop k all ≡ rest → rest ≡ first ∷ behind
    → drop (k + 1) all ≡ behind
later all rest behind first k h is = rw (← drop-drop 1 k all) (ap (drop 1) (h ∙ is))

pub here : (all rest behind : List (List ℕ)) (first : List ℕ) (k : ℕ) → drop k all ≡ rest → rest ≡ first ∷ behind
    → get_or all k [] ≡ first
here all rest behind first k h is =
    let at_front : get_or (drop k all) 0 [] ≡ first = ap (λ (q : List (List ℕ)). get_or q 0 []) (h ∙ is) in
    let same : get_or (drop k all) 0 [] ≡ get_or all (k + 0) [] = get_or-drop k all 0 [] in
    ap (λ (n : ℕ). get_or all n []) (sym (add-zero k)) ∙ (sym same ∙ at_front)

-- counting
same_by : (role : Role) (begun other bs : List ℕ) → ((o : Bool) → length (types_from begun o bs)
    ≡ length (types_from other o bs))
    → length (cut_by role begun (λ m o. types_from m o bs)) ≡ length (cut_by role other (λ m o. types_from m o bs))
same_by roles.Between begun other bs same = refl
same_by (roles.Inside is_open) begun other bs same = same is_open
same_by roles.Last begun other bs same = refl

same_count : (begun other : List ℕ) (in_name : Bool) (bytes : List ℕ) → length (types_from begun in_name bytes)
    ≡ length (types_from other in_name bytes)
unfolding types_from
same_count begun other in_name [] = refl
same_count begun other in_name (b ∷ bs) = same_by (role_of in_name b) (begun ++ b ∷ []) (other
    ++ b ∷ []) bs (λ o. same_count (begun ++ b ∷ []) (other ++ b ∷ []) o bs)

pub counts_between : (bytes : List ℕ) (i d count total : ℕ) (in_name : Bool) → role_of in_name (get_or bytes i d)
    ≡ roles.Between → i < length bytes
    → count + length (types_from [] in_name (drop i bytes)) ≡ total
    → count + length (types_from [] false (drop (i + 1) bytes)) ≡ total
counts_between bytes i d count total in_name role lt h =
    let step : types_from [] in_name (drop i bytes) ≡ types_from [] false (drop (i + 1) bytes) =
    rw (step_at [] in_name bytes i d lt, role) refl in
    rw (← step) h

pub counts_inside : (bytes : List ℕ) (i d count total : ℕ) (in_name is_open : Bool) → role_of in_name (get_or bytes i d)
    ≡ roles.Inside is_open → i < length bytes
    → count + length (types_from [] in_name (drop i bytes)) ≡ total
    → count + length (types_from [] is_open (drop (i + 1) bytes)) ≡ total
counts_inside bytes i d count total in_name is_open role lt h =
    let step : length (types_from [] in_name (drop i bytes)) ≡ length (types_from [] is_open (drop (i + 1) bytes)) =
    rw (step_at [] in_name bytes i d lt, role) (same_count (get_or bytes i d ∷ []) [] is_open (drop (i + 1) bytes)) in
    rw (← step) h

pub counts_last : (bytes : List ℕ) (i d count total : ℕ) (in_name : Bool) → role_of in_name (get_or bytes i d)
    ≡ roles.Last → i < length bytes
    → count + length (types_from [] in_name (drop i bytes)) ≡ total
    → (count + 1) + length (types_from [] false (drop (i + 1) bytes)) ≡ total
counts_last bytes i d count total in_name role lt h =
    let step : length (types_from [] in_name (drop i bytes)) ≡ suc (length (types (drop (i + 1) bytes))) =
    rw (step_at [] in_name bytes i d lt, role) refl in
    omega arith

pub counted : (bytes : List ℕ) (i count total : ℕ) (in_name : Bool) → length bytes ≤ i
    → count + length (types_from [] in_name (drop i bytes)) ≡ total → count ≡ total
unfolding types_from
counted bytes i count total in_name le h =
    let none_left : length (types_from [] in_name (drop i bytes)) ≡ 0 = rw (drop_all i bytes le) refl in
    omega arith

-- ---- the parts as the types

-- the types' parts in a row, the result's last
types_are : {d : Parts} {bytes : List ℕ} → IsDescriptor d bytes → map part_of (types bytes) ≡ d.params ++ d.result ∷ []
unfolding types_from
types_are (field t) = rw (alone_cut t, part_is t) refl
types_are (method {ps = ps} {r = r} {front = front} {back = back} ts result) =
    let c = params_cut ts in
    let last_one = result_cut result in
    let all : types (front ++ 41 ∷ back) ≡ c.each ++ back ∷ [] = c.are (41 ∷ back) ∙ ap (λ (q : List (List ℕ)). c.each
    ++ q) last_one.0 in
    ap (λ (q : List (List ℕ)). map part_of q) all ∙ (map-append part_of c.each (back ∷ [])
    ∙ rw (c.parts, last_one.1) refl)

get_or-map : (xs : List (List ℕ)) (i : ℕ) (d : Part) → i < length xs → get_or (map part_of xs) i d
    ≡ part_of (get_or xs i [])
get_or-map [] i d lt = absurd (omega arith)
get_or-map (x ∷ xs) zero d lt = refl
get_or-map (x ∷ xs) (suc i) d lt = get_or-map xs i d (omega arith)

pub parts_found : (bytes : List ℕ) → bad_at spots.Start bytes ≡ None → IsDescriptor (parts_of bytes) bytes
parts_found bytes good = let d = is_descriptor bytes good in subst (λ (q : Parts). IsDescriptor q bytes)
    (sym (parts_are d.1)) d.1

-- how many types there are, and what the one at a place says
pub types_count : (bytes : List ℕ) → bad_at spots.Start bytes ≡ None → length (types bytes)
    ≡ length (parts_of bytes).params + 1
types_count bytes good =
    let d : Parts = parts_of bytes in
    let are : map part_of (types bytes) ≡ d.params ++ d.result ∷ [] = types_are (parts_found bytes good) in
    let many : length (map part_of (types bytes)) ≡ length (d.params ++ d.result ∷ []) = ap length are in
    omega (arith, length-map (types bytes) part_of, length-append d.params (d.result ∷ []))

pub part_is_at : (bytes : List ℕ) (i : ℕ) → bad_at spots.Start bytes ≡ None → i ≤ length (parts_of bytes).params
    → part_at (parts_of bytes) i ≡ part_of (get_or (types bytes) i [])
part_is_at bytes i good le =
    let d : Parts = parts_of bytes in
    let are : map part_of (types bytes) ≡ d.params ++ d.result ∷ [] = types_are (parts_found bytes good) in
    let lt : i < length (types bytes) = omega (arith, types_count bytes good) in
    ap (λ (q : List Part). get_or q i d.result) (sym are) ∙ get_or-map (types bytes) i d.result lt

-- the result as the last of so many types
pub part_last : (bytes : List ℕ) (n : ℕ) → bad_at spots.Start bytes ≡ None → n ≡ length (types bytes)
    → part_of (get_or (types bytes) (n - 1) []) ≡ (parts_of bytes).result
part_last bytes n good many =
    let d : Parts = parts_of bytes in
    let are : map part_of (types bytes) ≡ d.params ++ d.result ∷ [] = types_are (parts_found bytes good) in
    let lt : n - 1 < length (types bytes) = omega (arith, types_count bytes good) in
    let at : n - 1 ≡ length d.params = omega (arith, types_count bytes good) in
    sym (get_or-map (types bytes) (n - 1) d.result lt)
    ∙ ap (λ (q : List Part). get_or q (n - 1) d.result) are
    ∙ ap (λ (k : ℕ). get_or (d.params ++ d.result ∷ []) k d.result) at
    ∙ get_or-append_seam d.params d.result [] d.result

-- ---- the types that are still to come

pub parts_all : (bytes : List ℕ) (n : ℕ) → bad_at spots.Start bytes ≡ None → n ≡ length (types bytes)
    → take n (map part_of (types bytes)) ≡ (parts_of bytes).params ++ (parts_of bytes).result ∷ []
parts_all bytes n good many =
    take_all n (map part_of (types bytes)) (omega (arith, length-map (types bytes) part_of))
    ∙ types_are (parts_found bytes good)

pub parts_before : (bytes : List ℕ) (n : ℕ) → bad_at spots.Start bytes ≡ None → n ≡ length (types bytes)
    → take (n - 1) (map part_of (types bytes)) ≡ (parts_of bytes).params
parts_before bytes n good many =
    let d : Parts = parts_of bytes in
    let at : length d.params ≡ n - 1 = omega (arith, types_count bytes good) in
    ap (take (n - 1)) (types_are (parts_found bytes good)) ∙ take_at d.params (d.result ∷ []) (n - 1) at

pub part_first : (all behind : List (List ℕ)) (first class : List ℕ) (kind : Kind) (n : ℕ) → all ≡ first ∷ behind
    → 0 < n → kind ≡ (part_of first).kind → class ≡ (part_of first).class
    → take n (map part_of all) ≡ part_by kind class ∷ take (n - 1) (map part_of behind)
part_first all behind first class kind n is some of_kind of_class =
    let more : n ≡ suc (n - 1) = omega arith in
    let same : part_of first ≡ part_by kind class = rw (of_kind, of_class) refl in
    ap (λ (q : List (List ℕ)). take n (map part_of q)) is
    ∙ ap (λ (k : ℕ). take k (part_of first ∷ map part_of behind)) more
    ∙ ap (λ (p : Part). p ∷ take (n - 1) (map part_of behind)) same

pub types_left : (all behind : List (List ℕ)) (first : List ℕ) (n : ℕ) → all ≡ first ∷ behind → n ≤ length all
    → n - 1 ≤ length behind
types_left all behind first n is le =
    let many : length all ≡ suc (length behind) = ap length is in
    omega arith

gathered_method : (is_method : Bool) (ps : List Part) → (gathered is_method ps).is_method ≡ is_method
gathered_method is_method [] = refl
gathered_method is_method (p ∷ []) = refl
gathered_method is_method (p ∷ q ∷ ps) = refl

pub parts_method : (bytes : List ℕ) → (parts_of bytes).is_method ≡ begins_method bytes
unfolding parts_of
parts_method bytes = gathered_method (begins_method bytes) (map part_of (types bytes))

-- ---- what parsing answers

some_not_none : {A : Type 0} {x : A} {o : Option A} → o ≡ Some x → o ≡ None → ⊥
some_not_none e f = cc

pub only_parts : (bytes : List ℕ) (d : Parts) → bad_at spots.Start bytes ≡ None → IsDescriptor d bytes
    → parts_of bytes ≡ d
only_parts bytes d good h = parts_are h

pub no_parts : {P : Type 0} (bytes : List ℕ) (d : Parts) (k : ℕ) → bad_at spots.Start bytes ≡ Some k
    → IsDescriptor d bytes → P
no_parts bytes d k bad h = absurd (some_not_none bad (descriptor_reads h))

pub longest : (bytes : List ℕ) (k : ℕ) → bad_at spots.Start bytes ≡ Some k → IsLongestStart bytes k
longest bytes k bad =
    let s = start_of spots.Start bytes k bad in
    let d = is_descriptor (take k bytes ++ s.rest) s.reads in
    record {
      within = s.within;
      some = (d.0, s.rest, d.1);
      none_longer = λ n p rest lt le h. no_longer spots.Start bytes
          k n rest bad lt le (descriptor_reads h);
    }

pub desc_found : (bytes : List ℕ) → bad_at spots.Start bytes ≡ None → desc_of bytes ≡ Some (parts_of bytes)
unfolding desc_of
desc_found bytes good = rw good refl

pub desc_none : (bytes : List ℕ) (k : ℕ) → bad_at spots.Start bytes ≡ Some k → desc_of bytes ≡ None
unfolding desc_of
desc_none bytes k bad = rw bad refl

pub desc_spelt : (d : Parts) (bytes : List ℕ) → desc_of bytes ≡ Some d → IsDescriptor d bytes
unfolding desc_of
desc_spelt d bytes e = go (bad_at spots.Start bytes) refl e
  where
    some_is : (x y : Parts) → Some x ≡ Some y → x ≡ y
    some_is x y e = cc

    go : (o : Option ℕ) → bad_at spots.Start bytes ≡ o → where_none o (parts_of bytes) ≡ Some d → IsDescriptor d bytes
    go None good same = subst (λ (q : Parts). IsDescriptor q bytes) (some_is (parts_of bytes) d same)
        (parts_found bytes good)
    go (Some k) bad same = absurd cc

pub desc_read : (d : Parts) (bytes : List ℕ) → IsDescriptor d bytes → desc_of bytes ≡ Some d
desc_read d bytes h = desc_found bytes (descriptor_reads h) ∙ ap Some (parts_are h)
