-- Reading byte by byte accepts the descriptors, and stops behind the longest start of one.
use Rattle.std.proofs.Common.{◌≡◌, ℕ, zero, suc, ◌<◌, ◌≤◌, ◌⊎◌, Bool, true, false, cond, eqb, List, [], ◌∷◌, ◌++◌}
use Rattle.std.proofs.Common.{length, take, drop, get_or, ◌+◌, drop-cons, add-one, Option, Some, None, option_map, refl}
use Rattle.std.proofs.Common.{sym, ap, subst, ◌∙◌, append_assoc, arith, inl, inr}
use Rattle.std.proofs.lemmas.Bool.{eqb-true, cases_Bool}
use Rattle.std.proofs.lemmas.List.{append-nil, drop_all}
use Rattle.cjc_bytes.specs.declared.descriptor.Kind.{Kind}
use Rattle.cjc_bytes.specs.declared.descriptor.Kind.TheVariants as kinds
use Rattle.cjc_bytes.specs.declared.descriptor.ParseState.{ParseState}
use Rattle.cjc_bytes.specs.declared.descriptor.ParseState.TheVariants as spots
use Rattle.cjc_bytes.specs.Descriptor.{Part, Parts, plain, base_kind, is_name_byte, IsName, last, more, IsClassName}
use Rattle.cjc_bytes.specs.Descriptor.{simple, inside, IsType, base, object, array, AreTypes, none, next, IsResult}
use Rattle.cjc_bytes.specs.Descriptor.{value, nothing, IsDescriptor, field, method}
use Rattle.cjc_bytes.specs.Spots.{behind_type, type_begun, after, one_more, end_at, bad_at}

chosen : {A : Type 0} (c : Bool) (x y z : A) → cond c x y ≡ z → ((c ≡ true) × (x ≡ z)) ⊎ ((c ≡ false) × (y ≡ z))
chosen true x y z e = inl (refl, e)
chosen false x y z e = inr (refl, e)

-- ---- what was read byte by byte is a descriptor

record ParamsTail (bytes : List ℕ) : Type 0 where
  front : List ℕ
  back : List ℕ
  ps : List Part
  r : Part
  parts : bytes ≡ front ++ 41 ∷ back
  params : AreTypes ps front
  result : IsResult r back

Ends : Bool → List ℕ → Type 0
Ends true bytes = ParamsTail bytes
Ends false bytes = bytes ≡ []

record TypeTail (is_param : Bool) (bytes : List ℕ) : Type 0 where
  front : List ℕ
  back : List ℕ
  p : Part
  parts : bytes ≡ front ++ back
  is : IsType p front
  ends : Ends is_param back

record NameTail (is_param : Bool) (bytes : List ℕ) : Type 0 where
  name : List ℕ
  back : List ℕ
  parts : bytes ≡ name ++ 59 ∷ back
  is : IsClassName name
  ends : Ends is_param back

-- the rest of a name that has begun
record NameRest (is_param : Bool) (bytes : List ℕ) : Type 0 where
  name : List ℕ
  back : List ℕ
  parts : bytes ≡ name ++ 59 ∷ back
  is : (b : ℕ) → is_name_byte b ≡ true → IsClassName (b ∷ name)
  ends : Ends is_param back

Tail : ParseState → List ℕ → Type 0
Tail spots.Start bytes = (d : Parts) × IsDescriptor d bytes
Tail spots.Param bytes = ParamsTail bytes
Tail spots.Result bytes = (r : Part) × IsResult r bytes
Tail (spots.Element is_param) bytes = TypeTail is_param bytes
Tail (spots.NameStart is_param) bytes = NameTail is_param bytes
Tail (spots.Name is_param) bytes = NameRest is_param bytes
Tail spots.End bytes = bytes ≡ []

ends_of : (is_param : Bool) (bytes : List ℕ) → Tail (behind_type is_param) bytes → Ends is_param bytes
unfolding Tail Ends
ends_of true bytes h = h
ends_of false bytes h = h

-- the three ways in which a type begins
base_begins : (is_param : Bool) (b : ℕ) (o : Option Kind) (t : ParseState)
    → option_map (λ (_ : Kind). behind_type is_param) o ≡ Some t → (kind : Kind) × (o ≡ Some kind)
    × (behind_type is_param ≡ t)
base_begins is_param b (Some kind) t e = (kind, refl, cc)
base_begins is_param b None t e = absurd cc

type_step : (is_param : Bool) (b : ℕ) (bs : List ℕ) (t : ParseState) → type_begun is_param b ≡ Some t → Tail t bs
    → TypeTail is_param (b ∷ bs)
unfolding Tail
type_step is_param b bs t e h = elim (chosen (eqb b 91) _ _ (Some t) e) [
  | inl (is, same) ↦
      let at : spots.Element is_param ≡ t = cc in
      let tail : TypeTail is_param bs = subst (λ (s : ParseState). Tail s bs) (sym at) h in
      let byte : b ≡ 91 = eqb-true b 91 is in
      record {
        front = 91 ∷ tail.front;
        back = tail.back;
        p = _;
        parts = rw byte (ap (λ (q : List ℕ). 91 ∷ q) tail.parts);
        is = array tail.is;
        ends = tail.ends;
      }
  | inr (not_array, e2) ↦ elim (chosen (eqb b 76) _ _ (Some t) e2) [
    | inl (is, same) ↦
        let at : spots.NameStart is_param ≡ t = cc in
        let tail : NameTail is_param bs = subst (λ (s : ParseState). Tail s bs) (sym at) h in
        let byte : b ≡ 76 = eqb-true b 76 is in
        let same_bytes : bs ≡ (tail.name ++ 59 ∷ []) ++ tail.back = rw append_assoc tail.parts in
        record {
          front = 76 ∷ tail.name ++ 59 ∷ [];
          back = tail.back;
          p = _;
          parts = rw byte (ap (λ (q : List ℕ). 76 ∷ q) same_bytes);
          is = object tail.is;
          ends = tail.ends;
        }
    | inr (not_object, e3) ↦
        let k = base_begins is_param b (base_kind b) t e3 in
        record {
          front = b ∷ [];
          back = bs;
          p = _;
          parts = refl;
          is = base k.1;
          ends = ends_of is_param bs (subst (λ (s : ParseState). Tail s bs) (sym k.2) h);
        }
  ]
]

whole_type : (b : ℕ) (bs : List ℕ) → TypeTail false (b ∷ bs) → (p : Part) × IsType p (b ∷ bs)
unfolding Ends
whole_type b bs tail =
    let same : b ∷ bs ≡ tail.front = tail.parts ∙ (ap (λ (q : List ℕ). tail.front ++ q) tail.ends
    ∙ append-nil tail.front) in
    (tail.p, subst (λ (q : List ℕ). IsType tail.p q) (sym same) tail.is)

param_step : (b : ℕ) (bs : List ℕ) → TypeTail true (b ∷ bs) → ParamsTail (b ∷ bs)
unfolding Ends
param_step b bs tail =
    let ends : ParamsTail tail.back = tail.ends in
    record {
      front = tail.front ++ ends.front;
      back = ends.back;
      ps = tail.p ∷ ends.ps;
      r = ends.r;
      parts = tail.parts
          ∙ (ap (λ (q : List ℕ). tail.front ++ q) ends.parts
          ∙ sym (append_assoc tail.front ends.front (41 ∷ ends.back)));
      params = next tail.is ends.params;
      result = ends.result;
    }

-- a byte more in front of a name
front_byte : (name : List ℕ) → IsClassName name → (c : ℕ) → is_name_byte c ≡ true → IsClassName (c ∷ name)
front_byte name (simple n) c good = simple (more good n)
front_byte name (inside n rest) c good = inside (more good n) rest

method_step : (b : ℕ) (bs : List ℕ) → b ≡ 40 → ParamsTail bs → (d : Parts) × IsDescriptor d (b ∷ bs)
method_step b bs is tail = (
  record { is_method = true; params = tail.ps; result = tail.r },
  rw (is, tail.parts) (method tail.params tail.result),
)

tail_step : (s : ParseState) (b : ℕ) (bs : List ℕ) (t : ParseState) → after s b ≡ Some t → Tail t bs → Tail s (b ∷ bs)
unfolding Tail after
tail_step spots.Start b bs t e h = elim (chosen (eqb b 40) _ _ (Some t) e) [
  | inl (is, same) ↦
      let at : spots.Param ≡ t = cc in
      method_step b bs (eqb-true b 40 is) (subst (λ (s : ParseState). Tail s bs) (sym at) h)
  | inr (other, e2) ↦ let w = whole_type b bs (type_step false b bs t e2 h) in (_, field w.1)
]
tail_step spots.Param b bs t e h = elim (chosen (eqb b 41) _ _ (Some t) e) [
  | inl (is, same) ↦
      let at : spots.Result ≡ t = cc in
      let tail : (r : Part) × IsResult r bs = subst (λ (s : ParseState). Tail s bs) (sym at) h in
      record {
        front = [];
        back = bs;
        ps = [];
        r = tail.0;
        parts = rw (eqb-true b 41 is) refl;
        params = none;
        result = tail.1;
      }
  | inr (other, e2) ↦ param_step b bs (type_step true b bs t e2 h)
]
tail_step spots.Result b bs t e h = elim (chosen (eqb b 86) _ _ (Some t) e) [
  | inl (is, same) ↦
      let at : spots.End ≡ t = cc in
      let tail : bs ≡ [] = subst (λ (s : ParseState). Tail s bs) (sym at) h in
      (plain kinds.Void, rw (eqb-true b 86 is, tail) nothing)
  | inr (other, e2) ↦ let w = whole_type b bs (type_step false b bs t e2 h) in (w.0, value w.1)
]
tail_step (spots.Element is_param) b bs t e h = type_step is_param b bs t e h
tail_step (spots.NameStart is_param) b bs t e h = elim (chosen (is_name_byte b) _ _ (Some t) e) [
  | inl (is, same) ↦
      let at : spots.Name is_param ≡ t = cc in
      let tail : NameRest is_param bs = subst (λ (s : ParseState). Tail s bs) (sym at) h in
      record {
        name = b ∷ tail.name;
        back = tail.back;
        parts = ap (λ (q : List ℕ). b ∷ q) tail.parts;
        is = tail.is b is;
        ends = tail.ends;
      }
  | inr (other, bad) ↦ absurd cc
]
tail_step (spots.Name is_param) b bs t e h = elim (chosen (eqb b 59) _ _ (Some t) e) [
  | inl (is, same) ↦
      let at : behind_type is_param ≡ t = cc in
      record {
        name = [];
        back = bs;
        parts = rw (eqb-true b 59 is) refl;
        is = λ c good. simple (last good);
        ends = ends_of is_param bs (subst (λ (s : ParseState). Tail s bs) (sym at) h);
      }
  | inr (other, e2) ↦ elim (chosen (eqb b 47) _ _ (Some t) e2) [
    | inl (is, same) ↦
        let at : spots.NameStart is_param ≡ t = cc in
        let tail : NameTail is_param bs = subst (λ (s : ParseState). Tail s bs) (sym at) h in
        record {
          name = b ∷ tail.name;
          back = tail.back;
          parts = ap (λ (q : List ℕ). b ∷ q) tail.parts;
          is = λ c good. rw (eqb-true b 47 is) (inside (last good) tail.is);
          ends = tail.ends;
        }
    | inr (no_slash, e3) ↦ elim (chosen (is_name_byte b) _ _ (Some t) e3) [
      | inl (is, same) ↦
          let at : spots.Name is_param ≡ t = cc in
          let tail : NameRest is_param bs = subst (λ (s : ParseState). Tail s bs) (sym at) h in
          record {
            name = b ∷ tail.name;
            back = tail.back;
            parts = ap (λ (q : List ℕ). b ∷ q) tail.parts;
            is = λ c good. front_byte (b ∷ tail.name) (tail.is b is) c good;
            ends = tail.ends;
          }
      | inr (bad, none_left) ↦ absurd cc
    ]
  ]
]
tail_step spots.End b bs t e h = absurd cc

read_on : (o : Option ParseState) (f : ParseState → Option ℕ) → one_more o f ≡ None → (t : ParseState) × (o ≡ Some t)
    × (f t ≡ None)
read_on None f e = absurd cc
read_on (Some t) f e = (t, refl, ended (f t) e)
  where
    ended : (o : Option ℕ) → option_map suc o ≡ None → o ≡ None
    ended None e = refl
    ended (Some n) e = absurd cc

sound : (s : ParseState) (bytes : List ℕ) → bad_at s bytes ≡ None → Tail s bytes
unfolding Tail bad_at
sound spots.End [] e = refl
sound spots.Start [] e = absurd cc
sound spots.Param [] e = absurd cc
sound spots.Result [] e = absurd cc
sound (spots.Element is_param) [] e = absurd cc
sound (spots.NameStart is_param) [] e = absurd cc
sound (spots.Name is_param) [] e = absurd cc
sound s (b ∷ bs) e = let r = read_on (after s b) (λ t. bad_at t bs) e in tail_step s b bs r.0 r.1 (sound r.0 bs r.2)

pub is_descriptor : (bytes : List ℕ) → bad_at spots.Start bytes ≡ None → (d : Parts) × IsDescriptor d bytes
unfolding Tail
is_descriptor bytes e = sound spots.Start bytes e

-- ---- a descriptor is read byte by byte

none_of : {A : Type 0} (o : Option A) (x : A) → o ≡ None → o ≡ Some x → ⊥
none_of o x e f = cc

-- a test that fails where a function has no value
pub differs : {A : Type 0} (f : ℕ → Option A) (n b : ℕ) (x : A) → f n ≡ None → f b ≡ Some x → eqb b n ≡ false
differs f n b x bad good = elim (cases_Bool (eqb b n)) [
  | inl is ↦ absurd (none_of (f n) x bad (ap f (sym (eqb-true b n is)) ∙ good))
  | inr other ↦ other
]

base_begun : (is_param : Bool) (b : ℕ) (kind : Kind) → base_kind b ≡ Some kind → type_begun is_param b
    ≡ Some (behind_type is_param)
base_begun is_param b kind good =
    rw (differs base_kind 91 b kind refl good, differs base_kind 76 b kind refl good, good) refl

-- what the first byte of a class name and the bytes behind it leave
pub byte_differs : (n b : ℕ) → is_name_byte n ≡ false → is_name_byte b ≡ true → eqb b n ≡ false
byte_differs n b bad good = elim (cases_Bool (eqb b n)) [
  | inl is ↦ let same : is_name_byte b ≡ is_name_byte n = ap is_name_byte (eqb-true b n is) in absurd cc
  | inr other ↦ other
]

after_name_byte : (is_param : Bool) (b : ℕ) → is_name_byte b ≡ true → after (spots.Name is_param) b
    ≡ Some (spots.Name is_param)
unfolding after
after_name_byte is_param b good = rw (good, byte_differs 59 b refl good, byte_differs 47 b refl good) refl

name_reads : {name : List ℕ} → IsName name → (is_param : Bool) (rest : List ℕ) → bad_at (spots.Name is_param) rest
    ≡ None → (bad_at (spots.Name is_param) (name ++ rest) ≡ None) × (bad_at (spots.NameStart is_param) (name ++ rest)
    ≡ None)
unfolding bad_at after
name_reads (last {b = b} good) is_param rest e =
    (rw (after_name_byte is_param b good, e) refl, rw (good, e) refl)
name_reads (more {b = b} good n) is_param rest e =
    let r = name_reads n is_param rest e in
    (rw (after_name_byte is_param b good, r.0) refl, rw (good, r.0) refl)

class_reads : {name : List ℕ} → IsClassName name → (is_param : Bool) (rest : List ℕ)
    → bad_at (behind_type is_param) rest ≡ None → bad_at (spots.NameStart is_param) (name ++ 59 ∷ rest) ≡ None
unfolding bad_at after
class_reads (simple {name = name} n) is_param rest e =
    let r = name_reads n is_param (59 ∷ rest) (rw e refl) in r.1
class_reads (inside {front = front} {back = back} n c) is_param rest e =
    let behind : bad_at (spots.NameStart is_param) (back ++ 59 ∷ rest) ≡ None = class_reads c is_param rest e in
    let r = name_reads n is_param (47 ∷ (back ++ 59 ∷ rest)) (rw behind refl) in
    rw append_assoc r.1

type_reads : {p : Part} {bytes : List ℕ} → IsType p bytes → (is_param : Bool) (rest : List ℕ)
    → bad_at (behind_type is_param) rest ≡ None → bad_at (spots.Element is_param) (bytes ++ rest) ≡ None
unfolding bad_at after
type_reads (base {b = b} {kind = kind} good) is_param rest e = rw (base_begun is_param b kind good, e) refl
type_reads (object {name = name} c) is_param rest e =
    let r : bad_at (spots.NameStart is_param) (name ++ 59 ∷ rest) ≡ None = class_reads c is_param rest e in
    let s : bad_at (spots.NameStart is_param) ((name ++ 59 ∷ []) ++ rest) ≡ None = rw append_assoc r in
    rw s refl
type_reads (array t) is_param rest e = let r = type_reads t is_param rest e in rw r refl

-- a type may stand where something else may stand too
begun_there : (is_param : Bool) (n b : ℕ) (x : Option ParseState) (t : ParseState) → type_begun is_param n ≡ None
    → type_begun is_param b ≡ Some t → cond (eqb b n) x (type_begun is_param b) ≡ Some t
begun_there is_param n b x t bad good = rw (differs (type_begun is_param) n b t bad good) good

type_at : (s : ParseState) (is_param : Bool) → ((b : ℕ) (t : ParseState) → type_begun is_param b ≡ Some t
    → after s b ≡ Some t) → (bytes : List ℕ) → bad_at (spots.Element is_param) bytes ≡ None → bad_at s bytes ≡ None
unfolding bad_at after
type_at s is_param there [] e = absurd cc
type_at s is_param there (b ∷ bs) e =
    let r = read_on (type_begun is_param b) (λ t. bad_at t bs) e in
    rw (there b r.0 r.1, r.2) refl

at_start : (bytes : List ℕ) → bad_at (spots.Element false) bytes ≡ None → bad_at spots.Start bytes ≡ None
unfolding after
at_start bytes e = type_at spots.Start false (λ b t. begun_there false 40 b (Some spots.Param) t refl) bytes e

at_param : (bytes : List ℕ) → bad_at (spots.Element true) bytes ≡ None → bad_at spots.Param bytes ≡ None
unfolding after
at_param bytes e = type_at spots.Param true (λ b t. begun_there true 41 b (Some spots.Result) t refl) bytes e

at_result : (bytes : List ℕ) → bad_at (spots.Element false) bytes ≡ None → bad_at spots.Result bytes ≡ None
unfolding after
at_result bytes e = type_at spots.Result false (λ b t. begun_there false 86 b (Some spots.End) t refl) bytes e

alone_reads : {p : Part} {bytes : List ℕ} → IsType p bytes → bad_at (spots.Element false) bytes ≡ None
unfolding bad_at
alone_reads {bytes = bytes} t = rw append-nil at (type_reads t false [] refl)

params_read : {ps : List Part} {bytes : List ℕ} → AreTypes ps bytes → (rest : List ℕ) → bad_at spots.Param rest ≡ None
    → bad_at spots.Param (bytes ++ rest) ≡ None
params_read none rest e = e
params_read (next {front = front} {back = back} t ts) rest e =
    rw append_assoc (at_param (front ++ (back ++ rest)) (type_reads t true (back ++ rest) (params_read ts rest e)))

result_reads : {r : Part} {bytes : List ℕ} → IsResult r bytes → bad_at spots.Result bytes ≡ None
unfolding bad_at after
result_reads (value {bytes = bytes} t) = at_result bytes (alone_reads t)
result_reads nothing = refl

pub descriptor_reads : {d : Parts} {bytes : List ℕ} → IsDescriptor d bytes → bad_at spots.Start bytes ≡ None
unfolding bad_at after
descriptor_reads (field {bytes = bytes} t) = at_start bytes (alone_reads t)
descriptor_reads (method {front = front} {back = back} ts r) =
    let e : bad_at spots.Param (front ++ 41 ∷ back) ≡ None = params_read ts (41 ∷ back) (rw (result_reads r) refl) in
    rw e refl

-- ---- where reading stops

-- bytes that end a descriptor
ending : ParseState → List ℕ
ending spots.Start = 83 ∷ []
ending spots.Param = 41 ∷ 86 ∷ []
ending spots.Result = 86 ∷ []
ending (spots.Element true) = 83 ∷ 41 ∷ 86 ∷ []
ending (spots.Element false) = 83 ∷ []
ending (spots.NameStart true) = 97 ∷ 59 ∷ 41 ∷ 86 ∷ []
ending (spots.NameStart false) = 97 ∷ 59 ∷ []
ending (spots.Name true) = 59 ∷ 41 ∷ 86 ∷ []
ending (spots.Name false) = 59 ∷ []
ending spots.End = []

ending_reads : (s : ParseState) → bad_at s (ending s) ≡ None
unfolding bad_at after ending
ending_reads spots.Start = refl
ending_reads spots.Param = refl
ending_reads spots.Result = refl
ending_reads (spots.Element true) = refl
ending_reads (spots.Element false) = refl
ending_reads (spots.NameStart true) = refl
ending_reads (spots.NameStart false) = refl
ending_reads (spots.Name true) = refl
ending_reads (spots.Name false) = refl
ending_reads spots.End = refl

-- where reading stops: at the end or at a byte, or further on
stopped_end : (s : ParseState) (k : ℕ) → end_at s 0 ≡ Some k → k ≡ 0
stopped_end spots.End k e = absurd cc
stopped_end spots.Start k e = cc
stopped_end spots.Param k e = cc
stopped_end spots.Result k e = cc
stopped_end (spots.Element p) k e = cc
stopped_end (spots.NameStart p) k e = cc
stopped_end (spots.Name p) k e = cc

stopped : (o : Option ParseState) (f : ParseState → Option ℕ) (k : ℕ) → one_more o f ≡ Some k → ((o ≡ None) × (k ≡ 0))
    ⊎ ((t : ParseState) × (j : ℕ) × (o ≡ Some t) × (f t ≡ Some j) × (k ≡ suc j))
stopped None f k e = inl (refl, cc)
stopped (Some t) f k e = let r = further (f t) e in inr (t, r.0, refl, r.1, r.2)
  where
    further : (o : Option ℕ) → option_map suc o ≡ Some k → (j : ℕ) × (o ≡ Some j) × (k ≡ suc j)
    further (Some j) e = (j, refl, cc)
    further None e = absurd cc

pub record Start (s : ParseState) (bytes : List ℕ) (k : ℕ) : Type 0 where
  pub within : k ≤ length bytes
  pub rest : List ℕ
  pub reads : bad_at s (take k bytes ++ rest) ≡ None

pub start_of : (s : ParseState) (bytes : List ℕ) (k : ℕ) → bad_at s bytes ≡ Some k → Start s bytes k
unfolding bad_at
start_of s [] k e =
    let none_read : k ≡ 0 = stopped_end s k e in
    record { within = omega arith; rest = ending s; reads = rw none_read (ending_reads s) }
start_of s (b ∷ bs) k e = elim (stopped (after s b) (λ t. bad_at t bs) k e) [
  | inl (bad, none_read) ↦ record { within = omega arith; rest = ending s; reads = rw none_read (ending_reads s) }
  | inr (t, j, on, later, is) ↦
      let r = start_of t bs j later in
      let more : j ≤ length bs = r.within in
      record { within = omega arith; rest = r.rest; reads = rw (is, on, r.reads) refl }
]

pub no_longer : (s : ParseState) (bytes : List ℕ) (k n : ℕ) (rest : List ℕ) → bad_at s bytes ≡ Some k → k < n
    → n ≤ length bytes → bad_at s (take n bytes ++ rest) ≡ None → ⊥
unfolding bad_at
no_longer s [] k n rest e lt le h = omega arith
no_longer s (b ∷ bs) k zero rest e lt le h = omega arith
no_longer s (b ∷ bs) k (suc n) rest e lt le h =
    let r = read_on (after s b) (λ t. bad_at t (take n bs ++ rest)) h in
    elim (stopped (after s b) (λ t. bad_at t bs) k e) [
      | inl (bad, none_read) ↦ none_of (after s b) r.0 bad r.1
      | inr (t, j, on, later, is) ↦
          let same : r.0 ≡ t = some_is r.0 t (sym r.1 ∙ on) in
          no_longer t bs j n rest later (omega arith) (omega arith) (subst (λ (q : ParseState). bad_at q (take n bs
          ++ rest) ≡ None) same r.2)
    ]
  where
    some_is : (x y : ParseState) → Some x ≡ Some y → x ≡ y
    some_is x y e = cc

-- ---- the loop that reads byte by byte

-- so many bytes were read before
abbrev pub shifted : ℕ → Option ℕ → Option ℕ
shifted n o = option_map (λ k. n + k) o

shifted_more : (n : ℕ) (o : Option ℕ) → shifted n (option_map suc o) ≡ shifted (n + 1) o
shifted_more n None = refl
shifted_more n (Some k) = ap Some (omega arith)

pub reads_on : (s t : ParseState) (bytes : List ℕ) (i d : ℕ) (total : Option ℕ) → after s (get_or bytes i d) ≡ Some t
    → i < length bytes
    → shifted i (bad_at s (drop i bytes)) ≡ total → shifted (i + 1) (bad_at t (drop (i + 1) bytes)) ≡ total
unfolding bad_at
reads_on s t bytes i d total on lt h =
    let step : bad_at s (drop i bytes) ≡ option_map suc (bad_at t (drop (i + 1) bytes)) =
    rw (add-one, drop-cons bytes i d lt, on) refl in
    sym (shifted_more i (bad_at t (drop (i + 1) bytes))) ∙ (ap (shifted i) (sym step) ∙ h)

pub reads_stop : (s : ParseState) (bytes : List ℕ) (i d : ℕ) (total : Option ℕ) → after s (get_or bytes i d) ≡ None
    → i < length bytes
    → shifted i (bad_at s (drop i bytes)) ≡ total → total ≡ Some i
unfolding bad_at
reads_stop s bytes i d total on lt h =
    let step : bad_at s (drop i bytes) ≡ Some 0 = rw (drop-cons bytes i d lt, on) refl in
    sym h ∙ (ap (shifted i) step ∙ ap Some (omega arith))

shifted_end : (s : ParseState) (i : ℕ) → shifted i (end_at s 0) ≡ end_at s i
shifted_end spots.End i = refl
shifted_end spots.Start i = ap Some (omega arith)
shifted_end spots.Param i = ap Some (omega arith)
shifted_end spots.Result i = ap Some (omega arith)
shifted_end (spots.Element p) i = ap Some (omega arith)
shifted_end (spots.NameStart p) i = ap Some (omega arith)
shifted_end (spots.Name p) i = ap Some (omega arith)

pub reads_end : (s : ParseState) (bytes : List ℕ) (i : ℕ) (total : Option ℕ) → length bytes ≤ i
    → shifted i (bad_at s (drop i bytes)) ≡ total → total ≡ end_at s i
unfolding bad_at
reads_end s bytes i total le h =
    let step : bad_at s (drop i bytes) ≡ end_at s 0 = rw (drop_all i bytes le) refl in
    sym h ∙ (ap (shifted i) step ∙ shifted_end s i)

pub shifted_none : (o : Option ℕ) → shifted 0 o ≡ o
shifted_none None = refl
shifted_none (Some k) = ap Some (omega arith)
