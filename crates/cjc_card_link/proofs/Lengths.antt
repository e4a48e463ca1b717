-- The lengths of methods, kept one by one.
use Rattle.std.proofs.Common.{◌≡◌, ℕ, ◌<◌, ◌≤◌, ◌^◌, ◌+◌, List, [], ◌∷◌, length, get_or, drop, refl, sym, ap, ◌∙◌, Bool}
use Rattle.std.proofs.Common.{true, false, Option, Some, None, subst, arith}
use Rattle.std.specs.Prelude.{option_map, option_and_then, if◌then◌else◌, ◌==◌}
use Rattle.cjc_card_semantics.specs.CapRead.declared.tree.ClassDescriptor.{ClassDescriptor}
use Rattle.cjc_card_semantics.specs.CapRead.declared.tree.ClassRef.{ClassRef}
use Rattle.cjc_card_semantics.specs.CapRead.declared.tree.ClassRef.TheVariants.{Inside, Outside}
use Rattle.cjc_card_semantics.specs.CapRead.declared.tree.MethodDescriptor.{MethodDescriptor}
use Rattle.cjc_card_semantics.specs.CapRead.MethodHeader.{MethodHeader, method_header, extended_header, short_header}
use Rattle.cjc_card_semantics.specs.CapRead.MethodHeader.{is_extended}
use Rattle.cjc_card_semantics.specs.Machine.Loaded.{Part}
use Rattle.cjc_card_frame.specs.Codes.{bytes_at}
use Rattle.cjc_card_semantics.specs.Machine.Classes.{or_else}
use Rattle.cjc_card_semantics.specs.Machine.Methods.{is_class_at, method_among, described, bytes_from, methods_begin}
use Rattle.cjc_card_semantics.specs.Machine.Methods.{start_at, start_in}
use Rattle.cjc_card_link.specs.declared.indices.Numbers.{Numbers}
use Rattle.cjc_card_link.specs.Indices.{number_under}
use Rattle.cjc_card_link.proofs.OrElse.{note_more}
use Rattle.cjc_card_link.specs.Described.{is_class_ref, bytes_of, bytes_among, started, AreSmall}
use Rattle.cjc_check_index.proofs.BytesNumbers.{number_same, some_same}

-- one method, then the others
by_test : (b : Bool) (m : MethodDescriptor) (rest : Option MethodDescriptor)
    → option_map bytes_of (if b then Some m else rest) ≡ or_else (if b then Some (bytes_of m)
    else None) (option_map bytes_of rest)
by_test true m rest = refl
by_test false m rest = refl

pub one_method : (x : ℕ) (m : MethodDescriptor) (ms : List MethodDescriptor)
    → option_map bytes_of (method_among (m ∷ ms) x) ≡ or_else (if m.offset == x then Some m.bytecode_count
    else None) (option_map bytes_of (method_among ms x))
one_method x m ms = by_test (m.offset == x) m (method_among ms x)

pub methods_more : (x i : ℕ) (d : MethodDescriptor) (ms : List MethodDescriptor) (old new total : Option ℕ)
    → i < length ms
    → new ≡ or_else old (let m = get_or ms i d in if m.offset == x then Some m.bytecode_count else None)
    → or_else old (option_map bytes_of (method_among (drop i ms) x)) ≡ total
    → or_else new (option_map bytes_of (method_among (drop (i + 1) ms) x)) ≡ total
methods_more x i d ms old new total lt noted so_far =
    note_more (λ n ms. option_map bytes_of (method_among ms x)) (λ n m. if m.offset == x then Some m.bytecode_count
    else None) (λ n. one_method x)
    i (get_or ms i d) d ms old new total lt refl noted so_far

small_by : (b : Bool) (x n offset count : ℕ) (old : Option ℕ) → (b ≡ true → offset ≡ x) → offset < 2 ^ 30
    → count < 2 ^ 30
    → (old ≡ Some n → (x < 2 ^ 30) × (n < 2 ^ 30)) → or_else old (if b then Some count else None) ≡ Some n
    → (x < 2 ^ 30) × (n < 2 ^ 30)
small_by b x n offset count (Some k) same low few before e = before e
small_by true x n offset count None same low few before e = (
  subst (λ y. y < 2 ^ 30) (same refl) low,
  subst (λ y. y < 2 ^ 30) (some_same count n e) few,
)
small_by false x n offset count None same low few before e = absurd (cc)

pub small_more : (old new : Numbers) (offset count : ℕ) → offset < 2 ^ 30 → count < 2 ^ 30 → AreSmall old
    → ((x : ℕ) → number_under new x ≡ or_else (number_under old x) (if offset == x then Some count else None))
    → AreSmall new
small_more old new offset count low few before noted x n e =
    small_by (offset == x) x n offset count (number_under old x) (number_same offset x) low few (before x n)
    (sym (noted x) ∙ e)

-- the length of the method that is described at an offset
same_ref : (part : Part) (r : ClassRef) → is_class_ref part.class r ≡ is_class_at part r
same_ref part (Inside offset) = refl
same_ref part (Outside «package» token) = refl

by_class : (b : Bool) (found rest : Option MethodDescriptor)
    → or_else (if b then option_map bytes_of found else None) (option_map bytes_of rest) ≡ option_map bytes_of (if b
    then or_else found rest else rest)
by_class true None rest = refl
by_class true (Some m) rest = refl
by_class false found rest = refl

pub length_described : (part : Part) (ds : List ClassDescriptor) (x : ℕ) → bytes_among part.class ds x
    ≡ option_map bytes_of (described part ds x)
length_described part [] x = refl
length_described part (d ∷ ds) x =
    ap (λ b. or_else (if b then option_map bytes_of (method_among d.methods x) else None) (bytes_among part.class ds x))
    (same_ref part d.this_class)
    ∙ ap (λ (o : Option ℕ). or_else (if is_class_at part d.this_class
    then option_map bytes_of (method_among d.methods x) else None) o) (length_described part ds x)
    ∙ by_class (is_class_at part d.this_class) (method_among d.methods x) (described part ds x)

-- ---- where a method begins

abbrev pub head_size : Option MethodHeader → ℕ
head_size None = 0
head_size (Some h) = h.size

by_flag : (b : Bool) (first second : ℕ) (rest : List ℕ) → head_size (if b then extended_header first second rest
    else Some (short_header first second)) ≤ 4
by_flag true first second [] = let e : 0 ≤ 4 = omega arith in e
by_flag true first second (n ∷ []) = let e : 0 ≤ 4 = omega arith in e
by_flag true first second (n ∷ m ∷ rest) = let e : 4 ≤ 4 = omega arith in e
by_flag false first second rest = let e : 2 ≤ 4 = omega arith in e

most : (bytes : List ℕ) → head_size (method_header bytes) ≤ 4
most [] = let e : 0 ≤ 4 = omega arith in e
most (first ∷ []) = let e : 0 ≤ 4 = omega arith in e
most (first ∷ second ∷ rest) = by_flag (is_extended first) first second rest

pub header_is_short : (bytes : List ℕ) (h : MethodHeader) → Some h ≡ method_header bytes → h.size ≤ 4
header_is_short bytes h e = subst (λ n. n ≤ 4) (sym (ap head_size e)) (most bytes)

started_by : (p : ℕ) (o : ℕ) (h : MethodHeader) (m : Option MethodDescriptor)
    → option_map (λ n. started p o h n) (option_map bytes_of m) ≡ option_map (start_at p o h) m
started_by p o h None = refl
started_by p o h (Some m) = refl

-- by its header and its length, as they are looked up
pub start_found : (p : ℕ) (part : Part) (o : ℕ) (header : Option MethodHeader) (bytes : Option ℕ)
    → header ≡ method_header (bytes_from part o) → bytes ≡ bytes_among part.class part.descriptor o
    → option_and_then (λ h. option_map (started p o h) bytes) header ≡ start_in p o part
start_found p part o header bytes e f =
    ap (λ (b : Option ℕ). option_and_then (λ h. option_map (started p o h) b) header) (f
    ∙ length_described part part.descriptor o)
    ∙ ap (option_and_then (λ h. option_map (started p o h) (option_map bytes_of (described part part.descriptor o)))) e
    ∙ by (method_header (bytes_from part o)) where
      by : (header : Option MethodHeader)
          → option_and_then (λ h. option_map (started p o h) (option_map bytes_of (described part part.descriptor o)))
          header
          ≡ option_and_then (λ h. option_map (start_at p o h) (described part part.descriptor o)) header
      by None = refl
      by (Some h) = started_by p o h (described part part.descriptor o)

pub header_here : (part : Part) (o begin : ℕ) (methods bytes : List ℕ) (header : Option MethodHeader)
    → methods ≡ part.method.methods → begin ≡ methods_begin part
    → bytes ≡ bytes_at methods begin o → header ≡ method_header bytes → header ≡ method_header (bytes_from part o)
header_here part o begin methods bytes header ms b is e =
    e ∙ ap method_header (is ∙ ap (λ (xs : List ℕ). bytes_at xs begin o) ms ∙ ap (λ n. bytes_at part.method.methods n o)
    b)
