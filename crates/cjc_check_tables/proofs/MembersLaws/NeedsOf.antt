-- The greatest number of indices that is needed, one by one.
use Rattle.std.proofs.Common.{◌≡◌, ℕ, ◌+◌, ◌<◌, ◌≤◌, ◌==◌, Bool, true, false, List, [], ◌∷◌, length, get_or, drop, refl}
use Rattle.std.proofs.Common.{sym, ap, ◌∙◌, arith, Option, Some}
use Rattle.std.specs.Prelude.{◌||◌, ◌&&◌, not, nat_le, nat_lt, nat_eq, if◌then◌else◌, cond, unwrap_or}
use Rattle.std.specs.List.{list_all}
use Rattle.std.proofs.lemmas.Bool.Decides.{nat_tests}
use Rattle.std.proofs.lemmas.List.{drop_more, drop_all}
use Rattle.cjc_capread.specs.declared.tree.ClassDescriptor.{ClassDescriptor}
use Rattle.cjc_capread.specs.declared.tree.MethodDescriptor.{MethodDescriptor}
use Rattle.cjc_capread.specs.ClassRefs.{is_inside}
use Rattle.cjc_check_rules.specs.Tables.{holds_tokens}
use Rattle.cjc_check_tables.specs.Members.Working.Needs.{greater, need_of, need_of_method, need_of_methods}
use Rattle.cjc_capread.proofs.BytesBools.{bool_either}

-- ---- the greater of two

pub greater_none : (a : ℕ) → greater a 0 ≡ a
greater_none a = let f : nat_lt a 0 ≡ false = grind (arith, nat_tests) in ap (λ b. if b then 0 else a) f

pub none_greater : (a : ℕ) → greater 0 a ≡ a
none_greater a = bool_either (nat_lt 0 a) (λ t. ap (λ b. if b then a else 0) t) (λ f. let z : 0 ≡ a = grind (
  arith,
  nat_tests,
  f,
) in ap (λ b. if b then a else 0) f ∙ z)

greater_high : (a b : ℕ) → a ≤ b → greater a b ≡ b
greater_high a b le = bool_either (nat_lt a b)
    (λ t. ap (λ x. if x then b else a) t)
    (λ f. let e : a ≡ b = grind (arith, nat_tests, f, le) in ap (λ x. if x then b else a) f ∙ e)

greater_low : (a b : ℕ) → b ≤ a → greater a b ≡ a
greater_low a b le = let f : nat_lt a b ≡ false = grind (arith, nat_tests, le) in ap (λ x. if x then b else a) f

pub greater_assoc : (a b c : ℕ) → greater (greater a b) c ≡ greater a (greater b c)
greater_assoc a b c = bool_either (nat_le a b)
    (λ ab.
    let le : a ≤ b = grind (arith, nat_tests, ab) in
    ap (λ n. greater n c) (greater_high a b le) ∙ bool_either (nat_le b c)
    (λ bc.
    let h : b ≤ c = grind (arith, nat_tests, bc) in
    greater_high b c h ∙ sym (greater_high a c (omega (arith, le, h))) ∙ ap (greater a) (sym (greater_high b c h)))
    (λ bc.
    let h : c ≤ b = grind (arith, nat_tests, bc) in
    greater_low b c h ∙ sym (greater_high a b le) ∙ ap (greater a) (sym (greater_low b c h))))
    (λ ab.
    let le : b ≤ a = grind (arith, nat_tests, ab) in
    ap (λ n. greater n c) (greater_low a b le) ∙ bool_either (nat_le b c)
    (λ bc.
    let h : b ≤ c = grind (arith, nat_tests, bc) in
    ap (greater a) (sym (greater_high b c h)))
    (λ bc.
    let h : c ≤ b = grind (arith, nat_tests, bc) in
    greater_low a c (omega (arith, le, h)) ∙ sym (greater_low a b le) ∙ ap (greater a) (sym (greater_low b c h))))

-- ---- loops

pub methods_more : (i : ℕ) (d : MethodDescriptor) (ms : List MethodDescriptor) (done next total : ℕ) → i < length ms
    → next ≡ greater done (need_of_method (get_or ms i d))
    → greater done (need_of_methods (drop i ms)) ≡ total → greater next (need_of_methods (drop (i + 1) ms)) ≡ total
methods_more i d ms done next total lt n so_far =
    let rest = need_of_methods (drop (i + 1) ms) in
    ap (λ k. greater k rest) n ∙ greater_assoc done (need_of_method (get_or ms i d)) rest
    ∙ ap (λ (xs : List MethodDescriptor). greater done (need_of_methods xs)) (sym (drop_more ms i d lt)) ∙ so_far

pub methods_all : (i : ℕ) (ms : List MethodDescriptor) (done total : ℕ) → length ms ≤ i
    → greater done (need_of_methods (drop i ms)) ≡ total → done ≡ total
methods_all i ms done total le so_far = sym (greater_none done)
    ∙ ap (λ (xs : List MethodDescriptor). greater done (need_of_methods xs)) (sym (drop_all i ms le)) ∙ so_far

pub classes_more : (i : ℕ) (x : ClassDescriptor) (ds : List ClassDescriptor) (o done next total : ℕ) → i < length ds
    → x ≡ get_or ds i x
    → next ≡ greater done (if is_inside x.this_class o then need_of_methods x.methods else 0)
    → greater done (need_of (drop i ds) o) ≡ total → greater next (need_of (drop (i + 1) ds) o) ≡ total
classes_more i x ds o done next total lt is n so_far =
    let d : drop i ds ≡ x ∷ drop (i + 1) ds = drop_more ds i x lt ∙ ap (λ (y : ClassDescriptor). y ∷ drop (i + 1) ds)
    (sym is) in
    let rest = need_of (drop (i + 1) ds) o in
    ap (λ k. greater k rest) n ∙ greater_assoc done (if is_inside x.this_class o then need_of_methods x.methods
    else 0) rest
    ∙ ap (λ (xs : List ClassDescriptor). greater done (need_of xs o)) (sym d) ∙ so_far

pub classes_all : (i : ℕ) (ds : List ClassDescriptor) (o done total : ℕ) → length ds ≤ i
    → greater done (need_of (drop i ds) o) ≡ total → done ≡ total
classes_all i ds o done total le so_far = sym (greater_none done)
    ∙ ap (λ (xs : List ClassDescriptor). greater done (need_of xs o)) (sym (drop_all i ds le)) ∙ so_far

-- ---- one offset

pub need_put : (a b : Option ℕ) (offset x need most : ℕ) (c : Option ℕ) → most ≡ greater (unwrap_or c 0) need
    → (offset ≡ x → c ≡ a) → b ≡ cond (nat_eq offset x) (Some most) a
    → unwrap_or b 0 ≡ greater (unwrap_or a 0) (if offset == x then need else 0)
need_put a b offset x need most c m same e = bool_either (offset == x)
    (λ t.
    let is : offset ≡ x = grind (arith, nat_tests, t) in
    ap (λ (o : Option ℕ). unwrap_or o 0) (e ∙ ap (λ k. cond k (Some most) a) t) ∙ m
    ∙ ap (λ (o : Option ℕ). greater (unwrap_or o 0) need) (same is)
    ∙ ap (λ k. greater (unwrap_or a 0) (if k then need else 0)) (sym t))
    (λ f.
    ap (λ (o : Option ℕ). unwrap_or o 0) (e ∙ ap (λ k. cond k (Some most) a) f) ∙ sym (greater_none (unwrap_or a 0))
    ∙ ap (λ k. greater (unwrap_or a 0) (if k then need else 0)) (sym f))

-- ---- long enough

both_le : (a b count : ℕ) → nat_le (greater a b) count ≡ (nat_le a count && nat_le b count)
both_le a b count = bool_either (nat_lt a b)
    (λ t.
    ap (λ k. nat_le (if k then b else a) count) t ∙ bool_either (nat_le b count)
    (λ le. let l : nat_le a count ≡ true = grind (arith, nat_tests, t, le) in le ∙ sym (ap (λ k. k && nat_le b count) l
    ∙ le))
    (λ gt. gt ∙ sym (ap (λ k. nat_le a count && k) gt ∙ and_false (nat_le a count))))
    (λ f.
    ap (λ k. nat_le (if k then b else a) count) f ∙ bool_either (nat_le a count)
    (λ le. let l : nat_le b count ≡ true = grind (arith, nat_tests, f, le) in le ∙ sym (ap (λ k. k && nat_le b count) le
    ∙ l))
    (λ gt. gt ∙ sym (ap (λ k. k && nat_le b count) gt)))
  where
    and_false : (k : Bool) → (k && false) ≡ false
    and_false true = refl
    and_false false = refl

one_holds : (m : MethodDescriptor) (count : ℕ) → (m.token == 0xFF || nat_lt m.token count) ≡ nat_le (need_of_method m)
    count
one_holds m count = bool_either (m.token == 0xFF)
    (λ t. let z : nat_le 0 count ≡ true = grind (arith, nat_tests) in ap (λ b. b || nat_lt m.token count) t
    ∙ sym (ap (λ b. nat_le (if b then 0 else m.token + 1) count) t ∙ z))
    (λ f.
    let s : nat_lt m.token count ≡ nat_le (m.token + 1) count = less m.token count in
    ap (λ b. b || nat_lt m.token count) f ∙ s ∙ sym (ap (λ b. nat_le (if b then 0 else m.token + 1) count) f))
  where
    less : (a b : ℕ) → nat_lt a b ≡ nat_le (a + 1) b
    less a b = bool_either (nat_lt a b)
        (λ t. let u : nat_le (a + 1) b ≡ true = grind (arith, nat_tests, t) in t ∙ sym u)
        (λ t. let u : nat_le (a + 1) b ≡ false = grind (arith, nat_tests, t) in t ∙ sym u)

all_hold : (ms : List MethodDescriptor) (count : ℕ) → list_all (λ m. m.token == 0xFF || nat_lt m.token count) ms
    ≡ nat_le (need_of_methods ms) count
all_hold [] count = let z : nat_le 0 count ≡ true = grind (arith, nat_tests) in sym z
all_hold (m ∷ ms) count =
    ap (λ b. b && list_all (λ x. x.token == 0xFF || nat_lt x.token count) ms) (one_holds m count)
    ∙ ap (λ b. nat_le (need_of_method m) count && b) (all_hold ms count)
    ∙ sym (both_le (need_of_method m) (need_of_methods ms) count)

one_class : (d : ClassDescriptor) (o count : ℕ) → (not (is_inside d.this_class o) || holds_tokens count d)
    ≡ nat_le (if is_inside d.this_class o then need_of_methods d.methods else 0) count
one_class d o count = bool_either (is_inside d.this_class o)
    (λ t. ap (λ b. not b || holds_tokens count d) t ∙ all_hold d.methods count
    ∙ sym (ap (λ b. nat_le (if b then need_of_methods d.methods else 0) count) t))
    (λ f.
    let z : nat_le 0 count ≡ true = grind (arith, nat_tests) in
    ap (λ b. not b || holds_tokens count d) f ∙ sym (ap (λ b. nat_le (if b then need_of_methods d.methods else 0) count)
    f ∙ z))

pub long_enough : (ds : List ClassDescriptor) (o count : ℕ) → list_all (λ d. not (is_inside d.this_class o)
    || holds_tokens count d) ds ≡ nat_le (need_of ds o) count
long_enough [] o count = let z : nat_le 0 count ≡ true = grind (arith, nat_tests) in sym z
long_enough (d ∷ ds) o count =
    ap (λ b. b && list_all (λ x. not (is_inside x.this_class o) || holds_tokens count x) ds) (one_class d o count)
    ∙ ap (λ b. nat_le (if is_inside d.this_class o then need_of_methods d.methods else 0) count
    && b) (long_enough ds o count)
    ∙ sym (both_le (if is_inside d.this_class o then need_of_methods d.methods else 0) (need_of ds o) count)
