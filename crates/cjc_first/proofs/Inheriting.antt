-- What a class gets from java/lang/Object of an export file that can be written.
use Rattle.std.proofs.Common.{◌≡◌, ℕ, zero, suc, ◌+◌, ◌-◌, ◌*◌, ◌≤◌, ◌<◌, Bool, true, false, cond, List, [], ◌∷◌, ◌++◌, Option, Some, None, length, refl, sym, ap, subst, ◌∙◌, arith, append_assoc, append-nil}
use Rattle.std.specs.Prelude.{not, max, ◌==◌, ◌&&◌, ◌||◌, nat_lt, nat_le, option_to_list, if◌then◌else◌}
use Rattle.std.specs.List.{find, flat_map, AllByRecursion}
use Rattle.std.specs.Str.{bytes_eq}
use Rattle.std.proofs.lemmas.Bool.Decides.{nat_tests}
use Rattle.std.proofs.lemmas.List.{length-append}
use Rattle.cjc_export.specs.Pool.{aid_length}
use Rattle.cjc_export.specs.Members.{same_bool, is_unbound, method_token_taken, method_token_wrong}
use Rattle.cjc_export.specs.Writable.{EachAfter, MethodFits, MethodStands, ClassFits, IsWritable}
use Rattle.cjc_export.specs.Written.{method_needs}
use Rattle.cjc_export.specs.declared.tree.ExportMethod.{ExportMethod}
use Rattle.cjc_export.specs.declared.tree.ExportClass.{ExportClass}
use Rattle.cjc_export.specs.declared.tree.ExportTree.{ExportTree}
use Rattle.cjc_first.specs.FirstForm.{object}
use Rattle.cjc_first.specs.Above.{is_virtual, takes_token, free_token, is_inherited, with_token, by_token}
use Rattle.cjc_first.specs.Above.{IsRoot}
use Rattle.cjc_first.specs.Tests.{IsSmallImport}

-- ---- tests

pub and_true : (a b : Bool) → (a && b) ≡ true → (a ≡ true) × (b ≡ true)
and_true true b e = (refl, e)
and_true false b e = absurd cc

or_false : (a b : Bool) → (a || b) ≡ false → (a ≡ false) × (b ≡ false)
or_false true b e = absurd cc
or_false false b e = (refl, e)

not_true : (b : Bool) → not b ≡ true → b ≡ false
not_true true e = absurd cc
not_true false e = refl

and_false : (b : Bool) → (b && false) ≡ false
and_false true = refl
and_false false = refl

-- ---- what is found

pub find_all : {A : Type 0} (P : A → Type 0) (p : A → Bool) (xs : List A) (x : A) → AllByRecursion P xs → find p xs ≡ Some x → P x × (p x ≡ true)
find_all P p [] x all e = absurd cc
find_all {A} P p (y ∷ ys) x all e = by (p y) refl e (find_all P p ys x all.1)
  where
    by : (b : Bool) → p y ≡ b → cond b (Some y) (find p ys) ≡ Some x → (find p ys ≡ Some x → P x × (p x ≡ true)) → P x × (p x ≡ true)
    by true is f more = let same : y ≡ x = cc in subst (λ (v : A). P v × (p v ≡ true)) same (all.0, is)
    by false is f more = more f

found_after : {A : Type 0} (P : List A → A → Type 0) (p : A → Bool) (before xs : List A) (x : A) → EachAfter P before xs → find p xs ≡ Some x → (front : List A) × P front x
found_after P p before [] x each e = absurd cc
found_after {A} P p before (y ∷ ys) x each e = by (p y) e (found_after P p (before ++ y ∷ []) ys x each.1)
  where
    by : (b : Bool) → cond b (Some y) (find p ys) ≡ Some x → (find p ys ≡ Some x → (front : List A) × P front x) → (front : List A) × P front x
    by true f more = let same : y ≡ x = cc in (before, subst (λ (v : A). P before v) same each.0)
    by false f more = more f

each_fits : (k : ℕ) (before ms : List ExportMethod) → EachAfter (MethodStands false k) before ms → AllByRecursion MethodFits ms
each_fits k before [] each = tt
each_fits k before (m ∷ ms) each = (each.0.0, each_fits k (before ++ m ∷ []) ms each.1)

-- ---- the next free token

-- the token of a virtual method is at most 127
virtual_low : (before : List ExportMethod) (m : ExportMethod) → is_virtual m ≡ true → method_token_wrong before (is_unbound m.flags m.name) m.token ≡ false → m.token ≤ 127
virtual_low before m virtual wrong =
    let bound = not_true (is_unbound m.flags m.name) virtual in
    let here : method_token_wrong before false m.token ≡ false = ap (λ u. method_token_wrong before u m.token) (sym bound) ∙ wrong in
    let both = or_false (method_token_taken before false m.token) (nat_lt 127 m.token) here in
    let high = both.1 in
    grind (arith, nat_tests)

free_low : (k : ℕ) (before ms : List ExportMethod) → EachAfter (MethodStands false k) before ms → free_token ms ≤ 128
free_low k before [] each = omega arith
free_low k before (m ∷ ms) each = by (takes_token m) refl (free_low k (before ++ m ∷ []) ms each.1)
  where
    by : (b : Bool) → takes_token m ≡ b → free_token ms ≤ 128 → (if b then max (m.token + 1) (free_token ms) else free_token ms) ≤ 128
    by true takes rest = let low = virtual_low before m (and_true (is_virtual m) _ takes).0 each.0.1 in omega (arith, low, rest)
    by false takes rest = rest

-- ---- the inherited methods can stand behind others

-- No virtual method of these has a token from this one on.
abbrev pub AreBelow : List ExportMethod → ℕ → Type 0
AreBelow before token = (t : ℕ) → token ≤ t → method_token_taken before false t ≡ false

taken_more : (before : List ExportMethod) (m : ExportMethod) (t : ℕ) → method_token_taken before false t ≡ false → (m.token == t) ≡ false → method_token_taken (before ++ m ∷ []) false t ≡ false
taken_more [] m t h e = rw e refl
taken_more (x ∷ xs) m t h e =
    let both = or_false ((x.token == t) && same_bool false (is_unbound x.flags x.name)) (method_token_taken xs false t) h in
    rw (both.0, taken_more xs m t both.1 e) refl

not_wrong : (before : List ExportMethod) (m : ExportMethod) (token : ℕ) → is_inherited m ≡ true → m.token ≡ token → token ≤ 127 → AreBelow before token → method_token_wrong before (is_unbound m.flags m.name) m.token ≡ false
not_wrong before m token inherits is low below =
    let bound = not_true (is_unbound m.flags m.name) (and_true (is_virtual m) _ inherits).0 in
    let high : nat_lt 127 m.token ≡ false = grind (arith, nat_tests) in
    ap (λ u. method_token_wrong before u m.token) bound ∙ ap (λ x. x || nat_lt 127 m.token) (below m.token (omega arith)) ∙ high

other : (a b : ℕ) → a < b → (a == b) ≡ false
other a b lt = grind (arith, nat_tests)

pub stand_by_token : (k count token : ℕ) (before ms : List ExportMethod) → token + count ≤ 128 → AllByRecursion MethodFits ms → AreBelow before token → EachAfter (MethodStands false k) before (by_token count token ms)
unfolding by_token
stand_by_token k zero token before ms le fits below = tt
stand_by_token k (suc count) token before ms le fits below =
    by (find (λ m. is_inherited m && m.token == token) ms) refl (λ front. stand_by_token k count (token + 1) front ms (omega (arith, le)) fits)
  where
    by : (o : Option ExportMethod) → find (λ m. is_inherited m && m.token == token) ms ≡ o → ((front : List ExportMethod) → AreBelow front (token + 1) → EachAfter (MethodStands false k) front (by_token count (token + 1) ms))
        → EachAfter (MethodStands false k) before (option_to_list o ++ by_token count (token + 1) ms)
    by None e more = more before (λ t l. below t (omega (arith, l)))
    by (Some m) e more =
        let found = find_all MethodFits (λ x. is_inherited x && x.token == token) ms m fits e in
        let both = and_true (is_inherited m) (m.token == token) found.1 in
        let test = both.1 in
        let same : m.token ≡ token = grind (arith, nat_tests) in
        let later : AreBelow (before ++ m ∷ []) (token + 1) = λ t l. taken_more before m t (below t (omega (arith, l))) (other m.token t (omega (arith, same, l))) in
        ((found.0, not_wrong before m token both.0 same (omega (arith, le)) below), more (before ++ m ∷ []) later)

-- ---- writing them

by_token-next : (t : ℕ) (ms : List ExportMethod) → t < 128 → by_token (128 - t) t ms ≡ with_token t ms ++ by_token (128 - (t + 1)) (t + 1) ms
unfolding by_token
by_token-next t ms lt = let e : 128 - t ≡ suc (128 - (t + 1)) = omega arith in ap (λ n. by_token n t ms) e

-- after the method of a token those of the later ones are left
pub put_more : (front new : List ExportMethod) (t : ℕ) (ms all : List ExportMethod) → t < 128 → front ++ by_token (128 - t) t ms ≡ all → new ≡ front ++ with_token t ms → new ++ by_token (128 - (t + 1)) (t + 1) ms ≡ all
put_more front new t ms all lt e is =
    let rest = by_token (128 - (t + 1)) (t + 1) ms in
    ap (λ xs. xs ++ rest) is ∙ append_assoc front (with_token t ms) rest ∙ ap (λ xs. front ++ xs) (sym (by_token-next t ms lt)) ∙ e

pub put_all : (front : List ExportMethod) (t : ℕ) (ms all : List ExportMethod) → 128 ≤ t → front ++ by_token (128 - t) t ms ≡ all → front ≡ all
unfolding by_token
put_all front t ms all le e =
    let none : 128 - t ≡ 0 = omega arith in
    sym (append-nil front) ∙ ap (λ n. front ++ by_token n t ms) (sym none) ∙ e

option_short : {A : Type 0} (o : Option A) → length (option_to_list o) ≤ 1
option_short None = omega arith
option_short (Some x) = omega arith

pub length-by_token : (count token : ℕ) (ms : List ExportMethod) → length (by_token count token ms) ≤ count
unfolding by_token
length-by_token zero token ms = omega arith
length-by_token (suc count) token ms =
    let o = find (λ m. is_inherited m && m.token == token) ms in
    let rest = length-by_token count (token + 1) ms in
    omega (arith, length-append (option_to_list o) (by_token count (token + 1) ms), option_short o, rest)

pub length-method_needs : (ms : List ExportMethod) → length (flat_map method_needs ms) ≡ 2 * length ms
length-method_needs [] = refl
length-method_needs (m ∷ ms) = let rest = length-method_needs ms in omega (arith, rest)

-- a static method is no virtual one
pub static_below : (m : ExportMethod) → is_unbound m.flags m.name ≡ true → AreBelow (m ∷ []) 0
static_below m unbound t le =
    ap (λ u. ((m.token == t) && same_bool false u) || false) unbound ∙ ap (λ x. x || false) (and_false (m.token == t))

-- ---- an export file that was read

aid_short : (n : ℕ) → aid_length n ≡ Some n → n ≤ 16
aid_short n e = by (nat_le 5 n && nat_le n 16) refl e
  where
    by : (b : Bool) → (nat_le 5 n && nat_le n 16) ≡ b → (if b then Some n else None) ≡ Some n → n ≤ 16
    by true is f = let high = (and_true (nat_le 5 n) (nat_le n 16) is).1 in grind (arith, nat_tests)
    by false is f = absurd cc

pub root_class : (lang : ExportTree) (root : ExportClass) → IsWritable lang → IsRoot lang root → (front : List ExportClass) × ClassFits front root
root_class lang root fits is = found_after ClassFits (λ c. bytes_eq c.name object) [] lang.classes root fits.classes is.named

pub small_import : (lang : ExportTree) (root : ExportClass) → IsWritable lang → IsRoot lang root → IsSmallImport lang root
small_import lang root fits is =
    let class = root_class lang root fits is in
    let methods : EachAfter (MethodStands false (length root.methods)) [] root.methods = subst (λ (b : Bool). EachAfter (MethodStands b (length root.methods)) [] root.methods) is.is_class class.1.methods in
    record {
      aid = let short = aid_short (length lang.aid) fits.aid in omega (arith, short);
      token = let token = class.1.token in omega (arith, token);
      free = let low = free_low (length root.methods) [] root.methods methods in omega (arith, low);
      methods = each_fits (length root.methods) [] root.methods methods;
    }
