-- The tokens of an exported class's fields.
use Rattle.std.proofs.Common.{◌≡◌, ℕ, zero, suc, ◌+◌, ◌<◌, ◌≤◌, refl, sym, ap, ◌∙◌, Bool, true, false, List, [], ◌∷◌}
use Rattle.std.proofs.Common.{take, cond, arith, inl, inr, Option, Some}
use Rattle.std.specs.Prelude.{◌⊎◌, slice_get, option_and_then, unwrap_or, nat_lt, ◌==◌, ◌&&◌, ◌||◌, count_by}
use Rattle.std.specs.Prelude.{if◌then◌else◌}
use Rattle.std.proofs.lemmas.List.Sums.{sum_by-cons}
use Rattle.std.proofs.lemmas.Bool.{cases_order}
use Rattle.std.proofs.lemmas.Bool.Decides.{nat_tests}
use Rattle.cjc_world.specs.Bytes.declared.settings.FileLine.{FileLine}
use Rattle.cjc_world.specs.Bytes.Order.{file_of}
use Rattle.cjc_world.specs.ClassFile.declared.tree.ClassTree.{ClassTree}
use Rattle.cjc_world.specs.ClassFile.declared.tree.FieldTree.{FieldTree}
use Rattle.cjc_world.specs.Classes.{Class, declared}
use Rattle.cjc_world.specs.Exported.{is_exported}
use Rattle.cjc_world.specs.Lookup.{member_at}
use Rattle.cjc_components.specs.LowerTokens.Fields.{cells, cells_of, field_token, field_tokens, group, instance_cells}
use Rattle.cjc_components.specs.LowerTokens.Fields.{instance_token}
use Rattle.cjc_components.specs.LowerTokens.Fields.{is_instance, is_open_static}
use Rattle.cjc_components.specs.LowerTokens.Tokens.{OfClass, assigned, joined, method_tokens}
use Rattle.cjc_components.specs.LowerTokens.Rules.{at_class, breaks_from, breaks_where, has_high_token, token_breaks}
use Rattle.cjc_components.proofs.TokensSums.{some_cells, cells-cons}
use Rattle.cjc_components.specs.Package.{Package, has_applets, world}
use Rattle.cjc_components.specs.Names.{member_token}
use Rattle.cjc_exported.proofs.ExportLaws.Own.{IsOwn}
use Rattle.cjc_world.proofs.BytesLists.{none_left, none_right}
use Rattle.cjc_world.proofs.BytesGets.{in_front}
use Rattle.cjc_components.proofs.TokensMeans.{kept-at}

-- ---- where a token stands

field_row : (exported : Bool) (fs : List FieldTree) (i : ℕ) (rest : List FieldTree) (k : ℕ) (f : FieldTree)
    → slice_get rest k ≡ Some f → slice_get (field_tokens exported fs i rest) k
    ≡ Some (field_token exported fs (i + k) f)
unfolding field_tokens
field_row exported fs i [] k f e = cc
field_row exported fs i (g ∷ rest) zero f e =
    let same : g ≡ f = cc in
    let z : i ≡ i + 0 = omega arith in
    ap (λ (x : FieldTree). Some (field_token exported fs i x)) same ∙ ap (λ j. Some (field_token exported fs j f)) z
field_row exported fs i (g ∷ rest) (suc k) f e =
    let s : i + 1 + k ≡ i + suc k = omega arith in
    field_row exported fs (i + 1) rest k f e ∙ ap (λ j. Some (field_token exported fs j f)) s

pub field_has : (p : Package) (c : Class) (own : IsOwn p c) (k : ℕ) (f : FieldTree)
    → (let t = own.tree in slice_get t.fields k ≡ Some f) → member_token p (Some (member_at c k)) ≡ (let t = own.tree
    in unwrap_or (field_token true t.fields k f) 0xFF)
unfolding assigned
field_has p c own k f at =
    let t = own.tree in
    let n = own.number in
    let files = p.files in
    let w = world p in
    let applets = has_applets p in
    let r = kept-at files applets n t own.is_tree in
    let row = r.1 in
    let zk : 0 + k ≡ k = omega arith in
    let exported : is_exported w applets (declared n t) ≡ true = ap (is_exported w applets) (sym own.is)
    ∙ own.exported in
    let front = field_row (is_exported w applets (declared n t)) t.fields 0 t.fields k f at in
    let member = in_front (field_tokens (is_exported w applets (declared n t)) t.fields 0 t.fields)
    (method_tokens w (is_exported w applets (declared n t)) (declared n t)) k _ front in
    ap (λ (d : Class). member_token p (Some (member_at d k))) own.is
    ∙ ap (λ (o : Option OfClass). unwrap_or (option_and_then (λ (x : OfClass). joined (slice_get x.members k)) o) 0xFF)
    row
    ∙ ap (λ (o : Option (Option ℕ)). unwrap_or (joined o) 0xFF) member
    ∙ ap (λ j. unwrap_or (field_token (is_exported w applets (declared n t)) t.fields j f) 0xFF) zk
    ∙ ap (λ b. unwrap_or (field_token b t.fields k f) 0xFF) exported

-- ---- static fields

count_cons : {A : Type 0} (q : A → Bool) (x : A) (xs : List A) → count_by q (x ∷ xs) ≡ cond (q x) 1 0 + count_by q xs
count_cons q x xs = sum_by-cons (λ y. cond (q y) 1 0) x xs

-- those before one that passes are fewer than those before a later place
pub counted : {A : Type 0} (q : A → Bool) (xs : List A) (i j : ℕ) (x : A) → i < j → slice_get xs i ≡ Some x → q x ≡ true
    → count_by q (take i xs) + 1 ≤ count_by q (take j xs)
counted q [] i j x lt e is = cc
counted q (y ∷ ys) i zero x lt e is = absurd (omega (arith, lt))
counted q (y ∷ ys) zero (suc j) x lt e is =
    let same : y ≡ x = cc in
    let one : ◌≡◌ {A = ℕ} (cond (q y) 1 0) 1 = ap (λ b. cond b 1 0) (ap q same ∙ is) in
    let all = count_cons q y (take j ys) in
    omega (arith, one, all)
counted q (y ∷ ys) (suc i) (suc j) x lt e is =
    let rest = counted q ys i j x (omega (arith, lt)) e is in
    let a = count_cons q y (take i ys) in
    let b = count_cons q y (take j ys) in
    omega (arith, rest, a, b)

high_at : (w : List Class) (applets : Bool) (lines : List FileLine) (m : ℕ) (cs : List ClassTree) (n : ℕ)
    (c : ClassTree) → breaks_from w applets lines m cs ≡ [] → slice_get cs n ≡ Some c
    → has_high_token w (is_exported w applets (declared (m + n) c)) (m + n) c ≡ false
unfolding breaks_from
high_at w applets lines m [] n c none e = cc
high_at w applets lines m (x ∷ cs) zero c none e =
    let same : x ≡ c = cc in
    let z : m ≡ m + 0 = omega arith in
    let b = at_class (file_of lines m) x.name in
    let here = none_left (breaks_where (has_high_token w (is_exported w applets (declared m x)) m x) b)
    (breaks_from w applets lines (m + 1) cs) none in
    sym (ap (λ (t : ClassTree). has_high_token w (is_exported w applets (declared m t)) m t) same
    ∙ ap (λ k. has_high_token w (is_exported w applets (declared k c)) k c) z)
    ∙ off (has_high_token w (is_exported w applets (declared m x)) m x) here
  where
    off : (t : Bool) → breaks_where t (at_class (file_of lines m) x.name) ≡ [] → t ≡ false
    off true f = cc
    off false f = refl
high_at w applets lines m (x ∷ cs) (suc n) c none e =
    let s : m + 1 + n ≡ m + suc n = omega arith in
    let b = at_class (file_of lines m) x.name in
    let rest = none_right (breaks_where (has_high_token w (is_exported w applets (declared m x)) m x) b)
    (breaks_from w applets lines (m + 1) cs) none in
    sym (ap (λ k. has_high_token w (is_exported w applets (declared k c)) k c) s) ∙ high_at w applets lines (m + 1) cs n
    c rest e

-- an exported class breaks no 413
pub low_tokens : (p : Package) (c : Class) (own : IsOwn p c) → token_breaks (has_applets p) p.files ≡ []
    → has_high_token (world p) true own.number own.tree ≡ false
unfolding token_breaks
low_tokens p c own none =
    let files = p.files in
    let n = own.number in
    let z : 0 + n ≡ n = omega arith in
    let high = high_at (world p) (has_applets p) files.lines 0 files.classes n own.tree none own.is_tree in
    let exported : is_exported (world p) (has_applets p) (declared n own.tree) ≡ true =
    ap (is_exported (world p) (has_applets p)) (sym own.is) ∙ own.exported in
    sym (ap (λ k. has_high_token (world p) (is_exported (world p) (has_applets p) (declared k own.tree)) k own.tree) z
    ∙ ap (λ b. has_high_token (world p) b n own.tree) exported) ∙ high

pub few_statics : (p : Package) (c : Class) (own : IsOwn p c) → token_breaks (has_applets p) p.files ≡ []
    → (let t = own.tree in count_by is_open_static t.fields ≤ 255)
unfolding has_high_token
few_statics p c own none = let t = own.tree in few (nat_lt 255 (count_by is_open_static t.fields)) refl
    (second _ _ (low_tokens p c own none))
  where
    second : (a b : Bool) → (a || (true && b)) ≡ false → b ≡ false
    second true b e = cc
    second false b e = e

    few : (b : Bool) → nat_lt 255 (count_by is_open_static (let t = own.tree in t.fields)) ≡ b → b ≡ false
        → count_by is_open_static (let t = own.tree in t.fields) ≤ 255
    few true e f = cc
    few false e f = grind (arith, nat_tests)

-- ---- instance fields

-- what passes one test passes another
fewer : (a d : FieldTree → Bool) (fs : List FieldTree) → ((f : FieldTree) → a f ≡ true → d f ≡ true)
    → cells_of a fs ≤ cells_of d fs
fewer a d [] h = omega arith
fewer a d (f ∷ fs) h = by (a f) (d f) (h f) (cells-cons a f fs) (cells-cons d f fs) (fewer a d fs h)
  where
    by : (x y : Bool) → (x ≡ true → y ≡ true) → cells_of a (f ∷ fs) ≡ (if x then cells f else 0) + cells_of a fs
        → cells_of d (f ∷ fs) ≡ (if y then cells f else 0) + cells_of d fs → cells_of a fs ≤ cells_of d fs
        → cells_of a (f ∷ fs) ≤ cells_of d (f ∷ fs)
    by true true k e g r = omega (arith, e, g, r)
    by true false k e g r = let bad = k refl in cc
    by false y k e g r = omega (arith, e, g, r)

-- all of one test, those of another before a place, and the one there are among those of a third
among : (a b d : FieldTree → Bool) (fs : List FieldTree) (i : ℕ) (f : FieldTree) → ((g : FieldTree) → a g ≡ true
    → b g ≡ false) → ((g : FieldTree) → a g ≡ true → d g ≡ true) → ((g : FieldTree) → b g ≡ true → d g ≡ true)
    → slice_get fs i ≡ Some f → b f ≡ true → cells_of a fs + cells_of b (take i fs) + cells f ≤ cells_of d fs
among a b d [] i f apart first second e is = cc
among a b d (g ∷ fs) zero f apart first second e is =
    let same : g ≡ f = cc in
    let yes' : b g ≡ true = ap b same ∙ is in
    by (a g) (d g) (λ t. (let n = apart g t in cc)) (second g yes') (cells-cons a g fs) (cells-cons d g fs)
    (fewer a d fs first) (ap cells same)
  where
    by : (x y : Bool) → (x ≡ true → ⊥) → y ≡ true → cells_of a (g ∷ fs) ≡ (if x then cells g else 0) + cells_of a fs
        → cells_of d (g ∷ fs) ≡ (if y then cells g else 0) + cells_of d fs → cells_of a fs ≤ cells_of d fs
        → cells g ≡ cells f
        → cells_of a (g ∷ fs) + cells_of b [] + cells f ≤ cells_of d (g ∷ fs)
    by true y isnt k e h r s = absurd (isnt refl)
    by false true isnt k e h r s = omega (arith, e, h, r, s)
    by false false isnt k e h r s = cc
among a b d (g ∷ fs) (suc i) f apart first second e is =
    by (a g) (b g) (d g) (apart g) (first g) (second g) (cells-cons a g fs) (cells-cons b g (take i fs))
    (cells-cons d g fs) (among a b d fs i f apart first second e is)
  where
    by : (x y z : Bool) → (x ≡ true → y ≡ false) → (x ≡ true → z ≡ true) → (y ≡ true → z ≡ true)
        → cells_of a (g ∷ fs) ≡ (if x then cells g else 0) + cells_of a fs → cells_of b (g ∷ take i fs)
        ≡ (if y then cells g else 0) + cells_of b (take i fs) → cells_of d (g ∷ fs) ≡ (if z then cells g
        else 0) + cells_of d fs
        → cells_of a fs + cells_of b (take i fs) + cells f ≤ cells_of d fs
        → cells_of a (g ∷ fs) + cells_of b (g ∷ take i fs) + cells f ≤ cells_of d (g ∷ fs)
    by true true z p q r e h k s = let bad = p refl in cc
    by true false true p q r e h k s = omega (arith, e, h, k, s)
    by true false false p q r e h k s = let bad = q refl in cc
    by false true true p q r e h k s = omega (arith, e, h, k, s)
    by false true false p q r e h k s = let bad = r refl in cc
    by false false z p q r e h k s = omega (arith, e, h, k, s)

-- those before one that passes, and it
before : (b : FieldTree → Bool) (fs : List FieldTree) (i j : ℕ) (f : FieldTree) → i < j → slice_get fs i ≡ Some f
    → b f ≡ true → cells_of b (take i fs) + cells f ≤ cells_of b (take j fs)
before b [] i j f lt e is = cc
before b (g ∷ fs) i zero f lt e is = absurd (omega (arith, lt))
before b (g ∷ fs) zero (suc j) f lt e is =
    let same : g ≡ f = cc in
    let one : (if b g then cells g else 0) ≡ cells f = ap (λ t. if t then cells g else 0) (ap b same ∙ is)
    ∙ ap cells same in
    let all = cells-cons b g (take j fs) in
    omega (arith, one, all)
before b (g ∷ fs) (suc i) (suc j) f lt e is =
    let rest = before b fs i j f (omega (arith, lt)) e is in
    let x = cells-cons b g (take i fs) in
    let y = cells-cons b g (take j fs) in
    omega (arith, rest, x, y)

some_cell : (f : FieldTree) → 1 ≤ cells f
some_cell f = grind arith

abbrev below : ℕ → FieldTree → Bool
below n g = is_instance g && nat_lt (group g) n

abbrev equal : ℕ → FieldTree → Bool
equal n g = is_instance g && (group g == n)

below_not_equal : (n : ℕ) (g : FieldTree) → below n g ≡ true → equal n g ≡ false
below_not_equal n g = by (is_instance g) (nat_lt (group g) n) refl (group g == n) refl
  where
    by : (x y : Bool) → nat_lt (group g) n ≡ y → (z : Bool) → (group g == n) ≡ z → (x && y) ≡ true → (x && z) ≡ false
    by true true e true f h = absurd (grind (arith, nat_tests))
    by true true e false f h = refl
    by true false e z f h = cc
    by false y e z f h = refl

below_more : (m n : ℕ) → m < n → (g : FieldTree) → below m g ≡ true → below n g ≡ true
below_more m n lt g = by (is_instance g) (nat_lt (group g) m) refl (nat_lt (group g) n) refl
  where
    by : (x y : Bool) → nat_lt (group g) m ≡ y → (z : Bool) → nat_lt (group g) n ≡ z → (x && y) ≡ true → (x && z) ≡ true
    by true true e true f h = refl
    by true true e false f h = absurd (grind (arith, nat_tests))
    by true false e z f h = cc
    by false y e z f h = cc

equal_below : (m n : ℕ) → m < n → (g : FieldTree) → equal m g ≡ true → below n g ≡ true
equal_below m n lt g = by (is_instance g) (group g == m) refl (nat_lt (group g) n) refl
  where
    by : (x y : Bool) → (group g == m) ≡ y → (z : Bool) → nat_lt (group g) n ≡ z → (x && y) ≡ true → (x && z) ≡ true
    by true true e true f h = refl
    by true true e false f h = absurd (grind (arith, nat_tests))
    by true false e z f h = cc
    by false y e z f h = cc

own_group : (f : FieldTree) → is_instance f ≡ true → equal (group f) f ≡ true
own_group f is = ap (λ b. b && (group f == group f)) is ∙ (let s : (group f == group f) ≡ true = grind (
  arith,
  nat_tests,
) in s)

-- the cells of the groups before a later one hold the field's own
up_to : (fs : List FieldTree) (i : ℕ) (f : FieldTree) (n : ℕ) → slice_get fs i ≡ Some f → is_instance f ≡ true
    → group f < n → instance_token fs i f + cells f ≤ cells_of (below n) fs
unfolding instance_token
up_to fs i f n e is lt = among (below (group f)) (equal (group f)) (below n) fs i f (below_not_equal (group f))
    (below_more (group f) n lt) (equal_below (group f) n lt) e (own_group f is)

pub low_instance : (fs : List FieldTree) (i : ℕ) (f : FieldTree) → slice_get fs i ≡ Some f → is_instance f ≡ true
    → instance_token fs i f + 1 ≤ instance_cells fs
low_instance fs i f e is =
    let up = up_to fs i f (group f + 1) e is (omega arith) in
    let all = some_cells (λ g. nat_lt (group g) (group f + 1)) fs in
    let one = some_cell f in
    omega (arith, up, all, one)

-- a later one has another token
pub other_instance : (fs : List FieldTree) (i j : ℕ) (f g : FieldTree) → i < j → slice_get fs i ≡ Some f
    → slice_get fs j ≡ Some g → is_instance f ≡ true → is_instance g ≡ true → instance_token fs i f
    ≡ instance_token fs j g → ⊥
unfolding instance_token
other_instance fs i j f g lt e h is_f is_g same = by (cases_order (group f) (group g))
  where
    one : 1 ≤ cells f
    one = some_cell f

    two : 1 ≤ cells g
    two = some_cell g

    by : ((group f ≡ group g) ⊎ ((group f < group g) ⊎ (group g < group f))) → ⊥
    by (inl eq) =
        let more = before (equal (group f)) fs i j f lt e (own_group f is_f) in
        let alike : cells_of (below (group f)) fs + cells_of (equal (group f)) (take j fs) ≡ cells_of (below (group g))
        fs + cells_of (equal (group g)) (take j fs) =
        ap (λ n. cells_of (below n) fs + cells_of (equal n) (take j fs)) eq in
        omega (arith, more, alike, same, one)
    by (inr (inl less)) =
        let up = up_to fs i f (group g) e is_f less in
        omega (arith, up, same, one)
    by (inr (inr more)) =
        let up = up_to fs j g (group f) h is_g more in
        omega (arith, up, same, two)
