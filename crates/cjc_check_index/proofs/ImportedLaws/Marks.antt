-- Marks that go downwards: what one step of the walk keeps.
use Rattle.std.proofs.Common.{◌≡◌, ℕ, zero, suc, ◌+◌, ◌<◌, ◌≤◌, ◌==◌, Bool, true, false, List, [], ◌∷◌, ◌++◌, length}
use Rattle.std.proofs.Common.{get_or, set, refl, sym, ap, ◌∙◌, subst, arith, inl, inr}
use Rattle.std.specs.Prelude.{◌||◌, ◌⊎◌, if◌then◌else◌}
use Rattle.std.proofs.lemmas.Bool.Decides.{nat_tests}
use Rattle.std.proofs.lemmas.List.{get_or-set_same, get_or_default, length-set, length-append, drop_more, drop_all}
use Rattle.std.proofs.Common.{drop, append_assoc, append-nil}
use Rattle.std.proofs.lemmas.List.Folds.{list_any-append}
use Rattle.cjc_check_index.specs.Imported.Working.Graph.{is_in}
use Rattle.cjc_check_index.specs.Imported.Working.Reach.{IsWalk, IsReached, marked_from, marks_after, stack_after}
use Rattle.cjc_check_index.specs.Imported.Working.Reach.{unmarked, with_mark, with_new}
use Rattle.cjc_check_index.proofs.ImportedLaws.Loops.{or_false}
use Rattle.cjc_check_rules.proofs.BytesBools.{or_true, or_cases, bool_either}

no : {P : Type 0} → (b : Bool) → b ≡ true → b ≡ false → P
no b t f = let e : true ≡ false = sym t ∙ f in absurd (cc)

-- ---- one mark

set_true : (m : List Bool) (at k : ℕ) → get_or m k false ≡ true → get_or (set m at true) k false ≡ true
set_true [] at k h = h
set_true (b ∷ m) zero zero h = refl
set_true (b ∷ m) zero (suc k) h = h
set_true (b ∷ m) (suc at) zero h = h
set_true (b ∷ m) (suc at) (suc k) h = set_true m at k h

set_new : (m : List Bool) (at k : ℕ) → get_or (set m at true) k false ≡ true → (get_or m k false ≡ true) ⊎ (at ≡ k)
set_new [] at k h = inl h
set_new (b ∷ m) zero zero h = inr refl
set_new (b ∷ m) zero (suc k) h = inl h
set_new (b ∷ m) (suc at) zero h = inl h
set_new (b ∷ m) (suc at) (suc k) h = elim (set_new m at k h) [ inl g ↦ inl g | inr e ↦ inr (ap (λ (n : ℕ). suc n) e) ]

set_room : (m : List Bool) (at : ℕ) → get_or m at true ≡ false → unmarked (set m at true) + 1 ≡ unmarked m
set_room [] at h = absurd cc
set_room (b ∷ m) zero h = let e : ◌≡◌ {A = ℕ} (if b then 0 else 1) 1 = ap (λ (x : Bool). if x then 0 else 1) h
    in omega (arith, e)
set_room (b ∷ m) (suc at) h = let r = set_room m at h in omega (arith, r)

in_range : (m : List Bool) (k : ℕ) → get_or m k false ≡ true → k < length m
in_range [] k h = absurd cc
in_range (b ∷ m) zero h = omega arith
in_range (b ∷ m) (suc k) h = let r = in_range m k h in omega (arith, r)

record Grows (places : List ℕ) (marks : List Bool) (stack : List ℕ) (more : List Bool) (left : List ℕ) : Type 0 where
  size : length more ≡ length marks
  kept : (k : ℕ) → get_or marks k false ≡ true → get_or more k false ≡ true
  all : (k : ℕ) → is_in k places ≡ true → k < length marks → get_or more k false ≡ true
  new : (k : ℕ) → get_or more k false ≡ true → (get_or marks k false ≡ true) ⊎ ((is_in k places ≡ true)
      × (is_in k left ≡ true))
  stays : (k : ℕ) → is_in k stack ≡ true → is_in k left ≡ true
  from : (k : ℕ) → is_in k left ≡ true → (is_in k stack ≡ true) ⊎ (get_or more k false ≡ true)
  room : unmarked more + length left ≡ unmarked marks + length stack

abbrev one : ℕ → List ℕ
one at = at ∷ []

on_one : (at k : ℕ) → at ≡ k → is_in k (one at) ≡ true
on_one at k e = let t : (at == k) ≡ true = grind (arith, nat_tests, e) in ap (λ b. b || false) t

one_is : (at k : ℕ) → is_in k (one at) ≡ true → at ≡ k
one_is at k h = let t : (at == k) ≡ true = sym (or_false (at == k)) ∙ h in grind (arith, nat_tests, t)

-- a class that is marked already
old_mark : (marks : List Bool) (stack : List ℕ) (at : ℕ) → get_or marks at true ≡ true
    → Grows (one at) marks stack marks stack
old_mark marks stack at t = record {
  size = refl;
  kept = λ k h. h;
  all = λ k h lt.
      let e : at ≡ k = one_is at k h in
      get_or_default marks k false true lt ∙ ap (λ (n : ℕ). get_or marks n true) (sym e) ∙ t;
  new = λ k h. inl h;
  stays = λ k h. h;
  from = λ k h. inl h;
  room = refl;
}

-- and one that is not
new_mark : (marks : List Bool) (stack : List ℕ) (at : ℕ) → get_or marks at true ≡ false
    → Grows (one at) marks stack (set marks at true) (stack ++ at ∷ [])
new_mark marks stack at f = record {
  size = length-set marks at true;
  kept = λ k h. set_true marks at k h;
  all = λ k h lt.
      let e : at ≡ k = one_is at k h in
      ap (λ (n : ℕ). get_or (set marks at true) n false) (sym e) ∙ get_or-set_same marks at true false (omega (
        arith,
        e,
        lt,
      ));
  new = λ k h. elim (set_new marks at k h) [
    | inl g ↦ inl g
    | inr e ↦ inr (
      on_one at k e,
      list_any-append (λ m. m == k) stack (one at) ∙ ap (λ b. is_in k stack
          || b) (on_one at k e) ∙ or_true (is_in k stack),
    )
  ];
  stays = λ k h. list_any-append (λ m. m == k) stack (one at) ∙ ap (λ b. b || is_in k (one at)) h;
  from = λ k h. elim (or_cases (is_in k stack) (is_in k (one at)) (sym (list_any-append (λ m. m == k) stack (one at))
      ∙ h)) [
        | inl g ↦ inl g
        | inr g ↦ inr (
            let e : at ≡ k = one_is at k g in
            ap (λ (n : ℕ). get_or (set marks at true) n false) (sym e)
            ∙ get_or-set_same marks at true false (below marks at f))
      ];
  room = let r = set_room marks at f in let l = length-append stack (one at) in omega (arith, r, l);
}
  where
    below : (m : List Bool) (k : ℕ) → get_or m k true ≡ false → k < length m
    below [] k h = absurd cc
    below (b ∷ m) zero h = omega arith
    below (b ∷ m) (suc k) h = let r = below m k h in omega (arith, r)

one_mark : (marks : List Bool) (stack : List ℕ) (at : ℕ) → Grows (one at) marks stack (with_mark marks at)
    (with_new marks stack at)
one_mark marks stack at = by (get_or marks at true) refl
  where
    by : (b : Bool) → get_or marks at true ≡ b → Grows (one at) marks stack (if b then marks else set marks at true)
        (if b then stack else stack ++ at ∷ [])
    by true t = old_mark marks stack at t
    by false f = new_mark marks stack at f

-- ---- several marks

nothing : (marks : List Bool) (stack : List ℕ) → Grows [] marks stack marks stack
nothing marks stack = record {
  size = refl;
  kept = λ k h. h;
  all = λ k h lt. absurd cc;
  new = λ k h. inl h;
  stays = λ k h. h;
  from = λ k h. inl h;
  room = refl;
}

joined : (at : ℕ) (places : List ℕ) (a : List Bool) (s : List ℕ) (b : List Bool) (t : List ℕ) (c : List Bool)
    (u : List ℕ) → Grows (one at) a s b t → Grows places b t c u → Grows (at ∷ places) a s c u
joined at places a s b t c u g h = record {
  size = h.size ∙ g.size;
  kept = λ k e. h.kept k (g.kept k e);
  all = λ k e lt. elim (or_cases (at == k) (is_in k places) e) [
    | inl f ↦ h.kept k (g.all k (ap (λ x. x || false) f) lt)
    | inr f ↦ (let z = g.size in h.all k f (omega (arith, z, lt)))
  ];
  new = λ k e. elim (h.new k e) [
    | inl f ↦ elim (g.new k f) [
      | inl old ↦ inl old
      | inr p ↦ inr (ap (λ x. x || is_in k places) (sym (or_false (at == k)) ∙ p.0), h.stays k p.1)
    ]
    | inr p ↦ inr (ap (λ x. (at == k) || x) p.0 ∙ or_true (at == k), p.1)
  ];
  stays = λ k e. h.stays k (g.stays k e);
  from = λ k e. elim (h.from k e) [
    | inl f ↦ elim (g.from k f) [ inl x ↦ inl x | inr x ↦ inr (h.kept k x) ]
    | inr f ↦ inr f
  ];
  room = h.room ∙ g.room;
}

grows : (places : List ℕ) (marks : List Bool) (stack : List ℕ) → Grows places marks stack (marks_after marks places)
    (stack_after marks stack places)
grows [] marks stack = nothing marks stack
grows (at ∷ places) marks stack =
    joined at places marks stack (with_mark marks at) (with_new marks stack at) (marks_after (with_mark marks at)
    places) (stack_after (with_mark marks at) (with_new marks stack at) places)
    (one_mark marks stack at) (grows places (with_mark marks at) (with_new marks stack at))

-- ---- the walk

in_stack : (j : ℕ) (k : ℕ) (left : List ℕ) → is_in k (left ++ j ∷ []) ≡ (is_in k left || is_in k (one j))
in_stack j k left = list_any-append (λ m. m == k) left (one j)

walk_on : (below : List (List ℕ)) (begin marks : List Bool) (left : List ℕ) (j : ℕ) (more : List Bool) (rest : List ℕ)
    → Grows (get_or below j []) marks left more rest → IsWalk below begin marks (left ++ j ∷ [])
    → IsWalk below begin more rest
walk_on below begin marks left j more rest g w = record {
  size = g.size ∙ w.size;
  kept = λ i h. g.kept i (w.kept i h);
  waits = λ k h. elim (g.from k h) [
    | inl f ↦ g.kept k (w.waits k (in_stack j k left ∙ ap (λ b. b || is_in k (one j)) f))
    | inr f ↦ f
  ];
  closed = λ a i h e lt out. elim (g.new a h) [
    | inl old ↦ bool_either (j == a)
        (λ t.
        let same : a ≡ j = grind (arith, nat_tests, t) in
        let z = w.size in
        g.all i (ap (λ (n : ℕ). is_in i (get_or below n [])) (sym same) ∙ e) (omega (arith, z, lt)))
        (λ f.
        let gone : is_in a left ≡ false = absent (is_in a left) (is_in a rest) (g.stays a) out in
        let none : is_in a (one j) ≡ false = ap (λ b. b || false) f in
        g.kept i (w.closed a i old e lt (in_stack j a left ∙ ap (λ b. b || is_in a (one j)) gone ∙ none)))
    | inr p ↦ no (is_in a rest) p.1 out
  ];
  least = λ test base step i h. elim (g.new i h) [
    | inl old ↦ w.least test base step i old
    | inr p ↦ (
        let here : is_in j (left ++ j ∷ []) ≡ true = in_stack j j left ∙ ap (λ b. is_in j left || b) (on_one j j refl)
        ∙ or_true (is_in j left) in
        let z = w.size in
        let y = g.size in
        let r = in_range more i h in
        step j i (w.least test base step j (w.waits j here)) p.0 (omega (arith, z, y, r)))
  ];
}
  where
    absent : (a b : Bool) → (a ≡ true → b ≡ true) → b ≡ false → a ≡ false
    absent true b p f = no b (p refl) f
    absent false b p f = refl

pub walk_more : (below : List (List ℕ)) (begin marks more : List Bool) (stack left rest row : List ℕ) (j : ℕ)
    → stack ≡ left ++ j ∷ [] → row ≡ get_or below j [] → more ≡ marks_after marks row
    → rest ≡ stack_after marks left row
    → IsWalk below begin marks stack → IsWalk below begin more rest
walk_more below begin marks more stack left rest row j s r m t w =
    let W : List ℕ → Type 0 = λ xs. IsWalk below begin marks xs in
    let G : List Bool → Type 0 = λ xs. IsWalk below begin xs rest in
    let H : List ℕ → Type 0 = λ xs. IsWalk below begin (marks_after marks row) xs in
    let K : List ℕ → Type 0 = λ xs. IsWalk below begin (marks_after marks xs) (stack_after marks left xs) in
    subst G (sym m) (subst H (sym t) (subst K (sym r)
    (walk_on below begin marks left j (marks_after marks (get_or below j [])) (stack_after marks left
    (get_or below j [])) (grows (get_or below j []) marks left) (subst W s w))))

-- each class that is looked at leaves less to do
pub walk_room : (marks more : List Bool) (stack left rest row : List ℕ) (j : ℕ) → stack ≡ left ++ j ∷ []
    → more ≡ marks_after marks row → rest ≡ stack_after marks left row
    → unmarked more + length rest < unmarked marks + length stack
walk_room marks more stack left rest row j s m t =
    let g = (grows row marks left).room in
    let a : unmarked more ≡ unmarked (marks_after marks row) = ap (λ (xs : List Bool). unmarked xs) m in
    let b : length rest ≡ length (stack_after marks left row) = ap (λ (xs : List ℕ). length xs) t in
    let c : length stack ≡ length left + 1 = ap (λ (xs : List ℕ). length xs) s ∙ length-append left (j ∷ []) in
    omega (arith, g, a, b, c)

-- ---- where it begins

low : (at : ℕ) (marks : List Bool) (k : ℕ) → k < at → is_in k (marked_from at marks) ≡ false
low at [] k lt = refl
low at (true ∷ marks) k lt =
    let f : (at == k) ≡ false = grind (arith, nat_tests, lt) in
    ap (λ b. b || is_in k (marked_from (at + 1) marks)) f ∙ low (at + 1) marks k (omega (arith, lt))
low at (false ∷ marks) k lt = low (at + 1) marks k (omega (arith, lt))

marked_is : (at : ℕ) (marks : List Bool) (k n : ℕ) → n ≡ at + k → is_in n (marked_from at marks) ≡ get_or marks k false
marked_is at [] k n e = refl
marked_is at (true ∷ marks) zero n e =
    let t : (at == n) ≡ true = grind (arith, nat_tests, e) in
    ap (λ b. b || is_in n (marked_from (at + 1) marks)) t
marked_is at (true ∷ marks) (suc k) n e =
    let f : (at == n) ≡ false = grind (arith, nat_tests, e) in
    ap (λ b. b || is_in n (marked_from (at + 1) marks)) f ∙ marked_is (at + 1) marks k n (omega (arith, e))
marked_is at (false ∷ marks) zero n e = low (at + 1) marks n (omega (arith, e))
marked_is at (false ∷ marks) (suc k) n e = marked_is (at + 1) marks k n (omega (arith, e))

pub walk_begins : (below : List (List ℕ)) (begin marks : List Bool) (stack : List ℕ) → marks ≡ begin
    → stack ≡ marked_from 0 marks → IsWalk below begin marks stack
walk_begins below begin marks stack e s =
    let P : List ℕ → Type 0 = λ xs. IsWalk below begin marks xs in
    let Q : List Bool → Type 0 = λ xs. IsWalk below begin xs (marked_from 0 xs) in
    subst P (sym s) (subst Q (sym e) start)
  where
    is : (k : ℕ) → is_in k (marked_from 0 begin) ≡ get_or begin k false
    is k = marked_is 0 begin k k (omega arith)

    start : IsWalk below begin begin (marked_from 0 begin)
    start = record {
      size = refl;
      kept = λ i h. h;
      waits = λ j h. sym (is j) ∙ h;
      closed = λ j i h e lt out. no (get_or begin j false) h (sym (is j) ∙ out);
      least = λ test base step i h. base i h;
    }

pub walk_ends : (below : List (List ℕ)) (begin marks : List Bool) (stack : List ℕ) → stack ≡ []
    → IsWalk below begin marks stack → IsReached below begin marks
walk_ends below begin marks stack e w = let P : List ℕ → Type 0 = λ xs. IsWalk below begin marks xs in subst P e w

-- ---- loops over lists

pub marks_more : (i : ℕ) (places : List ℕ) (at : ℕ) (marks next total : List Bool) → i < length places
    → at ≡ get_or places i at → next ≡ with_mark marks at
    → marks_after marks (drop i places) ≡ total → marks_after next (drop (i + 1) places) ≡ total
marks_more i places at marks next total lt is n so_far =
    let d : drop i places ≡ at ∷ drop (i + 1) places = drop_more places i at lt
    ∙ ap (λ (x : ℕ). x ∷ drop (i + 1) places) (sym is) in
    ap (λ (m : List Bool). marks_after m (drop (i + 1) places)) n ∙ ap (λ (xs : List ℕ). marks_after marks xs) (sym d)
    ∙ so_far

pub stack_more : (i : ℕ) (places : List ℕ) (at : ℕ) (marks after : List Bool) (stack next total : List ℕ)
    → i < length places → at ≡ get_or places i at → after ≡ with_mark marks at → next ≡ with_new marks stack at
    → stack_after marks stack (drop i places) ≡ total → stack_after after next (drop (i + 1) places) ≡ total
stack_more i places at marks after stack next total lt is m n so_far =
    let d : drop i places ≡ at ∷ drop (i + 1) places = drop_more places i at lt
    ∙ ap (λ (x : ℕ). x ∷ drop (i + 1) places) (sym is) in
    ap (λ (x : List Bool). stack_after x next (drop (i + 1) places)) m
    ∙ ap (λ (s : List ℕ). stack_after (with_mark marks at) s (drop (i + 1) places)) n
    ∙ ap (λ (xs : List ℕ). stack_after marks stack xs) (sym d) ∙ so_far

pub marks_all : (i : ℕ) (places : List ℕ) (marks total : List Bool) → length places ≤ i
    → marks_after marks (drop i places) ≡ total → marks ≡ total
marks_all i places marks total le so_far = ap (λ (xs : List ℕ). marks_after marks xs) (sym (drop_all i places le))
    ∙ so_far

pub stack_all : (i : ℕ) (places : List ℕ) (marks : List Bool) (stack total : List ℕ) → length places ≤ i
    → stack_after marks stack (drop i places) ≡ total → stack ≡ total
stack_all i places marks stack total le so_far = ap (λ (xs : List ℕ). stack_after marks stack xs)
    (sym (drop_all i places le)) ∙ so_far

pub marked_more : (i : ℕ) (b : Bool) (marks : List Bool) (done next total : List ℕ) → i < length marks
    → b ≡ get_or marks i b → next ≡ done ++ (if b then i ∷ [] else [])
    → done ++ marked_from i (drop i marks) ≡ total → next ++ marked_from (i + 1) (drop (i + 1) marks) ≡ total
marked_more i b marks done next total lt is n so_far =
    let d : drop i marks ≡ b ∷ drop (i + 1) marks = drop_more marks i b lt ∙ ap (λ (x : Bool). x ∷ drop (i + 1) marks)
    (sym is) in
    ap (λ (xs : List ℕ). xs ++ marked_from (i + 1) (drop (i + 1) marks)) n ∙ append_assoc done (if b then i ∷ []
    else []) (marked_from (i + 1) (drop (i + 1) marks))
    ∙ ap (λ (m : List Bool). done ++ marked_from i m) (sym d) ∙ so_far

pub marked_all : (i : ℕ) (marks : List Bool) (done total : List ℕ) → length marks ≤ i
    → done ++ marked_from i (drop i marks) ≡ total → done ≡ total
marked_all i marks done total le so_far = sym (append-nil done) ∙ ap (λ (m : List Bool). done ++ marked_from i m)
    (sym (drop_all i marks le)) ∙ so_far
