-- Lists that are cut into parts, as the cells of an operand stack are.
use Rattle.std.proofs.Common.{◌≡◌, ◌<◌, ◌≤◌, ◌+◌, ◌-◌, ℕ, zero, suc, List, [], ◌∷◌, ◌++◌, length, take, drop, reverse}
use Rattle.std.proofs.Common.{get_or, map, All, refl, sym, ◌∙◌, ap, subst, arith, length-append, append_assoc}
use Rattle.std.proofs.lemmas.List.{take_more, take_more_same, drop_at, take_at, drop-drop, drop-append-le, append-nil}
use Rattle.std.proofs.lemmas.List.{reverse-append, length-reverse, length-map, length-take-le, get_or-map}
use Rattle.std.proofs.lemmas.List.{get_or-reverse, get_or_default, get_or-drop, get_or_append_left, get_or-append_right}
use Rattle.std.proofs.lemmas.List.Concat.{flat_map-append}
use Rattle.std.proofs.lemmas.List.Elements.{All-take, All-drop}
use Rattle.cjc_fixpoint.specs.Lattice.{joined}
use Rattle.cjc_fixpoint.proofs.Lattices.{length-joined}
use Rattle.cjc_types.specs.Working.Parts.{bottom_up}
use Rattle.cjc_types.proofs.Reversed.{reverse_kept}

-- ---- the parts one after another

pub bottom_up_put : {X : Type 0} (parts : List (List X)) (part : List X) → bottom_up (parts ++ part ∷ [])
    ≡ bottom_up parts ++ part
bottom_up_put {X} parts part = flat_map-append (λ p. p) parts (part ∷ []) ∙ ap (λ (zs : List X). bottom_up parts
    ++ zs) (append-nil part)

pub bottom_up_more : {X : Type 0} (parts : List (List X)) (i : ℕ) (part : List X) → i < length parts
    → part ≡ get_or parts i part → bottom_up (take (i + 1) parts) ≡ bottom_up (take i parts) ++ part
bottom_up_more {X} parts i part lt is =
    ap bottom_up (take_more parts i part lt ∙ ap (λ (p : List X). take i parts ++ p ∷ []) (sym is))
    ∙ bottom_up_put (take i parts) part

pub bottom_up_split : {X : Type 0} (parts : List (List X)) (i : ℕ) → bottom_up parts ≡ bottom_up (take i parts)
    ++ bottom_up (drop i parts)
bottom_up_split {X} [] zero = refl
bottom_up_split {X} [] (suc i) = refl
bottom_up_split {X} (p ∷ parts) zero = refl
bottom_up_split {X} (p ∷ parts) (suc i) = ap (λ (zs : List X). p ++ zs) (bottom_up_split parts i)
    ∙ sym (append_assoc p (bottom_up (take i parts)) (bottom_up (drop i parts)))

-- the part at a place is no longer than all of them, and what holds of each cell holds of its cells
pub part_fits : {X : Type 0} (parts : List (List X)) (i : ℕ) (part : List X) → i < length parts
    → part ≡ get_or parts i part → length (bottom_up (take i parts)) + length part ≤ length (bottom_up parts)
part_fits {X} parts i part lt is =
    let whole = ap length (bottom_up_split parts (i + 1)) ∙ length-append (bottom_up (take (i + 1) parts))
    (bottom_up (drop (i + 1) parts)) in
    let more = ap length (bottom_up_more parts i part lt is) ∙ length-append (bottom_up (take i parts)) part in
    omega (arith, whole, more)

pub All-left : {X : Type 0} (P : X → Type 0) (xs ys : List X) → All P (xs ++ ys) → All P xs
All-left P xs ys h = subst (All P) (take_at xs ys (length xs) refl) (All-take P (length xs) (xs ++ ys) h)

pub All-right : {X : Type 0} (P : X → Type 0) (xs ys : List X) → All P (xs ++ ys) → All P ys
All-right P xs ys h = subst (All P) (drop_at xs ys (length xs) refl) (All-drop P (length xs) (xs ++ ys) h)

pub all_part : {X : Type 0} (P : X → Type 0) (parts : List (List X)) (i : ℕ) (part : List X) → i < length parts
    → part ≡ get_or parts i part → All P (bottom_up parts) → All P part
all_part P parts i part lt is h =
    All-right P (bottom_up (take i parts)) part
    (subst (All P) (bottom_up_more parts i part lt is) (All-left P (bottom_up (take (i + 1) parts))
    (bottom_up (drop (i + 1) parts)) (subst (All P) (bottom_up_split parts (i + 1)) h)))

-- ---- parts of one shape

pub alike_count : {X : Type 0} (ps qs : List (List X)) → map length ps ≡ map length qs → length ps ≡ length qs
alike_count ps qs same = sym (length-map ps length) ∙ ap length same ∙ length-map qs length

pub alike_at : {X : Type 0} (ps qs : List (List X)) (i : ℕ) (p q : List X) → map length ps ≡ map length qs
    → i < length ps → p ≡ get_or ps i p → q ≡ get_or qs i q → length p ≡ length q
alike_at {X} ps qs i p q same lt is_p is_q =
    let lt_q : i < length qs = subst (λ (n : ℕ). i < n) (alike_count ps qs same) lt in
    ap length is_p ∙ sym (get_or-map length ps i p 0 lt) ∙ ap (λ (ns : List ℕ). get_or ns i 0) same
    ∙ get_or-map length qs i q 0 lt_q ∙ ap length (sym is_q)

pub alike_length : {X : Type 0} (ps qs : List (List X)) → map length ps ≡ map length qs → length (bottom_up ps)
    ≡ length (bottom_up qs)
alike_length [] [] same = refl
alike_length [] (q ∷ qs) same = absurd (let n = ap length same in omega (arith, n))
alike_length (p ∷ ps) [] same = absurd (let n = ap length same in omega (arith, n))
alike_length (p ∷ ps) (q ∷ qs) same =
    let first : length p ≡ length q = ap (λ (ns : List ℕ). get_or ns 0 0) same in
    let rest : map length ps ≡ map length qs = ap (drop 1) same in
    length-append p (bottom_up ps) ∙ ap (λ (n : ℕ). n + length (bottom_up ps)) first
    ∙ ap (λ (n : ℕ). length q + n) (alike_length ps qs rest) ∙ sym (length-append q (bottom_up qs))

pub joined_append : {X : Type 0} (join : X → X → X) (xs ys us vs : List X) → length xs ≡ length us
    → joined join (xs ++ ys) (us ++ vs) ≡ joined join xs us ++ joined join ys vs
joined_append {X} join [] ys [] vs same = refl
joined_append {X} join [] ys (u ∷ us) vs same = absurd (omega (arith, same))
joined_append {X} join (x ∷ xs) ys [] vs same = absurd (omega (arith, same))
joined_append {X} join (x ∷ xs) ys (u ∷ us) vs same = ap (λ (zs : List X). join x u ∷ zs) (joined_append join xs ys us
    vs (omega (arith, same)))

pub joined_bottom_up : {X : Type 0} (join : X → X → X) (ps qs : List (List X)) → map length ps ≡ map length qs
    → bottom_up (joined (joined join) ps qs) ≡ joined join (bottom_up ps) (bottom_up qs)
joined_bottom_up {X} join [] [] same = refl
joined_bottom_up {X} join [] (q ∷ qs) same = absurd (let n = ap length same in omega (arith, n))
joined_bottom_up {X} join (p ∷ ps) [] same = absurd (let n = ap length same in omega (arith, n))
joined_bottom_up {X} join (p ∷ ps) (q ∷ qs) same =
    let first : length p ≡ length q = ap (λ (ns : List ℕ). get_or ns 0 0) same in
    let rest : map length ps ≡ map length qs = ap (drop 1) same in
    ap (λ (zs : List X). joined join p q ++ zs) (joined_bottom_up join ps qs rest)
    ∙ sym (joined_append join p (bottom_up ps) q (bottom_up qs) first)

-- stacks of one shape joined part by part
pub joined_whole : {X : Type 0} (join : X → X → X) (ps qs : List (List X)) (own others : List X)
    → map length ps ≡ map length qs
    → bottom_up (joined (joined join) ps qs) ++ joined join own others ≡ joined join (bottom_up ps ++ own) (bottom_up qs
    ++ others)
joined_whole {X} join ps qs own others same =
    ap (λ (zs : List X). zs ++ joined join own others) (joined_bottom_up join ps qs same)
    ∙ sym (joined_append join (bottom_up ps) own (bottom_up qs) others (alike_length ps qs same))

-- ---- read from the top

pub reverse_whole : {X : Type 0} (parts : List (List X)) (own : List X) → reverse (bottom_up parts ++ own) ≡ reverse own
    ++ reverse (bottom_up parts)
reverse_whole parts own = reverse-append (bottom_up parts) own

pub length_whole : {X : Type 0} (parts : List (List X)) (own : List X) → length (reverse (bottom_up parts ++ own))
    ≡ length (bottom_up parts) + length own
length_whole parts own = length-reverse (bottom_up parts ++ own) ∙ length-append (bottom_up parts) own

-- without the top cells, which are some of the own ones
pub reverse_kept_above : {X : Type 0} (deep own : List X) (k : ℕ) → k ≤ length own
    → reverse (deep ++ take (length own - k) own) ≡ drop k (reverse (deep ++ own))
reverse_kept_above {X} deep own k le =
    let sized = length-reverse own in
    reverse-append deep (take (length own - k) own)
    ∙ ap (λ (zs : List X). zs ++ reverse deep) (reverse_kept own k)
    ∙ sym (drop-append-le k (reverse own) (reverse deep) (omega (arith, le, sized)))
    ∙ ap (drop k) (sym (reverse-append deep own))

-- without the top cells, all the own ones among them
pub dropped_past : {X : Type 0} (deep own : List X) (k : ℕ) → length own ≤ k → drop k (reverse (deep ++ own))
    ≡ drop (k - length own) (reverse deep)
dropped_past {X} deep own k le =
    let n : ℕ = length own in
    let sum : n + (k - n) ≡ k = omega (arith, le) in
    ap (drop k) (reverse-append deep own)
    ∙ ap (λ (m : ℕ). drop m (reverse own ++ reverse deep)) (sym sum)
    ∙ sym (drop-drop (k - n) n (reverse own ++ reverse deep))
    ∙ ap (drop (k - n)) (drop_at (reverse own) (reverse deep) n (length-reverse own))

-- a part becomes the own cells
pub next_part : {X : Type 0} (parts rest : List (List X)) (part own cells : List X) (k n : ℕ) → parts ≡ rest
    ++ part ∷ [] → cells ≡ part → n ≡ length own → n ≤ k
    → drop (k - n) (reverse (bottom_up rest ++ cells)) ≡ drop k (reverse (bottom_up parts ++ own))
next_part {X} parts rest part own cells k n is same count le =
    ap (λ (zs : List X). drop (k - n) (reverse (bottom_up rest ++ zs))) same
    ∙ ap (λ (zs : List X). drop (k - n) (reverse zs)) (sym (bottom_up_put rest part))
    ∙ ap (λ (zs : List (List X)). drop (k - n) (reverse (bottom_up zs))) (sym is)
    ∙ ap (λ (m : ℕ). drop (k - m) (reverse (bottom_up parts))) count
    ∙ sym (dropped_past (bottom_up parts) own k (subst (λ (m : ℕ). m ≤ k) count le))

pub last_part : {X : Type 0} (parts rest : List (List X)) (part : List X) → parts ≡ rest ++ part ∷ []
    → length (bottom_up parts) ≡ length (bottom_up rest) + length part
last_part {X} parts rest part is = ap (λ (zs : List (List X)). length (bottom_up zs)) is
    ∙ ap length (bottom_up_put rest part) ∙ length-append (bottom_up rest) part

-- ---- loops over parts

pub read_part : {X : Type 0} (xs : List X) (i : ℕ) (x y : X) → y ≡ x → x ≡ get_or xs i x → y ≡ get_or xs i y
read_part xs i x y same is = subst (λ (z : _). z ≡ get_or xs i z) (sym same) is

pub alike_step : {X : Type 0} (ps qs : List (List X)) (i : ℕ) (p q : List X) → i < length ps → length ps ≡ length qs
    → p ≡ get_or ps i p → q ≡ get_or qs i q → length p ≡ length q
    → take i (map length ps) ≡ take i (map length qs) → take (i + 1) (map length ps) ≡ take (i + 1) (map length qs)
alike_step {X} ps qs i p q lt same is_p is_q alike so_far =
    let lt_q : i < length qs = subst (λ (n : ℕ). i < n) same lt in
    let m_p = length-map ps length in
    let m_q = length-map qs length in
    take_more_same (map length ps) (map length qs) i 0 (omega (arith, lt, m_p)) (omega (arith, lt_q, m_q)) so_far
    (get_or-map length ps i p 0 lt ∙ ap length (sym is_p) ∙ alike ∙ ap length is_q
    ∙ sym (get_or-map length qs i q 0 lt_q))

-- what is not yet joined is the first's still
pub still : {X : Type 0} (join : X → X → X) (xs ys : List X) (i : ℕ) (x : X) (cells : List X) → i < length xs
    → length xs ≡ length ys → cells ≡ take i (joined join xs ys) ++ drop i xs → x ≡ get_or cells i x → x ≡ get_or xs i x
still {X} join xs ys i x cells lt same is read =
    let all = length-joined join xs ys same in
    let front : List X = take i (joined join xs ys) in
    let sized : length front ≡ i = length-take-le i (joined join xs ys) (omega (arith, all, lt)) in
    let none : i - i ≡ 0 = omega arith in
    let here : i + 0 ≡ i = omega arith in
    read ∙ ap (λ (zs : List X). get_or zs i x) is
    ∙ get_or-append_right front (drop i xs) i i x sized (omega arith)
    ∙ ap (λ (k : ℕ). get_or (drop i xs) k x) none
    ∙ get_or-drop i xs 0 x ∙ ap (λ (k : ℕ). get_or xs k x) here

pub whole_above : {X : Type 0} (join : X → X → X) (ps qs : List (List X)) (own others : List X)
    → map length ps ≡ map length qs → joined (joined join) ps qs ≡ ps → joined join own others ≡ own
    → joined join (bottom_up ps ++ own) (bottom_up qs ++ others) ≡ bottom_up ps ++ own
whole_above {X} join ps qs own others alike kept kept_own =
    sym (joined_whole join ps qs own others alike) ∙ ap (λ (zs : List (List X)). bottom_up zs ++ joined join own others)
    kept ∙ ap (λ (zs : List X). bottom_up ps ++ zs) kept_own

pub deep_read : {X : Type 0} (parts : List (List X)) (i count k left : ℕ) (p : List X) (x d : X) → i < length parts
    → count ≡ i + 1 → p ≡ get_or parts i p → left < length p
    → length (bottom_up (take count parts)) + k ≡ length (bottom_up parts) + left
    → get_or (reverse (bottom_up (take count parts))) left d ≡ get_or (reverse (bottom_up parts)) k d
    → x ≡ get_or p (length p - 1 - left) x
    → x ≡ get_or (reverse (bottom_up parts)) k d
deep_read {X} parts i count k left p x d lt next is inside same read is_x =
    let back : List X = reverse (bottom_up (take i parts)) in
    let whole : reverse (bottom_up (take count parts)) ≡ reverse p ++ back =
    ap (λ (n : ℕ). reverse (bottom_up (take n parts))) next ∙ ap reverse (bottom_up_more parts i p lt is)
    ∙ reverse-append (bottom_up (take i parts)) p in
    let sized = length-reverse p in
    is_x ∙ get_or_default p (length p - 1 - left) x d (omega (arith, inside))
    ∙ sym (get_or-reverse p left d inside)
    ∙ sym (get_or_append_left (reverse p) back d left (omega (arith, inside, sized)))
    ∙ ap (λ (zs : List X). get_or zs left d) (sym whole)
    ∙ read

pub deep_within : {X : Type 0} (parts : List (List X)) (i count k left : ℕ) (p : List X) → i < length parts
    → count ≡ i + 1 → p ≡ get_or parts i p → left < length p
    → length (bottom_up (take count parts)) + k ≡ length (bottom_up parts) + left → k < length (bottom_up parts)
deep_within {X} parts i count k left p lt next is inside same =
    let more : length (bottom_up (take count parts)) ≡ length (bottom_up (take i parts)) + length p =
    ap (λ (n : ℕ). length (bottom_up (take n parts))) next ∙ ap length (bottom_up_more parts i p lt is)
    ∙ length-append (bottom_up (take i parts)) p in
    omega (arith, more, inside, same)
