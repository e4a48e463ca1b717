-- Where 413 is not broken, a class has at most 128 slots of either kind.
use Rattle.std.proofs.Common.{◌≡◌, ℕ, zero, suc, ◌+◌, ◌<◌, ◌≤◌, refl, sym, ap, ◌∙◌, arith, Bool, true, false, List, []}
use Rattle.std.proofs.Common.{◌∷◌, ◌++◌, length, map, append_assoc, append-nil, inl, inr, length-append, Option, Some}
use Rattle.std.proofs.Common.{None}
use Rattle.std.specs.Prelude.{◌&&◌, ◌||◌, not, nat_lt, option_map, position, if◌then◌else◌}
use Rattle.std.specs.List.{AllByRecursion, list_any}
use Rattle.std.proofs.lemmas.Bool.{ltb-false}
use Rattle.std.proofs.lemmas.Bool.Decides.{nat_tests}
use Rattle.std.proofs.lemmas.List.{length-map}
use Rattle.cjc_bytes.specs.AccessFlags.{is_interface}
use Rattle.cjc_bytes.proofs.Bools.{or_left, or_right}
use Rattle.cjc_bytes.proofs.Quantified.{all_both}
use Rattle.cjc_tokens.proofs.Facts.{position-cons, same-refl}
use Rattle.cjc_tokens.specs.Lines.{Declared, Imported, Line, line_at, line_in}
use Rattle.cjc_tokens.specs.Members.{In, Signature, all_methods, first_of, has, is_exposed, is_hidden, is_shown}
use Rattle.cjc_tokens.specs.Members.{is_virtual, later, same, signature_of, signatures}
use Rattle.cjc_tokens.specs.Methods.{virtual_token}
use Rattle.cjc_tokens.specs.Rules.{has_high_method, is_above}
use Rattle.cjc_tokens.specs.Slots.{Slots, has_slot, hidden_slots, holds, listed_slots, new_in, put, reserve, slots}
use Rattle.cjc_tokens.specs.Slots.{shown_token, taken_slots, token, with_new}
use Rattle.cjc_vtable.proofs.Calls.{token-some}
use Rattle.cjc_vtable.proofs.Shown.{Offers, declared-token, offered-slot, token-least}
use Rattle.cjc_vtable.proofs.SlotNames.{In-has}
use Rattle.cjc_vtable.proofs.Told.{taken_slots-length}
use Rattle.cjc_world.specs.Added.{added}
use Rattle.cjc_world.specs.Classes.{Class, Member, class_named}
use Rattle.cjc_world.specs.Supertypes.{End, AreSupertypes, Supertypes, Known, Lists, Unknown, after, ends, foremost}
use Rattle.cjc_world.specs.Supertypes.{supertypes, known_here, unknown_here, upwards}

-- ---- new slots

token_behind : (S : Slots) (s : Signature) (rest : Slots) → has_slot S s ≡ false → token (S ++ Some s ∷ rest) s
    ≡ Some (length S)
unfolding token
token_behind [] s rest e = position-cons (λ slot. holds slot s) (Some s) rest ∙ ap (λ b. if b then Some 0
    else option_map suc (position (λ slot. holds slot s) rest)) (same-refl s)
token_behind (slot ∷ S) s rest e = position-cons (λ t. holds t s) slot (S ++ Some s ∷ rest)
    ∙ by (holds slot s) (has_slot S s) e (token_behind S s rest)
  where
    by : (a b : Bool) → (a || b) ≡ false → (b ≡ false → position (λ t. holds t s) (S ++ Some s ∷ rest)
        ≡ Some (length S)) → (if a then Some 0 else option_map suc (position (λ t. holds t s) (S ++ Some s ∷ rest)))
        ≡ Some (suc (length S))
    by true b f more = cc
    by false b f more = ap (option_map suc) (more f)

-- Where each of these has a token up to 127 among all slots, the slots with the new ones are no more than 128.
few_new : (all S : Slots) (ss : List Signature) (more : Slots) → all ≡ S ++ (map Some (new_in S ss) ++ more)
    → AllByRecursion (λ s. is_above 127 (token all s) ≡ false) ss → length S ≤ 128
    → length S + length (new_in S ss) ≤ 128
few_new all S [] more e low few = let z : length S + 0 ≤ 128 = omega (arith, few) in z
few_new all S (s ∷ ss) more e low few = by (has_slot S s) refl e (few_new all S ss more) (few_new all (S
    ++ Some s ∷ []) ss more)
  where
    by : (b : Bool) → has_slot S s ≡ b → all ≡ S
        ++ (map Some (if b then new_in S ss else s ∷ new_in (S ++ Some s ∷ []) ss) ++ more)
        → (all ≡ S ++ (map Some (new_in S ss) ++ more) → AllByRecursion (λ t. is_above 127 (token all t) ≡ false) ss
        → length S ≤ 128 → length S + length (new_in S ss) ≤ 128)
        → (all ≡ (S ++ Some s ∷ []) ++ (map Some (new_in (S ++ Some s ∷ []) ss) ++ more)
        → AllByRecursion (λ t. is_above 127 (token all t) ≡ false) ss → length (S ++ Some s ∷ []) ≤ 128
        → length (S ++ Some s ∷ []) + length (new_in (S ++ Some s ∷ []) ss) ≤ 128)
        → length S + length (if b then new_in S ss else s ∷ new_in (S ++ Some s ∷ []) ss) ≤ 128
    by true f e old new = old e low.1 few
    by false f e old new =
        let rest = map Some (new_in (S ++ Some s ∷ []) ss) ++ more in
        let at : token all s ≡ Some (length S) = ap (λ (t : Slots). token t s) e ∙ token_behind S s rest f in
        let below : nat_lt 127 (length S) ≡ false = sym (ap (is_above 127) at) ∙ low.0 in
        let le = ltb-false 127 (length S) below in
        let one = length-append S (Some s ∷ []) in
        let r = new (e ∙ sym (append_assoc S (Some s ∷ []) rest)) low.1 (omega (arith, one, le)) in
        omega (arith, r, one)

length_new : (S : Slots) (ss : List Signature) → length (with_new S ss) ≡ length S + length (new_in S ss)
length_new S ss = let a = length-append S (map Some (new_in S ss)) in let b =
    length-map (new_in S ss) (λ (s : Signature). Some s) in omega (arith, a, b)

-- ---- which have low tokens

-- of methods whose low tokens are those of low slots
shown_low : (T : Signature → Option ℕ) (S H : Slots) (ms : List Member) → ((m : Member) → In m ms → is_shown m ≡ true
    → is_above 127 (T (signature_of m)) ≡ false → is_above 127 (token S (signature_of m)) ≡ false)
    → list_any (λ m. is_above 127 (virtual_token T H m)) ms ≡ false
    → AllByRecursion (λ s. is_above 127 (token S s) ≡ false) (signatures is_shown ms)
shown_low T S H [] slot e = tt
shown_low T S H (m ∷ ms) slot e = by (is_shown m) refl (or_left _ _ e) (shown_low T S H ms (λ n i. slot n (later i))
    (or_right _ _ e))
  where
    by : (b : Bool) → is_shown m ≡ b → is_above 127 (if b then T (signature_of m) else if is_hidden m
        then token H (signature_of m) else None) ≡ false
        → AllByRecursion (λ s. is_above 127 (token S s) ≡ false) (signatures is_shown ms)
        → AllByRecursion (λ s. is_above 127 (token S s) ≡ false) (if b then signature_of m ∷ signatures is_shown ms
        else signatures is_shown ms)
    by true g f rest = (slot m first_of g f, rest)
    by false g f rest = rest

hidden_low : (T : Signature → Option ℕ) (H : Slots) (ms : List Member)
    → list_any (λ m. is_above 127 (virtual_token T H m)) ms ≡ false
    → AllByRecursion (λ s. is_above 127 (token H s) ≡ false) (signatures is_hidden ms)
hidden_low T H [] e = tt
hidden_low T H (m ∷ ms) e = by (is_exposed m.flags) (is_virtual m) (or_left _ _ e)
    (hidden_low T H ms (or_right _ _ e))
  where
    by : (a b : Bool) → is_above 127 (if (a && b) then T (signature_of m) else if (not a && b)
        then token H (signature_of m) else None) ≡ false → AllByRecursion (λ s. is_above 127 (token H s) ≡ false)
        (signatures is_hidden ms)
        → AllByRecursion (λ s. is_above 127 (token H s) ≡ false) (if (not a && b) then signature_of m
        ∷ signatures is_hidden ms else signatures is_hidden ms)
    by true b f rest = rest
    by false true f rest = (f, rest)
    by false false f rest = rest

given_low : (T : Signature → Option ℕ) (S : Slots) (ms : List Member) → ((m : Member) → In m ms
    → is_above 127 (T (signature_of m)) ≡ false → is_above 127 (token S (signature_of m)) ≡ false)
    → list_any (λ m. is_above 127 (T (signature_of m))) ms ≡ false
    → AllByRecursion (λ s. is_above 127 (token S s) ≡ false) (map signature_of ms)
given_low T S [] slot e = tt
given_low T S (m ∷ ms) slot e = (
  slot m first_of (or_left _ _ e),
  given_low T S ms (λ n i. slot n (later i)) (or_right _ _ e),
)

has_given : (ms : List Member) (m : Member) → In m ms → has (map signature_of ms) (signature_of m) ≡ true
has_given [] m i = elim i [ ]
has_given (n ∷ ms) m first_of = ap (λ b. b || has (map signature_of ms) (signature_of m)) (same-refl (signature_of m))
has_given (n ∷ ms) m (later i) = ap (λ b. same (signature_of n) (signature_of m) || b) (has_given ms m i)
    ∙ or_true (same (signature_of n) (signature_of m))
  where
    or_true : (b : Bool) → (b || true) ≡ true
    or_true true = refl
    or_true false = refl

-- ---- a class of the package

module _ (c : Class) (given : List Member) (above : Line) (plain : c.is_imported ≡ false) where
  abbrev line : Line
  line = Declared c given above

  -- a method that the class declares or got has no greater token than the place of its first slot
  slot_low : (s : Signature) → Offers c given above s → is_above 127 (shown_token line s) ≡ false
      → is_above 127 (token (slots line) s) ≡ false
  slot_low s offers e =
      let r = declared-token c given above s plain offers in
      let p = token-some (slots line) s (offered-slot c given above s offers) in
      let below : nat_lt 127 r.0 ≡ false = sym (ap (is_above 127) r.1) ∙ e in
      let le = ltb-false 127 r.0 below in
      let least = token-least (slots line) s p.0 r.0 p.1 r.2 in
      let low : nat_lt 127 p.0 ≡ false = grind (arith, nat_tests, le, least) in
      ap (is_above 127) p.1 ∙ low

  own_few : list_any (λ m. is_above 127 (virtual_token (shown_token line) (hidden_slots line) m)) c.methods ≡ false
      → list_any (λ m. is_above 127 (shown_token line (signature_of m))) given ≡ false → length (slots above) ≤ 128
      → length (slots line) ≤ 128
  own_few e f known =
      let S = taken_slots c above (slots above) in
      let same = taken_slots-length c above (slots above) in
      let few : length S ≤ 128 = omega (arith, known, same) in
      let shown = signatures is_shown c.methods in
      let more = map Some (new_in (with_new S shown) (map signature_of given)) in
      let first = few_new (slots line) S shown more (append_assoc S (map Some (new_in S shown)) more)
      (shown_low (shown_token line) (slots line) (hidden_slots line) c.methods
      (λ m i g. slot_low (signature_of m) (inl (In-has is_shown c.methods m (signature_of m) i g refl))) e) few in
      let long = length_new S shown in
      let all : slots line ≡ with_new S shown ++ (more ++ []) = ap (λ (x : Slots). with_new S shown
      ++ x) (sym (append-nil more)) in
      let second = few_new (slots line) (with_new S shown) (map signature_of given) [] all (given_low (shown_token line)
      (slots line) given (λ m i. slot_low (signature_of m) (inr (has_given given m i))) f) (omega (
        arith,
        first,
        long,
      )) in
      let longer = length_new (with_new S shown) (map signature_of given) in
      omega (arith, second, longer)

  own_hidden_few : list_any (λ m. is_above 127 (virtual_token (shown_token line) (hidden_slots line) m)) c.methods
      ≡ false
      → length (hidden_slots above) ≤ 128 → length (hidden_slots line) ≤ 128
  own_hidden_few e few =
      let S = hidden_slots above in
      let hidden = signatures is_hidden c.methods in
      let all : hidden_slots line ≡ S ++ (map Some (new_in S hidden) ++ []) = ap (λ (x : Slots). S
      ++ x) (sym (append-nil (map Some (new_in S hidden)))) in
      let r = few_new (hidden_slots line) S hidden [] all (hidden_low (shown_token line) (hidden_slots line) c.methods
      e) few
      in
      let long = length_new S hidden in
      omega (arith, r, long)

-- ---- imported classes

put_few : (t n : ℕ) (s : Signature) (S : Slots) → t < n → length S ≤ n → length (put t s S) ≤ n
put_few zero n s [] lt le = omega (arith, lt)
put_few zero n s (slot ∷ S) lt le = le
put_few (suc t) zero s S lt le = absurd (omega (arith, lt))
put_few (suc t) (suc n) s [] lt le = let r = put_few t n s [] (omega (arith, lt)) (omega arith) in omega (arith, r)
put_few (suc t) (suc n) s (slot ∷ S) lt le = let r = put_few t n s S (omega (arith, lt)) (omega (arith, le))
    in omega (arith, r)

reserve_few : (t n : ℕ) (S : Slots) → t < n → length S ≤ n → length (reserve t S) ≤ n
reserve_few zero n [] lt le = omega (arith, lt)
reserve_few zero n (slot ∷ S) lt le = le
reserve_few (suc t) zero S lt le = absurd (omega (arith, lt))
reserve_few (suc t) (suc n) [] lt le = let r = reserve_few t n [] (omega (arith, lt)) (omega arith) in omega (arith, r)
reserve_few (suc t) (suc n) (slot ∷ S) lt le = let r = reserve_few t n S (omega (arith, lt)) (omega (arith, le))
    in omega (arith, r)

-- a virtual method's token is at most 127
abbrev pub IsLowMember : Member → Type 0
IsLowMember m = is_virtual m ≡ true → m.token ≤ 127

listed_few : (ms : List Member) → AllByRecursion IsLowMember ms → length (listed_slots ms) ≤ 128
listed_few [] low = let z : 0 ≤ 128 = omega arith in z
listed_few (m ∷ ms) low = by (is_exposed m.flags) (is_virtual m) low.0 (listed_few ms low.1)
  where
    by : (a b : Bool) → (b ≡ true → m.token ≤ 127) → length (listed_slots ms) ≤ 128
        → length (if (a && b) then put m.token (signature_of m) (listed_slots ms) else if b
        then reserve m.token (listed_slots ms) else listed_slots ms) ≤ 128
    by true true f rest = let t = f refl in put_few m.token 128 (signature_of m) (listed_slots ms) (omega (arith, t))
        rest
    by true false f rest = rest
    by false true f rest = let t = f refl in reserve_few m.token 128 (listed_slots ms) (omega (arith, t)) rest
    by false false f rest = rest

all_append : (cs ds : List Class) → AllByRecursion IsLowMember (all_methods cs)
    → AllByRecursion IsLowMember (all_methods ds) → AllByRecursion IsLowMember (all_methods (cs ++ ds))
all_append [] ds a b = b
all_append (c ∷ cs) ds a b = all_both IsLowMember c.methods (all_methods (cs ++ ds)) (front c.methods (all_methods cs)
    a) (all_append cs ds (back c.methods (all_methods cs) a) b)
  where
    front : (xs ys : List Member) → AllByRecursion IsLowMember (xs ++ ys) → AllByRecursion IsLowMember xs
    front [] ys h = tt
    front (x ∷ xs) ys h = (h.0, front xs ys h.1)

    back : (xs ys : List Member) → AllByRecursion IsLowMember (xs ++ ys) → AllByRecursion IsLowMember ys
    back [] ys h = h
    back (x ∷ xs) ys h = back xs ys h.1

-- ---- lines

-- what is known of a class of a world: its methods have low tokens where it is no interface, and its supers are no
-- interfaces, imported ones of an imported class
pub record IsLow (w : List Class) (c : Class) : Type 0 where
  pub own : c.is_imported ≡ false → is_interface c.flags ≡ false → has_high_method w c ≡ false
  pub listed : c.is_imported ≡ true → is_interface c.flags ≡ false → AllByRecursion IsLowMember c.methods
  pub supers : (s : List ℕ) (d : Class) → Lists s c.supers → class_named w s ≡ Some d → is_interface d.flags ≡ false
  pub abroad : c.is_imported ≡ true → (s : List ℕ) (d : Class) → Lists s c.supers → class_named w s ≡ Some d
      → d.is_imported ≡ true

module _ (w : List Class) (are_supertypes : (xs : List (List ℕ)) → AreSupertypes w xs (supertypes w xs))
    (one_supertypes : (xs : List (List ℕ)) (j k : Supertypes) → AreSupertypes w xs j → AreSupertypes w xs k
    → j ≡ k) (low : (x : List ℕ) (c : Class) → class_named w x ≡ Some c → IsLow w c) where
  abbrev ArePlain : List (List ℕ) → Type 0
  ArePlain xs = (s : List ℕ) (d : Class) → Lists s xs → class_named w s ≡ Some d → is_interface d.flags ≡ false

  abbrev AreAbroad : List (List ℕ) → Type 0
  AreAbroad xs = (s : List ℕ) (d : Class) → Lists s xs → class_named w s ≡ Some d → d.is_imported ≡ true

  upwards_low : (xs : List (List ℕ)) (k : Supertypes) → AreSupertypes w xs k → ArePlain xs → AreAbroad xs
      → AllByRecursion IsLowMember (all_methods (upwards k))
  upwards_low xs End ends plain abroad = tt
  upwards_low xs (Unknown x next) (unknown_here {x = y} {xs = rest} e n) plain abroad =
      upwards_low rest next n (λ s d l. plain s d (after l)) (λ s d l. abroad s d (after l))
  upwards_low xs (Known c supers interfaces next) (known_here {x = x} {xs = rest} e s i n) plain abroad =
      let own = low x c e in
      let im = abroad x c foremost e in
      all_both IsLowMember c.methods (all_methods (upwards supers ++ upwards next))
      (own.listed im (plain x c foremost e))
      (all_append (upwards supers) (upwards next) (upwards_low c.supers supers s own.supers (own.abroad im))
      (upwards_low rest next n (λ s d l. plain s d (after l)) (λ s d l. abroad s d (after l))))

  pub few_slots : (xs : List (List ℕ)) (k : Supertypes) → AreSupertypes w xs k → ArePlain xs
      → (length (slots (line_in w k)) ≤ 128) × (length (hidden_slots (line_in w k)) ≤ 128)
  few_slots xs End ends plain = (let z : 0 ≤ 128 = omega arith in z, let z : 0 ≤ 128 = omega arith in z)
  few_slots xs (Unknown x next) (unknown_here e n) plain = (
    let z : 0 ≤ 128 = omega arith
        in z,
    let z : 0 ≤ 128 = omega arith in z,
  )
  few_slots xs (Known c supers interfaces next) (known_here {x = x} {xs = rest} e s i n) plain =
      by c.is_imported refl (few_slots c.supers supers s own.supers)
    where
      own : IsLow w c
      own = low x c e

      shown : Bool → Line
      shown b = if b then Imported (c ∷ upwards supers) else Declared c (added w c) (line_in w supers)

      by : (b : Bool) → c.is_imported ≡ b → (length (slots (line_in w supers)) ≤ 128)
          × (length (hidden_slots (line_in w supers)) ≤ 128) → (length (slots (shown b)) ≤ 128)
          × (length (hidden_slots (shown b)) ≤ 128)
      by true im rest = (
        listed_few (c.methods ++ all_methods (upwards supers)) (all_both IsLowMember c.methods
            (all_methods (upwards supers)) (own.listed im (plain x c foremost e)) (upwards_low c.supers supers s
            own.supers (own.abroad im))),
        let z : 0 ≤ 128 = omega arith in z,
      )
      by false im rest =
          let L = Declared c (added w c) (line_in w supers) in
          let none : HighAt L ≡ false = ap HighAt (sym (at_line im)) ∙ own.own im (plain x c foremost e) in
          let a = or_left (list_any (λ m. is_above 127 (virtual_token (shown_token L) (hidden_slots L) m)) c.methods)
          (list_any (λ m. is_above 127 (shown_token L (signature_of m))) (added w c)) none in
          let b = or_right (list_any (λ m. is_above 127 (virtual_token (shown_token L) (hidden_slots L) m))
          c.methods) (list_any (λ m. is_above 127 (shown_token L (signature_of m))) (added w c)) none in (
            own_few c (added w c) (line_in w supers) im a b rest.0,
            own_hidden_few c (added w c) (line_in w supers) im a
                rest.1,
          )
        where
          HighAt : Line → Bool
          HighAt l = list_any (λ m. is_above 127 (virtual_token (shown_token l) (hidden_slots l) m)) c.methods
              || list_any (λ m. is_above 127 (shown_token l (signature_of m))) (added w c)

          at_line : c.is_imported ≡ false → line_at w c ≡ Declared c (added w c) (line_in w supers)
          at_line im = ap (λ b. if b then Imported (c ∷ upwards (supertypes w c.supers))
              else Declared c (added w c) (line_in w (supertypes w c.supers))) im
              ∙ ap (λ k. Declared c (added w c) (line_in w k)) (one_supertypes c.supers (supertypes w c.supers) supers
              (are_supertypes c.supers) s)

  -- a class of the package that is no interface
  pub class_few : (x : List ℕ) (c : Class) → class_named w x ≡ Some c → is_interface c.flags ≡ false
      → (length (slots (line_at w c)) ≤ 128) × (length (hidden_slots (line_at w c)) ≤ 128)
  class_few x c e plain =
      let k = Known c (supertypes w c.supers) (supertypes w c.interfaces) End in
      few_slots (x ∷ []) k (known_here e (are_supertypes c.supers) (are_supertypes c.interfaces) ends) one
    where
      one : ArePlain (x ∷ [])
      one s d foremost f = let both : Some c ≡ Some d = sym e ∙ f in let is : c ≡ d = cc
          in ap (λ (y : Class). is_interface y.flags) (sym is) ∙ plain
      one s d (after l) f = elim l [ ]
