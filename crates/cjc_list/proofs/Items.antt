-- What the words of one line say, as a relation and as a function.
use Rattle.std.proofs.Common.{◌≡◌, ℕ, ◌+◌, ◌-◌, ◌*◌, ◌==◌, ◌<◌, ◌≤◌, Bool, true, false, cond, ltb, leb, ◌&&◌, List, []}
use Rattle.std.proofs.Common.{◌∷◌, ◌++◌, length, take, drop, get_or, codes, Option, Some, None, Result, Ok, Err, refl}
use Rattle.std.proofs.Common.{sym, ap, ◌∙◌, subst, arith, length-append}
use Rattle.std.proofs.Math.Seq.{take-append_seam, drop-append-add}
use Rattle.std.specs.Prelude.{position}
use Rattle.std.specs.List.{position_or_len}
use Rattle.std.specs.Str.{bytes_eq}
use Rattle.std.proofs.lemmas.Bool.{leb-true, le-leb, ltb-true, lt-ltb, eqb-true, ne_eqb, and_parts}
use Rattle.std.proofs.lemmas.List.Sums.{passes_at_first, split_at_first}
use Rattle.std.proofs.lemmas.List.Elements.{All-cons, All-nil, All-head, All-tail}
use Rattle.std.specs.List.{All}
use Rattle.std.proofs.lemmas.Option.{cond_some}
use Rattle.hex.specs.Hex.{decode_of}
use Rattle.hex.specs.declared.error.FromHexError.{FromHexError}
use Rattle.cjc_bytes.specs.Text.{decimal, decimal_from, is_digit}
use Rattle.cjc_bytes.proofs.Numbers.{passed_at}
use Rattle.cjc_bytes.proofs.Lists.{bytes_true}
use Rattle.cjc_list.specs.declared.listing.List.{List as Listing}
use Rattle.cjc_list.specs.declared.line.Item.{Item}
use Rattle.cjc_list.specs.declared.line.Item.TheVariants.{Applet, File, Int}
use Rattle.cjc_list.specs.Grammar.{◌>>=◌, is_name, fit_for_aid, aid_of, version_of, begun, package_of, applet_of}
use Rattle.cjc_list.specs.Grammar.{item_of}
use Rattle.cjc_list.specs.Spelling.{IsAid, IsVersion, SaysPackage, keyword, Says}

-- a step that gave a value
pub onward : {A B : Type 0} (o : Option B) (f : B → Option A) (a : A) → (o >>= f) ≡ Some a → (b : B) × (o ≡ Some b)
    × (f b ≡ Some a)
onward (Some b) f a e = (b, refl, e)
onward None f a e = absurd cc

passed_on : (b : Bool) (o : Option ℕ) (v : ℕ) → cond b o None ≡ Some v → (b ≡ true) × (o ≡ Some v)
passed_on true o v e = (refl, e)
passed_on false o v e = absurd cc

-- an AID
fits_aid : (found : Result (List ℕ) FromHexError) (bytes : List ℕ) → fit_for_aid found ≡ Some bytes → (found ≡ Ok bytes)
    × (5 ≤ length bytes) × (length bytes ≤ 16)
fits_aid (Ok found) bytes e =
    let p = cond_some (leb 5 (length found) && leb (length found) 16) found bytes e in
    let q = and_parts _ _ p.0 in
    let okay : List ℕ → Result (List ℕ) FromHexError = λ b. Ok b in
    let P : List ℕ → Type 0 = λ b. (okay found ≡ okay b) × (5 ≤ length b) × (length b ≤ 16) in
    subst P p.1 (refl, leb-true _ _ q.0, leb-true _ _ q.1)
fits_aid (Err _) bytes e = absurd cc

pub aid_is : (digits bytes : List ℕ) → aid_of digits ≡ Some bytes → IsAid bytes digits
unfolding aid_of
aid_is digits bytes e = fits_aid (decode_of digits) bytes e

pub aid_of-is : (digits bytes : List ℕ) → IsAid bytes digits → aid_of digits ≡ Some bytes
unfolding aid_of
aid_of-is digits bytes h = rw (h.0, le-leb 5 (length bytes) h.1, le-leb (length bytes) 16 h.2) refl

-- an applet line
pub applet_says : (class digits : List ℕ) (i : Item) → applet_of class digits ≡ Some i
    → Says i (codes "applet" ∷ class ∷ digits ∷ [])
unfolding applet_of
applet_says class digits i e =
    let aid = onward (aid_of digits) (λ aid. cond (is_name class) (Some (Applet (record { class = class; aid = aid })))
    None) i e in
    let named = cond_some (is_name class) (Applet (record { class = class; aid = aid.0 })) i aid.2 in
    let P : Item → Type 0 = λ i. Says i (codes "applet" ∷ class ∷ digits ∷ []) in
    subst P named.1 (digits, refl, named.0, aid_is digits aid.0 aid.1)

file_says : (b : Bool) (w name : List ℕ) (i : Item) → w ≡ keyword b → File (record { class_file = b; name = name }) ≡ i
    → Says i (w ∷ name ∷ [])
file_says b w name i e is =
    let P : Item → Type 0 = λ i. Says i (w ∷ name ∷ []) in
    subst P is (ap (λ (k : List ℕ). k ∷ name ∷ []) e)

two_words : (isc ise : Bool) (w name : List ℕ) (i : Item) → (isc ≡ true → w ≡ codes "class")
    → (ise ≡ true → w ≡ codes "export")
    → cond isc (Some (File (record { class_file = true; name = name })))
    (cond ise (Some (File (record { class_file = false; name = name }))) None) ≡ Some i → Says i (w ∷ name ∷ [])
two_words true ise w name i c x e = file_says true w name i (c refl) cc
two_words false true w name i c x e = file_says false w name i (x refl) cc
two_words false false w name i c x e = absurd cc

three_words : (isa : Bool) (w class digits : List ℕ) (i : Item) → (isa ≡ true → w ≡ codes "applet")
    → cond isa (applet_of class digits) None ≡ Some i → Says i (w ∷ class ∷ digits ∷ [])
three_words true w class digits i is e =
    let P : List ℕ → Type 0 = λ k. Says i (k ∷ class ∷ digits ∷ []) in
    subst P (sym (is refl)) (applet_says class digits i e)
three_words false w class digits i is e = absurd cc

one_word : (is_int : Bool) (w : List ℕ) (i : Item) → (is_int ≡ true → w ≡ codes "int")
    → cond is_int (Some Int) None ≡ Some i → Says i (w ∷ [])
one_word true w i is e =
    let P : Item → Type 0 = λ i. Says i (w ∷ []) in
    let says : Says Int (w ∷ []) = ap (λ (k : List ℕ). k ∷ []) (is refl) in
    let item : Int ≡ i = cc in
    subst P item says
one_word false w i is e = absurd cc

pub item_says : (ws : List (List ℕ)) (i : Item) → item_of ws ≡ Some i → Says i ws
unfolding item_of
item_says [] i e = absurd cc
item_says (a ∷ []) i e = one_word (bytes_eq a (codes "int")) a i (bytes_true a (codes "int")) e
item_says (a ∷ b ∷ []) i e = two_words (bytes_eq a (codes "class")) (bytes_eq a (codes "export")) a b i
    (bytes_true a (codes "class")) (bytes_true a (codes "export")) e
item_says (a ∷ b ∷ c ∷ []) i e = three_words (bytes_eq a (codes "applet")) a b c i (bytes_true a (codes "applet")) e
item_says (a ∷ b ∷ c ∷ d ∷ ws) i e = absurd cc

file_of : (b : Bool) (name : List ℕ) → item_of (keyword b ∷ name ∷ [])
    ≡ Some (File (record { class_file = b; name = name }))
unfolding item_of
file_of true name = refl
file_of false name = refl

pub item_of-says : (i : Item) (ws : List (List ℕ)) → Says i ws → item_of ws ≡ Some i
unfolding item_of applet_of
item_of-says (Applet a) ws h =
    let aid : aid_of h.0 ≡ Some a.aid = aid_of-is h.0 a.aid h.3 in
    ap item_of h.1 ∙ rw (aid, h.2) refl
item_of-says (File f) ws h = ap item_of h ∙ file_of f.class_file f.name
item_of-says Int ws h = ap item_of h

-- a byte that was found stands between what is before it and what is behind it
found_parts : (c : ℕ) (text : List ℕ) (n : ℕ) → position (λ b. b == c) text ≡ Some n → text ≡ take n text
    ++ c ∷ drop (n + 1) text
found_parts c text n e =
    let p = passed_at (ltb (position_or_len (λ b. b == c) text) (length text)) (position_or_len (λ b. b == c) text) n e
    in
    let within : position_or_len (λ b. b == c) text < length text = ltb-true _ _ p.0 in
    let is : get_or text (position_or_len (λ b. b == c) text) 0 ≡ c =
    eqb-true _ _ (passes_at_first (λ b. b == c) text 0 within) in
    let parts : text ≡ take (position_or_len (λ b. b == c) text) text
    ++ c ∷ drop (position_or_len (λ b. b == c) text + 1) text =
    subst (λ (d : ℕ). text ≡ take (position_or_len (λ b. b == c) text) text
    ++ d ∷ drop (position_or_len (λ b. b == c) text + 1) text) is (split_at_first (λ b. b == c) text 0 within) in
    subst (λ (m : ℕ). text ≡ take m text ++ c ∷ drop (m + 1) text) p.1 parts

-- digits have no dot
no_dot_from : (n : ℕ) (text : List ℕ) (v : ℕ) → decimal_from 255 n text ≡ Some v → All (λ b. (b == 46) ≡ false) text
unfolding decimal_from
no_dot_from n [] v e = All-nil (λ b. (b == 46) ≡ false)
no_dot_from n (c ∷ cs) v e =
    let test = passed_on (is_digit c && leb (n * 10 + (c - 48)) 255) (decimal_from 255 (n * 10 + (c - 48)) cs) v e in
    let digit : (leb 48 c ≡ true) × (leb c 57 ≡ true) = and_parts _ _ (and_parts _ _ test.0).0 in
    All-cons (λ b. (b == 46) ≡ false) c cs (ne_eqb c 46 (λ is. absurd (omega (arith, leb-true 48 c digit.0, is))))
    (no_dot_from (n * 10 + (c - 48)) cs v test.1)

no_dot : (text : List ℕ) (v : ℕ) → decimal 255 text ≡ Some v → All (λ b. (b == 46) ≡ false) text
no_dot [] v e = absurd cc
no_dot (c ∷ cs) v e = no_dot_from 0 (c ∷ cs) v e

-- so the dot between digits is the first
first_len : (front back : List ℕ) → All (λ b. (b == 46) ≡ false) front → position_or_len (λ b. b == 46) (front
    ++ 46 ∷ back) ≡ length front
first_len [] back h = refl
first_len (c ∷ cs) back h =
    let ih = first_len cs back (All-tail (λ b. (b == 46) ≡ false) c cs h) in
    let no : (c == 46) ≡ false = All-head (λ b. (b == 46) ≡ false) c cs h in
    rw no (omega (arith, ih))

first_dot : (front back : List ℕ) → All (λ b. (b == 46) ≡ false) front → position (λ b. b == 46) (front ++ 46 ∷ back)
    ≡ Some (length front)
first_dot front back h =
    rw (
      first_len front back h,
      lt-ltb (length front) (length (front ++ 46 ∷ back)) (omega (
        arith,
        length-append front (46 ∷ back),
      )),
    ) refl

-- a version
version_parts : (text : List ℕ) (v : ℕ × ℕ) → version_of text ≡ Some v → IsVersion v.0 v.1 text
unfolding version_of
version_parts text v e =
    let rest : ℕ → Option (ℕ × ℕ) = λ dot. decimal 255 (take dot text) >>= λ major. decimal 255 (drop (dot + 1) text)
    >>= λ minor. Some (major, minor) in
    let dot = onward (position (λ b. b == 46) text) rest v e in
    let major = onward (decimal 255 (take dot.0 text)) (λ major. decimal 255 (drop (dot.0 + 1) text)
    >>= λ minor. Some (major, minor)) v dot.2 in
    let minor = onward (decimal 255 (drop (dot.0 + 1) text)) (λ minor. Some (major.0, minor)) v major.2 in
    let is : (major.0, minor.0) ≡ v = cc in
    let P : ℕ × ℕ → Type 0 = λ v. IsVersion v.0 v.1 text in
    subst P is (take dot.0 text, drop (dot.0 + 1) text, found_parts 46 text dot.0 dot.1, major.1, minor.1)

version_of-is : (major minor : ℕ) (text : List ℕ) → IsVersion major minor text → version_of text ≡ Some (major, minor)
unfolding version_of
version_of-is major minor text h =
    let front : List ℕ = h.0 in
    let back : List ℕ = h.1 in
    let before : take (length front) (front ++ 46 ∷ back) ≡ front = take-append_seam front (46 ∷ back) in
    let behind : drop (length front + 1) (front ++ 46 ∷ back) ≡ back = drop-append-add front (46 ∷ back) 1 in
    rw (h.2, first_dot front back (no_dot front major h.3), before, behind, h.3, h.4) refl

-- the list with its package line alone
abbrev pub fresh : List ℕ → Listing → Listing
fresh name list = record list { name = name; ints = false; applets = []; lines = [] }

-- a package line
begun_says : (name owner digits numbers : List ℕ) (t : Listing) → begun name owner digits numbers ≡ Some t
    → SaysPackage t (codes "package" ∷ owner ∷ digits ∷ numbers ∷ []) × (t ≡ fresh name t)
unfolding begun
begun_says name owner digits numbers t e =
    let made : List ℕ → ℕ × ℕ → Listing = λ aid v. record {
      name = name;
      «package» = owner;
      aid = aid;
      major = v.0;
      minor = v.1;
      ints = false;
      applets = [];
      lines = [];
    } in
    let aid = onward (aid_of digits) (λ aid. version_of numbers >>= λ v. cond (is_name owner) (Some (made aid v)) None)
    t e in
    let version = onward (version_of numbers) (λ v. cond (is_name owner) (Some (made aid.0 v)) None) t aid.2 in
    let named = cond_some (is_name owner) (made aid.0 version.0) t version.2 in
    let P : Listing → Type 0 = λ t. SaysPackage t (codes "package" ∷ owner ∷ digits ∷ numbers ∷ []) × (t ≡ fresh name t)
    in
    subst P named.1 (
      (
        digits,
        numbers,
        refl,
        named.0,
        aid_is digits aid.0 aid.1,
        version_parts numbers version.0
            version.1,
      ),
      refl,
    )

four_words : (isp : Bool) (name w owner digits numbers : List ℕ) (t : Listing) → (isp ≡ true → w ≡ codes "package")
    → cond isp (begun name owner digits numbers) None ≡ Some t
    → SaysPackage t (w ∷ owner ∷ digits ∷ numbers ∷ []) × (t ≡ fresh name t)
four_words true name w owner digits numbers t is e =
    let P : List ℕ → Type 0 = λ k. SaysPackage t (k ∷ owner ∷ digits ∷ numbers ∷ []) × (t ≡ fresh name t) in
    subst P (sym (is refl)) (begun_says name owner digits numbers t e)
four_words false name w owner digits numbers t is e = absurd cc

pub package_says : (name : List ℕ) (ws : List (List ℕ)) (t : Listing) → package_of name ws ≡ Some t → SaysPackage t ws
    × (t ≡ fresh name t)
unfolding package_of
package_says name [] t e = absurd cc
package_says name (a ∷ []) t e = absurd cc
package_says name (a ∷ b ∷ []) t e = absurd cc
package_says name (a ∷ b ∷ c ∷ []) t e = absurd cc
package_says name (a ∷ b ∷ c ∷ d ∷ []) t e = four_words (bytes_eq a (codes "package")) name a b c d t
    (bytes_true a (codes "package")) e
package_says name (a ∷ b ∷ c ∷ d ∷ f ∷ ws) t e = absurd cc

pub package_of-says : (name : List ℕ) (list : Listing) (ws : List (List ℕ)) → SaysPackage list ws
    → package_of name ws ≡ Some (fresh name list)
unfolding package_of begun
package_of-says name list ws h =
    let aid : aid_of h.0 ≡ Some list.aid = aid_of-is h.0 list.aid h.4 in
    let version : version_of h.1 ≡ Some (list.major, list.minor) = version_of-is list.major list.minor h.1 h.5 in
    ap (package_of name) h.2 ∙ rw (aid, version, h.3) refl
