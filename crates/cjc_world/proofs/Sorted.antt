-- What is broken stands in the order of refusals, so the first of it is the first in the order.
use Rattle.std.proofs.Common.{◌≡◌, ℕ, zero, suc, ◌<◌, ◌≤◌, ◌+◌, refl, sym, ap, subst, ◌∙◌, arith, Bool, true, false}
use Rattle.std.proofs.Common.{List, [], ◌∷◌, ◌++◌, length, inl, inr, ⊎_elim}
use Rattle.std.specs.Prelude.{◌⊎◌, ◌/◌, map, not, ◌&&◌, ◌||◌, Option, Some, None, slice_get, if◌then◌else◌}
use Rattle.cjc_bytes.specs.declared.settings.FileLine.{FileLine}
use Rattle.cjc_classfile.specs.declared.tree.ClassTree.{ClassTree}
use Rattle.cjc_export.specs.declared.tree.ExportTree.{ExportTree}
use Rattle.cjc_world.specs.Files.{Files}
use Rattle.cjc_bytes.specs.Breaks.{Break, Among, foremost, after, IsFirst, broken_at, list_spot}
use Rattle.cjc_bytes.specs.declared.order.FileKey.{FileKey}
use Rattle.cjc_bytes.specs.declared.order.FileKey.TheVariants as keys
use Rattle.cjc_bytes.specs.Order.{numbers, AreUpTo, file_number}
use Rattle.cjc_bytes.proofs.Firsts.{hundred, upto_refl, upto_trans}
use Rattle.cjc_world.specs.Classes.{Member, Class, declared, numbered, size, all_classes}
use Rattle.cjc_world.specs.Rules.{gets_missing, when, head, at_class, at_member, told, members, members_before}
use Rattle.cjc_world.specs.Rules.{class_rules, member_rules, members_from, class_breaks, classes_breaks}
use Rattle.cjc_world.specs.Rules.{class_file_breaks, export_file_breaks, breaks_from, breaks, is_of_package, is_second}
use Rattle.cjc_world.specs.Rules.{lists_missing, is_own_super, lists_wrong, is_twice, is_desc_missing}
use Rattle.cjc_world.specs.Rules.{is_second_package, has_language}

-- the breaks ascend from the one to the other
Within : List ℕ → List ℕ → List Break → Type 0
Within low high [] = AreUpTo low high
Within low high (b ∷ bs) = AreUpTo low (numbers b.rank) × Within (numbers b.rank) high bs

lower : (low mid high : List ℕ) (bs : List Break) → AreUpTo low mid → Within mid high bs → Within low high bs
unfolding Within
lower low mid high [] p q = upto_trans low mid high p q
lower low mid high (b ∷ bs) p q = (upto_trans low mid (numbers b.rank) p q.0, q.1)

joined : (low mid mid' high : List ℕ) (xs bs : List Break) → Within low mid xs → AreUpTo mid mid' → Within mid' high bs
    → Within low high (xs ++ bs)
unfolding Within
joined low mid mid' high [] bs p q r = lower low mid' high bs (upto_trans low mid mid' p q) r
joined low mid mid' high (a ∷ xs) bs p q r = (p.0, joined (numbers a.rank) mid mid' high xs bs p.1 q r)

raised : (low mid high : List ℕ) (bs : List Break) → Within low mid bs → AreUpTo mid high → Within low high bs
unfolding Within
raised low mid high [] p q = upto_trans low mid high p q
raised low mid high (b ∷ bs) p q = (p.0, raised (numbers b.rank) mid high bs p.1 q)

behind : (low high : List ℕ) (a : Break) (bs : List Break) → Within low high bs → Among a bs
    → AreUpTo low (numbers a.rank)
unfolding Within
behind low high a [] p i = elim i [ ]
behind low high a (b ∷ bs) p foremost = p.0
behind low high a (b ∷ bs) p (after i) = upto_trans low (numbers b.rank) (numbers a.rank) p.0 (behind (numbers b.rank)
    high a bs p.1 i)

first_of_all : (low high : List ℕ) (b : Break) (bs : List Break) → Within low high bs → head bs ≡ Some b → IsFirst b bs
unfolding Within head
first_of_all low high b [] p e = cc
first_of_all low high b (c ∷ bs) p e =
    let is : c ≡ b = cc in
    subst (λ (v : Break). IsFirst v (c ∷ bs)) is (record { among = foremost; least = least })
  where
    least : (a : Break) → Among a (c ∷ bs) → AreUpTo (numbers c.rank) (numbers a.rank)
    least a foremost = upto_refl (numbers c.rank)
    least a (after i) = behind (numbers c.rank) high a bs p.1 i

-- ---- ascending rules

Rising : ℕ → ℕ → List ℕ → Type 0
Rising low high [] = low ≤ high
Rising low high (r ∷ rs) = (low ≤ r) × Rising r high rs

rising_when : (b : Bool) (low r high : ℕ) → low ≤ r → r ≤ high → Rising low high (when b r)
unfolding Rising
rising_when true low r high p q = (p, q)
rising_when false low r high p q = omega (arith, p, q)

rising_lower : (low mid high : ℕ) (rs : List ℕ) → low ≤ mid → Rising mid high rs → Rising low high rs
unfolding Rising
rising_lower low mid high [] p q = omega (arith, p, q)
rising_lower low mid high (r ∷ rs) p q = (let a = q.0 in omega (arith, p, a), q.1)

rising_append : (low mid high : ℕ) (xs bs : List ℕ) → Rising low mid xs → Rising mid high bs
    → Rising low high (xs ++ bs)
unfolding Rising
rising_append low mid high [] bs p q = rising_lower low mid high bs p q
rising_append low mid high (r ∷ xs) bs p q = (p.0, rising_append r mid high xs bs p.1 q)

rising_below : (low high : ℕ) (rs : List ℕ) → Rising low high rs → low ≤ high
unfolding Rising
rising_below low high [] p = p
rising_below low high (r ∷ rs) p = let a = p.0 in let b = rising_below r high rs p.1 in omega (arith, a, b)

-- the numbers of a place with a rule
abbrev place : ℕ → ℕ → ℕ → ℕ → List ℕ
place file class member rule = 2 ∷ file ∷ class ∷ member ∷ 0 ∷ rule ∷ []

le_cases : (r s : ℕ) → r ≤ s → (r < s) ⊎ ((r ≡ s) × Unit {0})
le_cases zero zero l = inr (refl, tt)
le_cases zero (suc s) l = inl (omega arith)
le_cases (suc r) zero l = absurd (omega arith)
le_cases (suc r) (suc s) l = ⊎_elim (λ h. inl (omega (arith, h))) (λ h. inr (ap suc h.0, tt))
    (le_cases r s (omega (arith, l)))

upto_rule : (f k m r s : ℕ) → r ≤ s → AreUpTo (place f k m r) (place f k m s)
upto_rule f k m r s l = inr (refl, inr (refl, inr (refl, inr (refl, inr (refl, le_cases r s l)))))

upto_member : (f k m m' : ℕ) → m ≤ m' → AreUpTo (place f k m 0) (place f k m' 0)
upto_member f k m m' l = inr (refl, inr (refl, inr (refl, cases m m' l)))
  where
    cases : (m m' : ℕ) → m ≤ m' → (m < m') ⊎ ((m ≡ m') × AreUpTo (0 ∷ 0 ∷ []) (0 ∷ 0 ∷ []))
    cases zero zero l = inr (refl, upto_refl (0 ∷ 0 ∷ []))
    cases zero (suc m') l = inl (omega arith)
    cases (suc m) zero l = absurd (omega arith)
    cases (suc m) (suc m') l = ⊎_elim (λ h. inl (omega (arith, h))) (λ h. inr (ap suc h.0, h.1))
        (cases m m' (omega (arith, l)))

upto_class : (f k k' m : ℕ) → k < k' → AreUpTo (place f k m 0) (place f k' 0 0)
upto_class f k k' m l = inr (refl, inr (refl, inl l))

upto_next_member : (f k m r : ℕ) → AreUpTo (place f k m r) (place f k (m + 1) 0)
upto_next_member f k m r = inr (refl, inr (refl, inr (refl, inl (omega arith))))

upto_file : (f f' k : ℕ) → f < f' → AreUpTo (place f k 0 0) (place f' 0 0 0)
upto_file f f' k l = inr (refl, inl l)

-- the rules of one place, all of the second hundred
mapped : (f k m low high : ℕ) (at : ℕ → Break) → ((r : ℕ) → numbers (at r).rank ≡ r / 100 ∷ f ∷ k ∷ m ∷ 0 ∷ r ∷ [])
    → 200 ≤ low → high < 300 → (rs : List ℕ) → Rising low high rs
    → Within (place f k m low) (place f k m high) (map at rs)
unfolding Within Rising
mapped f k m low high at is l h [] p = upto_rule f k m low high p
mapped f k m low high at is l h (r ∷ rs) p =
    let below : r ≤ high = rising_below r high rs p.1 in
    let above : 200 ≤ r = let a = p.0 in omega (arith, l, a) in
    let here : numbers (at r).rank ≡ place f k m r = is r ∙ ap (λ n. n ∷ f ∷ k ∷ m ∷ 0 ∷ r
    ∷ []) (hundred 2 r above (let b = below in omega (arith, h, b))) in (
      subst (λ v. AreUpTo (place f k m low) v) (sym here) (upto_rule f k m low r p.0),
      subst (λ v. Within v (place f k m high) (map at rs)) (sym here) (mapped f k m r high at is above h rs p.1),
    )

-- from the front of the place on
placed : (f k m high : ℕ) (at : ℕ → Break) → ((r : ℕ) → numbers (at r).rank ≡ r / 100 ∷ f ∷ k ∷ m ∷ 0 ∷ r ∷ [])
    → high < 300 → (rs : List ℕ) → Rising 200 high rs → Within (place f k m 0) (place f k m high) (map at rs)
placed f k m high at is h rs p = lower (place f k m 0) (place f k m 200) (place f k m high) (map at rs)
    (upto_rule f k m 0 200 (omega arith)) (mapped f k m 200 high at is (omega arith) h rs p)

whole_rises : (p : List ℕ) (w : List Class) (c : Class) → Rising 200 208 (class_rules p w c)
unfolding class_rules
whole_rises p w c =
    let a = rising_when (not c.is_imported && not (is_of_package p c.name)) 200 201 201 (omega arith) (omega arith) in
    let b = rising_when (is_second w c) 201 202 202 (omega arith) (omega arith) in
    let d = rising_when (not c.is_imported && (lists_missing w c || gets_missing w c)) 202 203 203 (omega arith)
    (omega arith) in
    let e = rising_when (is_own_super w c) 203 204 204 (omega arith) (omega arith) in
    let g = rising_when (lists_wrong w c) 204 208 208 (omega arith) (omega arith) in
    let A = when (not c.is_imported && not (is_of_package p c.name)) 201 in
    let B = when (is_second w c) 202 in
    let D = when (not c.is_imported && (lists_missing w c || gets_missing w c)) 203 in
    let E = when (is_own_super w c) 204 in
    let G = when (lists_wrong w c) 208 in
    rising_append 200 204 208 (A ++ B ++ D ++ E) G (rising_append 200 203 204 (A ++ B
    ++ D) E (rising_append 200 202 203 (A ++ B) D (rising_append 200 201 202 A B a b) d) e) g

member_rises : (w : List Class) (c : Class) (ms : List Member) (i : ℕ) (name desc : List ℕ)
    → Rising 200 203 (member_rules w c ms i name desc)
unfolding member_rules
member_rises w c ms i name desc =
    rising_append 200 202 203 (when (is_twice ms i name desc) 202) (when (not c.is_imported && is_desc_missing w desc)
    203)
    (rising_when (is_twice ms i name desc) 200 202 202 (omega arith) (omega arith)) (rising_when (not c.is_imported
    && is_desc_missing w desc) 202 203 203 (omega arith) (omega arith))

members_within : (f : FileKey) (fn : List ℕ) (k : ℕ) (w : List Class) (c : Class) (field : Bool) (i : ℕ)
    (ms : List Member)
    → Within (place (file_number f) k (members_before field c + i + 1) 0) (place (file_number f) k
    (members_before field c + i + length ms + 1) 0) (members_from f fn k w c field i ms)
unfolding Within members_from
members_within f fn k w c field i [] = upto_member (file_number f) k (members_before field c + i + 1)
    (members_before field c + i + 0 + 1) (omega arith)
members_within f fn k w c field i (m ∷ ms) =
    let at = λ (rule : ℕ). at_member f fn k c.name (members_before field c + i + 1) (told field m.name m.desc) rule in
    let rules = member_rules w c (members field c) i m.name m.desc in
    let here = placed (file_number f) k (members_before field c + i + 1) 203 at (λ r. refl) (omega arith) rules
    (member_rises w c (members field c) i m.name m.desc) in
    let rest = members_within f fn k w c field (i + 1) ms in
    let next = upto_trans (place (file_number f) k (members_before field c + i + 1) 203) (place (file_number f) k
    (members_before field c + i + 1 + 1) 0) (place (file_number f) k (members_before field c + (i + 1) + 1) 0)
    (upto_next_member (file_number f) k (members_before field c + i + 1) 203) (upto_member (file_number f) k
    (members_before field c + i + 1 + 1) (members_before field c + (i + 1) + 1) (omega arith)) in
    raised (place (file_number f) k (members_before field c + i + 1) 0) (place (file_number f) k (members_before field c
    + (i + 1) + length ms + 1) 0) (place (file_number f) k (members_before field c + i + suc (length ms) + 1) 0)
    (map at rules ++ members_from f fn k w c field (i + 1) ms)
    (joined (place (file_number f) k (members_before field c + i + 1) 0) (place (file_number f) k
    (members_before field c + i + 1) 203) (place (file_number f) k (members_before field c + (i + 1) + 1) 0)
    (place (file_number f) k (members_before field c + (i + 1) + length ms + 1) 0) (map at rules)
    (members_from f fn k w c field (i + 1) ms) here next rest)
    (upto_member (file_number f) k (members_before field c + (i + 1) + length ms + 1) (members_before field c + i + suc
    (length ms) + 1) (omega arith))

class_within : (p : List ℕ) (f : FileKey) (fn : List ℕ) (k : ℕ) (w : List Class) (c : Class)
    → Within (place (file_number f) k 0 0) (place (file_number f) (k + 1) 0 0) (class_breaks p f fn k w c)
unfolding class_breaks
class_within p f fn k w c =
    let at = λ (rule : ℕ). at_class f fn k c.name rule in
    let rules = class_rules p w c in
    let fields = members_from f fn k w c true 0 c.fields in
    let methods = members_from f fn k w c false 0 c.methods in
    let here = placed (file_number f) k 0 208 at (λ r. refl) (omega arith) rules (whole_rises p w c) in
    let front = joined (place (file_number f) k 0 0) (place (file_number f) k 0 208) (place (file_number f) k
    (0 + 0 + 1) 0) (place (file_number f) k (0 + 0 + length c.fields + 1) 0) (map at rules) fields here
    (upto_next_member (file_number f) k 0 208) (members_within f fn k w c true 0 c.fields) in
    raised (place (file_number f) k 0 0) (place (file_number f) k (length c.fields + 0 + length c.methods + 1) 0)
    (place (file_number f) (k + 1) 0 0) (map at rules ++ fields ++ methods)
    (joined (place (file_number f) k 0 0) (place (file_number f) k (0 + 0 + length c.fields + 1) 0)
    (place (file_number f) k (length c.fields + 0 + 1) 0) (place (file_number f) k (length c.fields + 0 + length
    c.methods + 1) 0) (map at rules ++ fields) methods front (upto_member (file_number f) k (0 + 0 + length c.fields
    + 1) (length c.fields + 0 + 1) (omega arith)) (members_within f fn k w c false 0 c.methods))
    (upto_class (file_number f) k (k + 1) (length c.fields + 0 + length c.methods + 1) (omega arith))

classes_within : (p : List ℕ) (f : FileKey) (fn : List ℕ) (k : ℕ) (w : List Class) (cs : List Class)
    → Within (place (file_number f) k 0 0) (place (file_number f + 1) 0 0 0) (classes_breaks p f fn k w cs)
unfolding Within classes_breaks
classes_within p f fn k w [] = upto_file (file_number f) (file_number f + 1) k (omega arith)
classes_within p f fn k w (c ∷ cs) =
    joined (place (file_number f) k 0 0) (place (file_number f) (k + 1) 0 0) (place (file_number f) (k + 1) 0 0)
    (place (file_number f + 1) 0 0 0) (class_breaks p f fn k w c) (classes_breaks p f fn (k + 1) w cs)
    (class_within p f fn k w c) (upto_refl (place (file_number f) (k + 1) 0 0)) (classes_within p f fn (k + 1) w cs)

class_file_within : (files : Files) (f : FileKey) (fn : List ℕ) (w : List Class) (n : ℕ) (o : Option ClassTree)
    → Within (place (file_number f) 0 0 0) (place (file_number f + 1) 0 0 0) (class_file_breaks files f fn w n o)
unfolding Within
class_file_within files f fn w n None = upto_file (file_number f) (file_number f + 1) 0 (omega arith)
class_file_within files f fn w n (Some c) =
    lower (place (file_number f) 0 0 0) (place (file_number f) 1 0 0) (place (file_number f + 1) 0 0 0)
    (class_breaks files.package_name f fn 1 w (declared n c)) (upto_class (file_number f) 0 1 0 (omega arith))
    (raised (place (file_number f) 1 0 0) (place (file_number f) 2 0 0) (place (file_number f + 1) 0 0 0)
    (class_breaks files.package_name f fn 1 w (declared n c)) (class_within files.package_name f fn 1 w
    (declared n c)) (upto_file (file_number f) (file_number f + 1) 2 (omega arith)))

export_file_within : (files : Files) (f : FileKey) (fn : List ℕ) (w : List Class) (e n : ℕ) (o : Option ExportTree)
    → Within (place (file_number f) 0 0 0) (place (file_number f + 1) 0 0 0) (export_file_breaks files f fn w e n o)
unfolding Within
export_file_within files f fn w e n None = upto_file (file_number f) (file_number f + 1) 0 (omega arith)
export_file_within files f fn w e n (Some t) =
    let at = λ (rule : ℕ). at_class f fn 0 [] rule in
    let rules = when (is_second_package files e t) 202 in
    joined (place (file_number f) 0 0 0) (place (file_number f) 0 0 202) (place (file_number f) 1 0 0)
    (place (file_number f + 1) 0 0 0) (map at rules) (classes_breaks files.package_name f fn 1 w
    (numbered n t.classes))
    (placed (file_number f) 0 0 202 at (λ r. refl) (omega arith) rules (rising_when (is_second_package files e t) 200
    202 202 (omega arith) (omega arith)))
    (upto_trans (place (file_number f) 0 0 202) (place (file_number f) 0 1 0) (place (file_number f) 1 0 0)
    (upto_next_member (file_number f) 0 0 202) (upto_class (file_number f) 0 1 1 (omega arith)))
    (classes_within files.package_name f fn 1 w (numbered n t.classes))

files_within : (files : Files) (w : List Class) (k c e i : ℕ) (lines : List FileLine)
    → Within (place (k + 1) 0 0 0) (place (k + length lines + 1) 0 0 0) (breaks_from files w k c e i lines)
unfolding Within breaks_from
files_within files w k c e i [] = subst (λ n. AreUpTo (place (k + 1) 0 0 0) (place n 0 0 0)) (let s : k + 1
    ≡ k + 0 + 1 = omega arith in s) (upto_refl (place (k + 1) 0 0 0))
files_within files w k c e i (line ∷ lines) = by line.class_file (λ c e i. files_within files w (k + 1) c e i lines)
  where
    same : k + 1 + length lines + 1 ≡ k + suc (length lines) + 1
    same = omega arith

    by : (b : Bool) → ((c e i : ℕ) → Within (place (k + 1 + 1) 0 0 0) (place (k + 1 + length lines + 1) 0 0 0)
        (breaks_from files w (k + 1) c e i lines))
        → Within (place (k + 1) 0 0 0) (place (k + suc (length lines) + 1) 0 0 0)
        (if b then class_file_breaks files (keys.Line k) line.name w c (slice_get files.classes c)
        ++ breaks_from files w (k + 1) (c + 1) e i lines
        else export_file_breaks files (keys.Line k) line.name w e i (slice_get files.exports e)
        ++ breaks_from files w (k + 1) c (e + 1) (i + size (slice_get files.exports e)) lines)
    by true rec = joined (place (k + 1) 0 0 0) (place (k + 1 + 1) 0 0 0) (place (k + 1 + 1) 0 0 0)
        (place (k + suc (length lines) + 1) 0 0 0) (class_file_breaks files (keys.Line k) line.name w c
        (slice_get files.classes c)) (breaks_from files w (k + 1) (c + 1) e i lines)
        (class_file_within files (keys.Line k) line.name w c (slice_get files.classes c))
        (upto_refl (place (k + 1 + 1) 0 0 0))
        (subst (λ n. Within (place (k + 1 + 1) 0 0 0) (place n 0 0 0) (breaks_from files w (k + 1) (c + 1) e i lines))
        same (rec (c + 1) e i))
    by false rec = joined (place (k + 1) 0 0 0) (place (k + 1 + 1) 0 0 0) (place (k + 1 + 1) 0 0 0)
        (place (k + suc (length lines) + 1) 0 0 0) (export_file_breaks files (keys.Line k) line.name w e i
        (slice_get files.exports e)) (breaks_from files w (k + 1) c (e + 1) (i + size (slice_get files.exports e))
        lines)
        (export_file_within files (keys.Line k) line.name w e i (slice_get files.exports e))
        (upto_refl (place (k + 1 + 1) 0 0 0))
        (subst (λ n. Within (place (k + 1 + 1) 0 0 0) (place n 0 0 0) (breaks_from files w (k + 1) c (e + 1)
        (i + size (slice_get files.exports e)) lines)) same (rec c (e + 1) (i + size (slice_get files.exports e))))

all_within : (list : List ℕ) (files : Files) → Within (place 0 0 0 0) (place (0 + length files.lines + 1) 0 0 0)
    (breaks list files)
unfolding breaks
all_within list files =
    let at = λ (rule : ℕ). broken_at (list_spot list) rule in
    let rules = when (not (has_language (all_classes files) files.exports)) 207 in
    joined (place 0 0 0 0) (place 0 0 0 207) (place (0 + 1) 0 0 0) (place (0 + length files.lines + 1) 0 0 0)
    (map at rules) (breaks_from files (all_classes files) 0 0 0 0 files.lines)
    (placed 0 0 0 207 at (λ r. refl) (omega arith) rules
    (rising_when (not (has_language (all_classes files) files.exports)) 200 207 207 (omega arith) (omega arith)))
    (upto_trans (place 0 0 0 207) (place 0 0 1 0) (place 1 0 0 0) (upto_next_member 0 0 0 207)
    (upto_trans (place 0 0 1 0) (place 0 1 0 0) (place 1 0 0 0) (upto_class 0 0 1 1 (omega arith))
    (upto_file 0 1 1 (omega arith))))
    (files_within files (all_classes files) 0 0 0 0 files.lines)

pub first_is_first : (list : List ℕ) (files : Files) (b : Break) → head (breaks list files) ≡ Some b
    → IsFirst b (breaks list files)
first_is_first list files b e = first_of_all (place 0 0 0 0) (place (0 + length files.lines + 1) 0 0 0) b
    (breaks list files) (all_within list files) e
