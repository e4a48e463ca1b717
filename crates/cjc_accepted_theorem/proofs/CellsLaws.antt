-- The cell of a static field is that of no other: the entry of a static field names a field of its descriptor.
use Rattle.std.proofs.Common.{◌≡◌, ℕ, zero, suc, ◌+◌, ◌<◌, ◌≤◌, ◌==◌, refl, sym, ap, ◌∙◌, arith, Bool, true}
use Rattle.std.proofs.Common.{false, List, [], ◌∷◌}
use Rattle.std.specs.Prelude.{◌&&◌, ◌||◌, if◌then◌else◌, cond, Some, slice_get}
use Rattle.std.specs.List.{AllByRecursion, find, list_any}
use Rattle.std.specs.Str.{bytes_eq}
use Rattle.cjc_verified_proof.specs.Bytes.declared.fault.MemberId.{MemberId}
use Rattle.cjc_verified_proof.proofs.BytesGets.{find_got}
use Rattle.cjc_verified_proof.proofs.BytesLists.{bytes_true, name_is}
use Rattle.cjc_verified_proof.proofs.BytesNumbers.{like_number, number_same}
use Rattle.cjc_verified_proof.specs.Components.Statics.{cell_offset, cell_order, offset_from, size_of_field}
use Rattle.cjc_verified_proof.specs.NCode.PoolOrder.{same_member}
use Rattle.cjc_verified_proof.specs.World.declared.image.StaticImage.{StaticImage}

-- a member that is the same one
same_is : (f g : MemberId) → same_member f g ≡ true → f ≡ g
same_is f g e = by (bytes_eq f.class g.class) refl (bytes_eq f.name g.name) refl (bytes_eq f.desc g.desc) refl e
  where
    by : (a : Bool) → bytes_eq f.class g.class ≡ a → (b : Bool) → bytes_eq f.name g.name ≡ b → (c : Bool)
        → bytes_eq f.desc g.desc ≡ c → (a && (b && c)) ≡ true → f ≡ g
    by true x true y true z h =
        ap (λ v. record f { class = v }) (bytes_true f.class g.class x)
        ∙ ap (λ v. record f { class = g.class; name = v }) (bytes_true f.name g.name y)
        ∙ ap (λ v. record g { desc = v }) (bytes_true f.desc g.desc z)
    by true x true y false z h = absurd cc
    by true x false y c z h = absurd cc
    by false x b y c z h = absurd cc

-- one of these is the field
place_of : (fields : List MemberId) (f : MemberId) → list_any (λ (g : MemberId). same_member g f) fields ≡ true
    → (k : ℕ) × (slice_get fields k ≡ Some f)
place_of [] f e = absurd cc
place_of (g ∷ fields) f e = by (same_member g f) refl e (place_of fields f)
  where
    by : (b : Bool) → same_member g f ≡ b → (b || list_any (λ (h : MemberId). same_member h f) fields) ≡ true
        → (list_any (λ (h : MemberId). same_member h f) fields ≡ true → (k : ℕ) × (slice_get fields k ≡ Some f))
        → (k : ℕ) × (slice_get (g ∷ fields) k ≡ Some f)
    by true is h more = (0, ap Some (same_is g f is))
    by false is h more = let r = more h in (suc r.0, r.1)

not_before : (at : ℕ) (fields : List MemberId) (f : MemberId) → at ≤ offset_from at fields f
not_before at [] f = omega arith
not_before at (g ∷ fields) f = by (same_member g f) (not_before (at + size_of_field g) fields f)
  where
    by : (b : Bool) → at + size_of_field g ≤ offset_from (at + size_of_field g) fields f
        → at ≤ (if b then at else offset_from (at + size_of_field g) fields f)
    by true le = omega arith
    by false le = omega (arith, le)

-- fields with one offset are one
one_offset : (at : ℕ) (fields : List MemberId) (f g : MemberId) (j k : ℕ) → AllByRecursion (λ (h : MemberId). 0 <
    size_of_field h) fields → slice_get fields j ≡ Some f → slice_get fields k ≡ Some g → offset_from at fields f
    ≡ offset_from at fields g → f ≡ g
one_offset at [] f g j k some e h same = absurd cc
one_offset at (x ∷ fields) f g j k some e h same =
    by (same_member x f) refl (same_member x g) refl same (λ i l p q r. one_offset (at + size_of_field x) fields f g i l
    some.1 p q r)
  where
    itself : (y : MemberId) → same_member y y ≡ true
    itself y = ap (λ a. a && (bytes_eq y.name y.name && bytes_eq y.desc y.desc)) (name_is y.class)
        ∙ ap (λ a. a && bytes_eq y.desc y.desc) (name_is y.name) ∙ name_is y.desc

    later : (f : MemberId) (j : ℕ) → slice_get (x ∷ fields) j ≡ Some f → same_member x f ≡ false → (i : ℕ)
        × (slice_get fields i ≡ Some f)
    later f zero e off = let one : x ≡ f = cc in let on : same_member x f ≡ true = ap (same_member x) (sym one)
        ∙ itself x in absurd cc
    later f (suc i) e off = (i, e)

    low : (h : MemberId) → at < offset_from (at + size_of_field x) fields h
    low h = let le = not_before (at + size_of_field x) fields h in let more = some.0 in omega (arith, le, more)

    by : (a : Bool) → same_member x f ≡ a → (b : Bool) → same_member x g ≡ b
        → (if a then at else offset_from (at + size_of_field x) fields f) ≡ (if b then at
        else offset_from (at + size_of_field x) fields g)
        → ((i l : ℕ) → slice_get fields i ≡ Some f → slice_get fields l ≡ Some g
        → offset_from (at + size_of_field x) fields f ≡ offset_from (at + size_of_field x) fields g → f ≡ g) → f ≡ g
    by true p true q r rest = sym (same_is x f p) ∙ same_is x g q
    by true p false q r rest = let l = low g in absurd (omega (arith, l, r))
    by false p true q r rest = let l = low f in absurd (omega (arith, l, r))
    by false p false q r rest =
        let i = later f j e p in
        let l = later g k h q in
        rest i.0 l.0 i.1 l.1 r

-- what passes is found
pub found_one : {A : Type 0} (test : A → Bool) (xs : List A) (k : ℕ) (x : A) → slice_get xs k ≡ Some x → test x ≡ true
    → (y : A) × (find test xs ≡ Some y)
found_one test [] k x e t = absurd cc
found_one {A} test (y ∷ xs) k x e t = by (test y) refl k e (λ i h. found_one test xs i x h t)
  where
    by : (b : Bool) → test y ≡ b → (k : ℕ) → slice_get (y ∷ xs) k ≡ Some x → ((i : ℕ) → slice_get xs i ≡ Some x
        → (z : A) × (find test xs ≡ Some z)) → (z : A) × (cond b (Some y) (find test xs) ≡ Some z)
    by true is k h rest = (y, refl)
    by false is zero h rest = let one : y ≡ x = cc in let on : test y ≡ true = ap test one ∙ t in absurd cc
    by false is (suc i) h rest = rest i h

-- the field whose cell stands where that of a field does is that field
pub cell_found : (image : StaticImage) (f : MemberId) → AllByRecursion (λ (h : MemberId). 0 < size_of_field h)
    (cell_order image) → list_any (λ (g : MemberId). same_member g f) (cell_order image) ≡ true
    → find (λ (g : MemberId). cell_offset image g == cell_offset image f) (cell_order image) ≡ Some f
cell_found image f some has =
    let test = λ (g : MemberId). cell_offset image g == cell_offset image f in
    let at = place_of (cell_order image) f has in
    let r = found_one test (cell_order image) at.0 f at.1 (like_number (cell_offset image f)) in
    let got = find_got test (cell_order image) r.0 r.1 in
    r.1 ∙ ap Some (one_offset 0 (cell_order image) r.0 f got.0 at.0 some got.1 at.1 (number_same (cell_offset image r.0)
    (cell_offset image f) got.2))
