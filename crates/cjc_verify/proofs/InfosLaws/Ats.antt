-- The offsets of methods that code keeps are those of Descriptor.
use Rattle.std.proofs.Common.{◌≡◌, ℕ, zero, suc, ◌+◌, ◌<◌, ◌≤◌, Bool, true, false, List, [], ◌∷◌, ◌++◌, length, drop}
use Rattle.std.proofs.Common.{map}
use Rattle.std.proofs.Common.{append_assoc, append-nil, get_or, refl, sym, ap, ◌∙◌, take, arith}
use Rattle.std.specs.Prelude.{if◌then◌else◌, Option, Some, None, option_map, slice_get, unwrap_or}
use Rattle.std.specs.List.{find}
use Rattle.std.proofs.lemmas.List.{map-append}
use Rattle.cjc_bytes.proofs.Gets.{drop_next, drop_past, one_taken, take_past}
use Rattle.cjc_capread.specs.declared.tree.ClassDescriptor.{ClassDescriptor}
use Rattle.cjc_capread.specs.declared.tree.ClassRef.{ClassRef}
use Rattle.cjc_capread.specs.declared.tree.MethodDescriptor.{MethodDescriptor}
use Rattle.cjc_world.specs.ClassFile.declared.tree.ClassTree.{ClassTree}
use Rattle.cjc_world.specs.declared.found.Found.{Found}
use Rattle.cjc_world.specs.Files.{Files}
use Rattle.cjc_world.specs.Classes.{Class, all_classes, declared}
use Rattle.cjc_world.specs.Order.{class_order, methods_of_class}
use Rattle.cjc_classes.specs.ClassOrder.Classes.Numbers.{declared_at}
use Rattle.cjc_verify.specs.Offsets.{ats_among, ats_at, ats_by, ats_in, ats_where, offset_among}
use Rattle.cjc_verify.specs.Pairs.{Described, Pair, described, described_among, described_in, method_offset, same_found}
use Rattle.cjc_verify.specs.Pairs.{world}
use Rattle.cjc_verify.specs.declared.infos.offsets.MethodAt.{MethodAt}

-- ---- methods beside their descriptors

-- the method at a place, where there are both
pub at_both : (fs : List Found) (ms : List MethodDescriptor) (k : ℕ) (f : Found) (m : MethodDescriptor)
    → slice_get fs k ≡ Some f → slice_get ms k ≡ Some m → slice_get (ats_in fs ms) k
    ≡ Some (record { found = f; offset = m.offset })
at_both [] ms k f m e g = cc
at_both (x ∷ fs) [] k f m e g = cc
at_both (x ∷ fs) (y ∷ ms) zero f m e g =
    let a : x ≡ f = cc in
    let b : y ≡ m = cc in
    ap (λ (q : Found). Some (record { found = q; offset = y.offset })) a
    ∙ ap (λ (q : MethodDescriptor). Some (record { found = f; offset = q.offset })) b
at_both (x ∷ fs) (y ∷ ms) (suc k) f m e g = at_both fs ms k f m e g

pub no_member : (fs : List Found) (ms : List MethodDescriptor) (k : ℕ) → slice_get fs k ≡ None
    → slice_get (ats_in fs ms) k ≡ None
no_member [] [] k e = refl
no_member [] (y ∷ ms) k e = refl
no_member (x ∷ fs) [] k e = refl
no_member (x ∷ fs) (y ∷ ms) zero e = cc
no_member (x ∷ fs) (y ∷ ms) (suc k) e = no_member fs ms k e

pub no_descriptor : (fs : List Found) (ms : List MethodDescriptor) (k : ℕ) → slice_get ms k ≡ None
    → slice_get (ats_in fs ms) k ≡ None
no_descriptor [] [] k e = refl
no_descriptor [] (y ∷ ms) k e = refl
no_descriptor (x ∷ fs) [] k e = refl
no_descriptor (x ∷ fs) (y ∷ ms) zero e = cc
no_descriptor (x ∷ fs) (y ∷ ms) (suc k) e = no_descriptor fs ms k e

pub at_most : (fs : List Found) (ms : List MethodDescriptor) → length (ats_in fs ms) ≤ length fs
at_most [] [] = omega arith
at_most [] (y ∷ ms) = omega arith
at_most (x ∷ fs) [] = omega arith
at_most (x ∷ fs) (y ∷ ms) = let h = at_most fs ms in omega (arith, h)

-- ---- a row that grows by what is taken of a list

pub taken_more : {A : Type 0} (before row new xs : List A) (k : ℕ) (x : A) → Some x ≡ slice_get xs k
    → row ≡ before ++ take k xs → new ≡ row ++ x ∷ [] → new ≡ before ++ take (k + 1) xs
taken_more {A} before row new xs k x e so_far put =
    put
    ∙ ap (λ (q : List A). q ++ x ∷ []) so_far
    ∙ append_assoc before (take k xs) (x ∷ [])
    ∙ ap (λ (q : List A). before ++ q) (sym (one_taken xs k x e))

pub taken_off : {A : Type 0} (before row xs : List A) (k : ℕ) → None ≡ slice_get xs k → row ≡ before ++ take k xs
    → row ≡ before ++ xs
taken_off {A} before row xs k e so_far = so_far ∙ ap (λ (q : List A). before ++ q) (by xs k (sym e))
  where
    by : (xs : List A) (k : ℕ) → slice_get xs k ≡ None → take k xs ≡ xs
    by [] zero e = refl
    by [] (suc k) e = refl
    by (x ∷ xs) zero e = cc
    by (x ∷ xs) (suc k) e = ap (λ q. x ∷ q) (by xs k e)

pub taken_all : {A : Type 0} (before row xs : List A) (k : ℕ) → length xs ≤ k → row ≡ before ++ take k xs
    → row ≡ before ++ xs
taken_all {A} before row xs k le so_far = so_far ∙ ap (λ (q : List A). before ++ q) (take_past xs k le)

-- ---- the methods of the classes of numbers

pub ats_more : (files : Files) (ns : List ℕ) (ds : List ClassDescriptor) (i n : ℕ) (d : ClassDescriptor)
    (row new all : List MethodAt) → i < length ns → n ≡ get_or ns i n → i < length ds → d ≡ get_or ds i d
    → new ≡ row ++ ats_at files n d → row ++ ats_by files (drop i ns) (drop i ds) ≡ all
    → new ++ ats_by files (drop (i + 1) ns) (drop (i + 1) ds) ≡ all
ats_more files ns ds i n d row new all lt is lt_d is_d put so_far =
    let rest = ats_by files (drop (i + 1) ns) (drop (i + 1) ds) in
    ap (λ (q : List MethodAt). q ++ rest) put
    ∙ append_assoc row (ats_at files n d) rest
    ∙ ap (λ (q : List ℕ). row ++ ats_by files q (d ∷ drop (i + 1) ds)) (sym (drop_next ns i n lt is))
    ∙ ap (λ (q : List ClassDescriptor). row ++ ats_by files (drop i ns) q) (sym (drop_next ds i d lt_d is_d))
    ∙ so_far

none_by : (files : Files) (ns : List ℕ) → ats_by files ns [] ≡ []
none_by files [] = refl
none_by files (n ∷ ns) = refl

pub ats_short : (files : Files) (ns : List ℕ) (ds : List ClassDescriptor) (i : ℕ) (row all : List MethodAt)
    → length ds ≤ i → row ++ ats_by files (drop i ns) (drop i ds) ≡ all → row ≡ all
ats_short files ns ds i row all le so_far =
    sym (append-nil row)
    ∙ ap (λ (q : List MethodAt). row ++ q) (sym (none_by files (drop i ns)))
    ∙ ap (λ (q : List ClassDescriptor). row ++ ats_by files (drop i ns) q) (sym (drop_past ds i le))
    ∙ so_far

pub ats_end : (files : Files) (ns : List ℕ) (ds : List ClassDescriptor) (i : ℕ) (row all : List MethodAt)
    → length ns ≤ i → row ++ ats_by files (drop i ns) (drop i ds) ≡ all → row ≡ all
ats_end files ns ds i row all le so_far =
    sym (append-nil row)
    ∙ ap (λ (q : List ℕ). row ++ ats_by files q (drop i ds)) (sym (drop_past ns i le))
    ∙ so_far

-- ---- they are those of Descriptor

-- a method with its offset
abbrev at_of : Described → MethodAt
at_of d = let m = d.method in record { found = d.member; offset = m.offset }

in_class : (c : Class) (holder : ClassRef) (fs : List Found) (ms : List MethodDescriptor)
    → map at_of (described_in c holder fs ms) ≡ ats_in fs ms
in_class c holder [] [] = refl
in_class c holder [] (m ∷ ms) = refl
in_class c holder (f ∷ fs) [] = refl
in_class c holder (f ∷ fs) (m ∷ ms) = ap (λ (q : List MethodAt). record { found = f; offset = m.offset } ∷ q)
    (in_class c holder fs ms)

among : (w cs : List Class) (ds : List ClassDescriptor) → map at_of (described_among w cs ds) ≡ ats_among w cs ds
among w [] [] = refl
among w [] (d ∷ ds) = refl
among w (c ∷ cs) [] = refl
among w (c ∷ cs) (d ∷ ds) =
    map-append at_of (described_in c d.this_class (methods_of_class w c) d.methods) (described_among w cs ds)
    ∙ ap (λ (q : List MethodAt). q ++ map at_of (described_among w cs ds)) (in_class c d.this_class
    (methods_of_class w c) d.methods)
    ∙ ap (λ (q : List MethodAt). ats_in (methods_of_class w c) d.methods ++ q) (among w cs ds)

by_numbers : (files : Files) (ns : List ℕ) (cs : List Class) (ds : List ClassDescriptor)
    → map Some cs ≡ map (declared_at files.classes) ns → ats_by files ns ds ≡ ats_among (all_classes files) cs ds
by_numbers files [] [] ds e = refl
by_numbers files [] (c ∷ cs) ds e = cc
by_numbers files (n ∷ ns) [] ds e = cc
by_numbers files (n ∷ ns) (c ∷ cs) [] e = refl
by_numbers files (n ∷ ns) (c ∷ cs) (d ∷ ds) e =
    let first : Some c ≡ declared_at files.classes n = cc in
    let rest : map Some cs ≡ map (declared_at files.classes) ns = cc in
    ap (λ (q : List MethodAt). q ++ ats_by files ns ds) (by (slice_get files.classes n) first)
    ∙ ap (λ (q : List MethodAt). ats_in (methods_of_class (all_classes files) c) d.methods ++ q) (by_numbers files ns cs
    ds rest)
  where
    by : (o : Option ClassTree) → Some c ≡ option_map (declared n) o → ats_where files n d o
        ≡ ats_in (methods_of_class (all_classes files) c) d.methods
    by None is = cc
    by (Some t) is =
        let same : c ≡ declared n t = cc in
        ap (λ (x : Class). ats_in (methods_of_class (all_classes files) x) d.methods) (sym same)

found_so : (ds : List Described) (f : Found) → offset_among (map at_of ds) f
    ≡ unwrap_or (option_map (λ (d : Described). let m = d.method in m.offset) (find (λ (d : Described). same_found
    d.member f) ds)) 0
found_so [] f = refl
found_so (d ∷ ds) f = by (same_found d.member f) (found_so ds f)
  where
    by : (b : Bool) → offset_among (map at_of ds) f ≡ unwrap_or (option_map (λ (d : Described). let m = d.method
        in m.offset) (find (λ (d : Described). same_found d.member f) ds)) 0
        → unwrap_or (option_map (λ (m : MethodAt). m.offset) (if b then Some (at_of d) else find (λ (m : MethodAt).
        same_found m.found f) (map at_of ds))) 0
        ≡ unwrap_or (option_map (λ (d : Described). let m = d.method in m.offset) (if b then Some d
        else find (λ (d : Described). same_found d.member f) ds)) 0
    by true e = refl
    by false e = e

pub ats_are : (p : Pair) (files : Files) → p.files ≡ files → (ds : List ClassDescriptor)
    → p.components.descriptor.classes ≡ ds → (ns : List ℕ)
    → map Some (class_order (all_classes files)) ≡ map (declared_at files.classes) ns → (row : List MethodAt)
    → row ≡ ats_by files ns ds → (f : Found) → offset_among row f ≡ method_offset p f
ats_are p files is ds are ns order row e f =
    ap (λ (q : List MethodAt). offset_among q f) (e
    ∙ by_numbers files ns (class_order (all_classes files)) ds order
    ∙ ap (λ (q : Files). ats_among (all_classes q) (class_order (all_classes q)) ds) (sym is)
    ∙ ap (ats_among (world p) (class_order (world p))) (sym are)
    ∙ sym (among (world p) (class_order (world p)) p.components.descriptor.classes))
    ∙ found_so (described p) f
