-- Places by token that are put down one by one.
use Rattle.std.proofs.Common.{◌≡◌, ℕ, suc, ◌+◌, ◌≤◌, ◌==◌, Bool, true, false, List, [], ◌∷◌, length, drop}
use Rattle.std.proofs.Common.{refl, sym, ap, ◌∙◌, arith, Option, Some, None}
use Rattle.std.specs.Prelude.{◌&&◌, ◌||◌, slice_get}
use Rattle.std.specs.List.{list_any, find}
use Rattle.std.proofs.lemmas.List.{drop_all}
use Rattle.cjc_capread.specs.Bytes.AccessFlags.{is_static}
use Rattle.cjc_capread.specs.ClassRefs.{is_inside}
use Rattle.cjc_capread.specs.declared.tree.ClassDescriptor.{ClassDescriptor}
use Rattle.cjc_capread.specs.declared.tree.ExportedClass.{ExportedClass}
use Rattle.cjc_capread.specs.declared.tree.MethodDescriptor.{MethodDescriptor}
use Rattle.cjc_check_rules.specs.Members.{is_constructor}
use Rattle.cjc_check_tables.specs.Exported.{class_in, first_place, has_start, place_from}
use Rattle.cjc_check_index.proofs.ImportedLaws.Loops.{or_false}
use Rattle.cjc_check_index.proofs.ImportedLaws.Edges.{and_true}
use Rattle.cjc_capread.proofs.BytesBools.{and_false, bool_either}

-- ---- methods

-- a method that is asked for: static or a constructor with this token and this start, which is one of a class
abbrev pub is_asked : (start : ℕ → Bool) → (token offset : ℕ) → MethodDescriptor → Bool
is_asked start token offset m = (m.token == token) && (is_static m.flags || is_constructor m.flags)
    && (m.offset == offset) && start offset

in_front : (t : Bool) (p : MethodDescriptor → Bool) (ms : List MethodDescriptor) → list_any (λ m. p m && t) ms
    ≡ (t && list_any p ms)
in_front true p [] = refl
in_front false p [] = refl
in_front true p (m ∷ ms) = ap (λ (b : Bool). b || list_any (λ x. p x && true) ms) (and_true (p m))
    ∙ ap (λ (b : Bool). p m || b) (in_front true p ms)
in_front false p (m ∷ ms) = ap (λ (b : Bool). b || list_any (λ x. p x && false) ms) (and_false (p m))
    ∙ in_front false p ms

pub marks_all : (start : ℕ → Bool) (n offset i : ℕ) (ms : List MethodDescriptor) (mark : Bool) → length ms ≤ i
    → (mark || list_any (is_asked start n offset) (drop i ms)) ≡ list_any (is_asked start n offset) ms
    → mark ≡ (start offset && has_start ms n offset)
marks_all start n offset i ms mark le so_far =
    sym (or_false mark) ∙ sym (ap (λ (ys : List MethodDescriptor). mark || list_any (is_asked start n offset) ys)
    (drop_all i ms le)) ∙ so_far
    ∙ in_front (start offset) (λ m. (m.token == n) && (is_static m.flags || is_constructor m.flags)
    && (m.offset == offset)) ms

-- ---- classes

-- the place that is kept, or else the first of those that are to come
abbrev pub kept_or : Option ℕ → Option ℕ → Option ℕ
kept_or None later = later
kept_or (Some k) later = Some k

here_is : (at : ℕ) (ds : List ClassDescriptor) (n offset : ℕ) (all : List ClassDescriptor)
    → ((k : ℕ) → slice_get ds k ≡ slice_get all (at + k)) → class_in all (place_from at ds n offset)
    ≡ find (λ d. (d.token == n) && is_inside d.this_class offset) ds
here_is at [] n offset all h = refl
here_is at (d ∷ ds) n offset all h =
    bool_either ((d.token == n) && is_inside d.this_class offset)
    (λ yes. let e : at + 0 ≡ at = omega arith in rw yes (sym (ap (slice_get all) e) ∙ sym (h 0)))
    (λ no. rw no (here_is (at + 1) ds n offset all (λ k. h (suc k) ∙ (let e : at + suc k ≡ at + 1 + k = omega arith
    in ap (slice_get all) e))))

pub class_there : (ds classes : List ClassDescriptor) (n : ℕ) (e x : ExportedClass) (place : Option ℕ) → classes ≡ ds
    → e ≡ x → place ≡ first_place classes n x.class_offset
    → class_in ds place ≡ find (λ d. (d.token == n) && is_inside d.this_class e.class_offset) ds
class_there ds classes n e x place same is p =
    ap (class_in ds) (p ∙ ap (λ (cs : List ClassDescriptor). first_place cs n x.class_offset) same
    ∙ ap (λ (y : ExportedClass). first_place ds n y.class_offset) (sym is))
    ∙ here_is 0 ds n e.class_offset ds (λ k. let s : k ≡ 0 + k = omega arith in ap (slice_get ds) s)
