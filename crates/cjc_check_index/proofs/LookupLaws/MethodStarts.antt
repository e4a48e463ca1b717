-- Kept offsets of methods are those of the methods of classes.
use Rattle.std.proofs.Common.{◌≡◌, ℕ, ◌+◌, ◌<◌, ◌≤◌, ◌==◌, Bool, true, false, List, [], ◌∷◌, ◌++◌, length, get_or, drop}
use Rattle.std.proofs.Common.{refl, sym, ap, ◌∙◌, append_assoc, append-nil}
use Rattle.std.specs.Prelude.{◌&&◌, ◌||◌, flat_map, filter}
use Rattle.std.specs.List.{list_any}
use Rattle.std.proofs.lemmas.List.{drop_more, drop_all}
use Rattle.std.proofs.lemmas.List.Folds.{list_any-append}
use Rattle.cjc_check_rules.specs.LowerBytes.AccessFlags.{is_static}
use Rattle.cjc_check_rules.specs.CapRead.declared.tree.ClassInfo.{ClassInfo}
use Rattle.cjc_check_rules.specs.CapRead.declared.tree.ClassDescriptor.{ClassDescriptor}
use Rattle.cjc_check_rules.specs.CapRead.declared.tree.MethodDescriptor.{MethodDescriptor}
use Rattle.cjc_check_rules.specs.Classes.{is_own_class}
use Rattle.cjc_check_index.specs.Lookup.MethodStarts.{is_asked, offset_of, offsets_of, class_offsets, all_offsets}
use Rattle.cjc_check_index.proofs.ImportedLaws.Loops.{or_false}
use Rattle.cjc_check_index.proofs.ImportedLaws.Edges.{and_true}
use Rattle.cjc_check_rules.proofs.BytesBools.{and_false, bool_either}

-- ---- loops

pub offsets_more : (only : Bool) (i : ℕ) (d : MethodDescriptor) (ms : List MethodDescriptor) (done next total : List ℕ)
    → i < length ms → next ≡ done ++ offset_of only (get_or ms i d)
    → done ++ offsets_of only (drop i ms) ≡ total → next ++ offsets_of only (drop (i + 1) ms) ≡ total
offsets_more only i d ms done next total lt n so_far =
    rw n (append_assoc done (offset_of only (get_or ms i d)) (offsets_of only (drop (i + 1) ms))
    ∙ ap (λ (ys : List MethodDescriptor). done ++ offsets_of only ys) (sym (drop_more ms i d lt)) ∙ so_far)

pub offsets_all : (only : Bool) (i : ℕ) (ms : List MethodDescriptor) (done total : List ℕ) → length ms ≤ i
    → done ++ offsets_of only (drop i ms) ≡ total → done ≡ total
offsets_all only i ms done total le so_far =
    sym (append-nil done) ∙ ap (λ (ys : List MethodDescriptor). done ++ offsets_of only ys) (sym (drop_all i ms le))
    ∙ so_far

pub classes_more : (only : Bool) (info : ClassInfo) (i : ℕ) (x : ClassDescriptor) (xs : List ClassDescriptor)
    (done next total : List ℕ) → i < length xs → x ≡ get_or xs i x → next ≡ done ++ class_offsets only info x
    → done ++ all_offsets only info (drop i xs) ≡ total → next ++ all_offsets only info (drop (i + 1) xs) ≡ total
classes_more only info i x xs done next total lt is n so_far =
    let d : drop i xs ≡ x ∷ drop (i + 1) xs = drop_more xs i x lt ∙ ap (λ (y : ClassDescriptor). y ∷ drop (i + 1) xs)
    (sym is) in
    rw n (append_assoc done (class_offsets only info x) (all_offsets only info (drop (i + 1) xs))
    ∙ ap (λ (ys : List ClassDescriptor). done ++ all_offsets only info ys) (sym d) ∙ so_far)

pub classes_all : (only : Bool) (info : ClassInfo) (i : ℕ) (xs : List ClassDescriptor) (done total : List ℕ)
    → length xs ≤ i → done ++ all_offsets only info (drop i xs) ≡ total → done ≡ total
classes_all only info i xs done total le so_far =
    sym (append-nil done) ∙ ap (λ (ys : List ClassDescriptor). done ++ all_offsets only info ys)
    (sym (drop_all i xs le)) ∙ so_far

-- ---- what is among them

one_any : (only : Bool) (o : ℕ) (m : MethodDescriptor) → list_any (λ n. n == o) (offset_of only m) ≡ (m.offset == o
    && is_asked only m)
one_any only o m =
    bool_either (is_asked only m)
    (λ is. rw is (or_false (m.offset == o) ∙ sym (and_true (m.offset == o))))
    (λ is. rw is (sym (and_false (m.offset == o))))

offsets_any : (only : Bool) (o : ℕ) (ms : List MethodDescriptor) → list_any (λ n. n == o) (offsets_of only ms)
    ≡ list_any (λ m. m.offset == o && is_asked only m) ms
offsets_any only o [] = refl
offsets_any only o (m ∷ ms) =
    list_any-append (λ n. n == o) (offset_of only m) (offsets_of only ms)
    ∙ ap (λ (b : Bool). b || list_any (λ n. n == o) (offsets_of only ms)) (one_any only o m)
    ∙ ap (λ (b : Bool). (m.offset == o && is_asked only m) || b) (offsets_any only o ms)

classes_any : (only : Bool) (o : ℕ) (info : ClassInfo) (ds : List ClassDescriptor)
    → list_any (λ n. n == o) (all_offsets only info ds) ≡ list_any (λ m. m.offset == o && is_asked only m)
    (flat_map (λ d. d.methods) (filter (λ d. is_own_class info d.this_class) ds))
classes_any only o info [] = refl
classes_any only o info (d ∷ ds) =
    let test : MethodDescriptor → Bool = λ m. m.offset == o && is_asked only m in
    let rest = flat_map (λ (x : ClassDescriptor). x.methods) (filter (λ (x : ClassDescriptor). is_own_class info
    x.this_class) ds) in
    bool_either (is_own_class info d.this_class)
    (λ is. rw is (
    list_any-append (λ n. n == o) (offsets_of only d.methods) (all_offsets only info ds)
    ∙ ap (λ (b : Bool). b || list_any (λ n. n == o) (all_offsets only info ds)) (offsets_any only o d.methods)
    ∙ ap (λ (b : Bool). list_any test d.methods || b) (classes_any only o info ds)
    ∙ sym (list_any-append test d.methods rest)))
    (λ is. rw is (classes_any only o info ds))

pub statics_any : (o : ℕ) (info : ClassInfo) (ds : List ClassDescriptor)
    → list_any (λ n. n == o) (all_offsets true info ds) ≡ list_any (λ m. m.offset == o && is_static m.flags)
    (flat_map (λ d. d.methods) (filter (λ d. is_own_class info d.this_class) ds))
statics_any o info ds = classes_any true o info ds

without : (o : ℕ) (ms : List MethodDescriptor) → list_any (λ m. m.offset == o && is_asked false m) ms
    ≡ list_any (λ m. m.offset == o) ms
without o [] = refl
without o (m ∷ ms) = ap (λ (b : Bool). b || list_any (λ x. x.offset == o && is_asked false x) ms)
    (and_true (m.offset == o)) ∙ ap (λ (b : Bool). m.offset == o || b) (without o ms)

pub methods_any : (o : ℕ) (info : ClassInfo) (ds : List ClassDescriptor)
    → list_any (λ n. n == o) (all_offsets false info ds) ≡ list_any (λ m. m.offset == o) (flat_map (λ d. d.methods)
    (filter (λ d. is_own_class info d.this_class) ds))
methods_any o info ds = classes_any false o info ds
    ∙ without o (flat_map (λ d. d.methods) (filter (λ d. is_own_class info d.this_class) ds))
