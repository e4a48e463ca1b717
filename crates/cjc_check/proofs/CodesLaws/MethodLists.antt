-- The methods of classes, put down class by class.
use Rattle.std.proofs.Common.{◌≡◌, ℕ, ◌+◌, ◌<◌, ◌≤◌, Bool, true, false, List, [], ◌∷◌, ◌++◌, length, get_or, drop, refl}
use Rattle.std.proofs.Common.{sym, ap, ◌∙◌, append_assoc, append-nil}
use Rattle.std.specs.Prelude.{flat_map, filter}
use Rattle.std.proofs.lemmas.List.{drop_more, drop_all}
use Rattle.cjc_capread.specs.declared.tree.ClassInfo.{ClassInfo}
use Rattle.cjc_capread.specs.declared.tree.ClassDescriptor.{ClassDescriptor}
use Rattle.cjc_capread.specs.declared.tree.MethodDescriptor.{MethodDescriptor}
use Rattle.cjc_check_rules.specs.Classes.{is_own_class}
use Rattle.cjc_check.specs.Codes.Working.Steps.{methods_of, methods_of_all}
use Rattle.cjc_capread.proofs.BytesBools.{bool_either}

pub classes_more : (info : ClassInfo) (i : ℕ) (x : ClassDescriptor) (xs : List ClassDescriptor) (done next total :
    List MethodDescriptor) → i < length xs → x ≡ get_or xs i x
    → next ≡ done ++ methods_of info x → done ++ methods_of_all info (drop i xs) ≡ total
    → next ++ methods_of_all info (drop (i + 1) xs) ≡ total
classes_more info i x xs done next total lt is n so_far =
    let d : drop i xs ≡ x ∷ drop (i + 1) xs = drop_more xs i x lt ∙ ap (λ (y : ClassDescriptor). y ∷ drop (i + 1) xs)
    (sym is) in
    ap (λ (ms : List MethodDescriptor). ms ++ methods_of_all info (drop (i + 1) xs)) n
    ∙ append_assoc done (methods_of info x) (methods_of_all info (drop (i + 1) xs))
    ∙ ap (λ (ys : List ClassDescriptor). done ++ methods_of_all info ys) (sym d) ∙ so_far

pub classes_all : (info : ClassInfo) (i : ℕ) (xs : List ClassDescriptor) (done total : List MethodDescriptor)
    → length xs ≤ i → done ++ methods_of_all info (drop i xs) ≡ total → done ≡ total
classes_all info i xs done total le so_far =
    sym (append-nil done) ∙ ap (λ (ys : List ClassDescriptor). done ++ methods_of_all info ys) (sym (drop_all i xs le))
    ∙ so_far

pub methods_are : (info : ClassInfo) (ds : List ClassDescriptor) → methods_of_all info ds ≡ flat_map (λ d. d.methods)
    (filter (λ d. is_own_class info d.this_class) ds)
methods_are info [] = refl
methods_are info (d ∷ ds) =
    bool_either (is_own_class info d.this_class)
    (λ t. rw t (ap (λ ms. d.methods ++ ms) (methods_are info ds)))
    (λ t. rw t (methods_are info ds))
