-- What the calls that make the parts promise of a package that breaks no rule.
use Rattle.std.proofs.Common.{◌≡◌, ℕ, refl, sym, ap, ◌∙◌, false, List, [], ◌∷◌}
use Rattle.std.specs.Prelude.{All, Result, Ok, Err, IfOk, map}
use Rattle.std.proofs.lemmas.List.Elements.{All-head, All-tail, All-weaker}
use Rattle.cjc_methods.specs.ClassOrder.Classes.Numbers.{IsOfKind, declared_at}
use Rattle.cjc_methods.specs.Ready.{IsListed, IsOwn}
use Rattle.cjc_narrow_proof.proofs.VTableNumbers.{own_listed}
use Rattle.cjc_exported.specs.World.Classes.{all_classes, class_at}
use Rattle.cjc_exported.specs.World.declared.found.Found.{Found}
use Rattle.cjc_exported.specs.World.Files.{Files}

pub ok_map : {A E : Type 0} (r : Result A E) (P Q : A → Type 0) → ((x : A) → P x → Q x) → IfOk r P → IfOk r Q
ok_map (Ok x) P Q f h = f x h
ok_map (Err e) P Q f h = tt

-- members that are written are own
pub listed_own : (files : Files) (fs : List Found) → All (IsListed files) fs → All (IsOwn files) fs
listed_own files fs all = All-weaker (IsListed files) (IsOwn files) (λ f is. is.own) fs all

-- classes that the list names have their numbers
pub ordered : (files : Files) (ns : List ℕ) → All (IsOfKind files false) ns → map (declared_at files.classes) ns
    ≡ map (class_at (all_classes files) false) ns
ordered files [] all = refl
ordered files (n ∷ ns) all =
    let lt = (All-head (IsOfKind files false) n ns all).0 in
    ap (λ o. o ∷ map (declared_at files.classes) ns) (sym (own_listed files n lt))
    ∙ ap (λ os. class_at (all_classes files) false n ∷ os) (ordered files ns (All-tail (IsOfKind files false) n ns all))
