-- Class_refs that are noted one by one.
use Rattle.std.proofs.Common.{◌≡◌, ℕ, ◌+◌, ◌<◌, ◌≤◌, cond, refl, sym, ap, ◌∙◌, Bool, true, false}
use Rattle.std.proofs.Common.{List, length, get_or, drop}
use Rattle.std.specs.Prelude.{if◌then◌else◌, Option, Some, None, option_map}
use Rattle.std.specs.Str.{bytes_eq}
use Rattle.cjc_components.specs.LowerCapRead.declared.tree.ClassRef.{ClassRef}
use Rattle.cjc_components.specs.LowerCapRead.declared.tree.ClassRef.TheVariants.{Inside, Outside}
use Rattle.cjc_components.specs.LowerCardSemantics.Machine.Classes.{Class, External, or_else}
use Rattle.cjc_components.specs.Names.{ref_to}
use Rattle.cjc_classes.specs.ClassInfo.Infos.{end_of, spot_in}
use Rattle.cjc_bytes.proofs.Gets.{drop_next, drop_past}
use Rattle.cjc_bytes.proofs.Lists.{bytes_true}

pub else_none : {A : Type 0} (o : Option A) → or_else o None ≡ o
else_none None = refl
else_none (Some x) = refl

-- ---- one

pub noted_some : (f : List ℕ → Option ClassRef) (name : List ℕ) (old new : ClassRef) → f name ≡ Some old → (x : List ℕ)
    → f x ≡ or_else (f x) (cond (bytes_eq name x) (Some new) None)
noted_some f name old new e x = by (bytes_eq name x) refl
  where
    has : (o : Option ClassRef) (other : Option ClassRef) → o ≡ Some old → o ≡ or_else o other
    has None other h = cc
    has (Some r) other h = refl

    by : (b : Bool) → bytes_eq name x ≡ b → f x ≡ or_else (f x) (cond b (Some new) None)
    by true h = has (f x) (Some new) (ap f (sym (bytes_true name x h)) ∙ e)
    by false h = sym (else_none (f x))

pub noted_none : (f g : List ℕ → Option ClassRef) (name : List ℕ) (new : ClassRef) → f name ≡ None
    → ((x : List ℕ) → g x ≡ cond (bytes_eq name x) (Some new) (f x)) → (x : List ℕ)
    → g x ≡ or_else (f x) (cond (bytes_eq name x) (Some new) None)
noted_none f g name new e put x = put x ∙ by (bytes_eq name x) refl
  where
    by : (b : Bool) → bytes_eq name x ≡ b → cond b (Some new) (f x) ≡ or_else (f x) (cond b (Some new) None)
    by true h = sym (ap (λ (o : Option ClassRef). or_else o (Some new)) (ap f (sym (bytes_true name x h)) ∙ e))
    by false h = sym (else_none (f x))

-- ---- the next of several

pub else_inside : (a : Option ClassRef) (b : Bool) (at : ℕ) (s : Option ℕ)
    → or_else (or_else a (cond b (Some (Inside at)) None)) (option_map Inside s) ≡ or_else a (option_map Inside (if b
    then Some at else s))
else_inside (Some r) b at s = refl
else_inside None true at s = refl
else_inside None false at s = refl

pub else_outside : (a : Option ClassRef) (b : Bool) (file token : ℕ) (s : Option ℕ)
    → or_else (or_else a (cond b (Some (Outside file token)) None)) (option_map (Outside file) s)
    ≡ or_else a (option_map (Outside file) (if b then Some token else s))
else_outside (Some r) b file token s = refl
else_outside None true file token s = refl
else_outside None false file token s = refl

pub else_file : (a : Option ClassRef) (file : ℕ) (t : Option ℕ) (rest : Option Class)
    → or_else (or_else a (option_map (Outside file) t)) (option_map ref_to rest)
    ≡ or_else a (option_map ref_to (or_else (option_map (External file) t) rest))
else_file (Some r) file t rest = refl
else_file None file None rest = refl
else_file None file (Some token) rest = refl

-- ---- what is left of a list

module _ {A : Type 0} (named : A → List ℕ → Bool) (size : A → ℕ) where
  pub spot_here : (at : ℕ) (xs : List A) (k : ℕ) (x : A) → k < length xs → x ≡ get_or xs k x → (name : List ℕ)
      → spot_in named size at (drop k xs) name ≡ (if named x name then Some at
      else spot_in named size (at + size x) (drop (k + 1) xs) name)
  unfolding spot_in
  spot_here at xs k x lt is name = ap (λ (ys : List A). spot_in named size at ys name) (drop_next xs k x lt is)

  pub spot_past : (at : ℕ) (xs : List A) (k : ℕ) → length xs ≤ k → (name : List ℕ)
      → spot_in named size at (drop k xs) name ≡ None
  unfolding spot_in
  spot_past at xs k le name = ap (λ (ys : List A). spot_in named size at ys name) (drop_past xs k le)

  pub end_here : (at : ℕ) (xs : List A) (k : ℕ) (x : A) → k < length xs → x ≡ get_or xs k x → end_of size at (drop k xs)
      ≡ end_of size (at + size x) (drop (k + 1) xs)
  unfolding end_of
  end_here at xs k x lt is = ap (end_of size at) (drop_next xs k x lt is)

  pub end_past : (at : ℕ) (xs : List A) (k : ℕ) → length xs ≤ k → end_of size at (drop k xs) ≡ at
  unfolding end_of
  end_past at xs k le = ap (end_of size at) (drop_past xs k le)

  -- one more is noted
  pub spot_more : (f g : List ℕ → Option ClassRef) (at : ℕ) (xs : List A) (k : ℕ) (x : A) → k < length xs
      → x ≡ get_or xs k x → ((name : List ℕ) → g name ≡ or_else (f name) (cond (named x name) (Some (Inside at)) None))
      → (name : List ℕ) → or_else (g name) (option_map Inside (spot_in named size (at + size x) (drop (k + 1) xs) name))
      ≡ or_else (f name) (option_map Inside (spot_in named size at (drop k xs) name))
  spot_more f g at xs k x lt is put name =
      ap (λ (o : Option ClassRef). or_else o (option_map Inside (spot_in named size (at + size x) (drop (k + 1) xs)
      name))) (put name)
      ∙ else_inside (f name) (named x name) at (spot_in named size (at + size x) (drop (k + 1) xs) name)
      ∙ ap (λ (s : Option ℕ). or_else (f name) (option_map Inside s)) (sym (spot_here at xs k x lt is name))

  pub spot_done : (f : List ℕ → Option ClassRef) (at : ℕ) (xs : List A) (k : ℕ) → length xs ≤ k → (name : List ℕ)
      → or_else (f name) (option_map Inside (spot_in named size at (drop k xs) name)) ≡ f name
  spot_done f at xs k le name = ap (λ (s : Option ℕ). or_else (f name) (option_map Inside s))
      (spot_past at xs k le name) ∙ else_none (f name)
