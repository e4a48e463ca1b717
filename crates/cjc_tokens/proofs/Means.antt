-- The methods that the tokens of an interface mean.
use Rattle.std.proofs.Common.{◌≡◌, ℕ, zero, suc, ◌<◌, ◌≤◌, ◌+◌, refl, ap, ◌∙◌, arith, Bool, true, List, []}
use Rattle.std.proofs.Common.{◌∷◌, ◌++◌, length, get_or, take}
use Rattle.std.specs.Prelude.{◌-◌, map, Option, Some, option_map, option_and_then, slice_get, nat_lt}
use Rattle.std.specs.Prelude.{if◌then◌else◌}
use Rattle.std.proofs.lemmas.Option.{slice_get-map}
use Rattle.std.proofs.lemmas.Bool.Decides.{nat_tests}
use Rattle.cjc_world.specs.ClassFile.declared.tree.ClassTree.{ClassTree}
use Rattle.cjc_world.specs.declared.found.Found.{Found}
use Rattle.cjc_world.specs.Files.{Files}
use Rattle.cjc_world.specs.Classes.{Class, all_classes, declared}
use Rattle.cjc_bytes.specs.AccessFlags.{is_interface}
use Rattle.cjc_world.specs.Exported.{is_exported}
use Rattle.cjc_world.specs.Lookup.{method_of_interface}
use Rattle.cjc_tokens.specs.declared.slot.Slot.{Slot}
use Rattle.cjc_tokens.specs.Lines.{line_at}
use Rattle.cjc_tokens.specs.Members.{Signature}
use Rattle.cjc_tokens.specs.Methods.{interface_methods, interface_row}
use Rattle.cjc_tokens.specs.Slots.{row}
use Rattle.cjc_tokens.specs.Tokens.{OfClass, assigned, classes_from, joined, method_of_token, of_class, one_more}
use Rattle.cjc_tokens.specs.Working.{signature_in, signs}

-- ---- slot by slot

pub row-next : (f : Signature → Option Found) (ss : List Signature) (slots : List (Option Slot)) (i : ℕ)
    (d slot : Option Slot) (v : Option Found) → i < length slots → slot ≡ get_or slots i d → signs slots ≡ map Some ss
    → ((s : Signature) → option_map signature_in slot ≡ Some s → v ≡ f s) → map f (take i ss)
    ++ v ∷ [] ≡ map f (take (i + 1) ss)
row-next f ss [] i d slot v l is e meant = absurd (omega arith)
row-next f [] (x ∷ slots) i d slot v l is e meant = cc
row-next f (s ∷ ss) (x ∷ slots) zero d slot v l is e meant =
    let here : option_map signature_in x ≡ Some s = cc in
    ap (λ q. q ∷ []) (meant s (ap (option_map signature_in) is ∙ here))
row-next f (s ∷ ss) (x ∷ slots) (suc i) d slot v l is e meant =
    let rest : signs slots ≡ map Some ss = cc in
    ap (λ q. f s ∷ q) (row-next f ss slots i d slot v (omega arith) is rest meant)
    ∙ ap (λ n. map f (take n (s ∷ ss))) (let n : suc (i + 1) ≡ suc i + 1 = omega arith in n)

pub row-end : (f : Signature → Option Found) (ss : List Signature) (slots : List (Option Slot)) (i : ℕ)
    → length slots ≤ i → signs slots ≡ map Some ss → map f (take i ss) ≡ map f ss
row-end f [] slots i l e = none i
  where
    none : (i : ℕ) → map f (take i []) ≡ []
    none zero = refl
    none (suc i) = refl
row-end f (s ∷ ss) [] i l e = cc
row-end f (s ∷ ss) (x ∷ slots) zero l e = absurd (omega arith)
row-end f (s ∷ ss) (x ∷ slots) (suc i) l e = let rest : signs slots ≡ map Some ss = cc
    in ap (λ q. f s ∷ q) (row-end f ss slots i (omega arith) rest)

-- ---- by the tokens of all classes

module _ (w : List Class) (applets : Bool) where
  at-number : (before k : ℕ) (cs : List ClassTree) (n : ℕ) (c : ClassTree) → slice_get cs n ≡ Some c → (b : ℕ)
      × (slice_get (classes_from w applets before k cs) n ≡ Some (of_class w applets b (k + n) c))
  unfolding classes_from
  at-number before k [] n c e = cc
  at-number before k (d ∷ cs) zero c e =
      let is : d ≡ c = cc in
      let m : k ≡ k + 0 = omega arith in
      (before, ap (λ q. Some (of_class w applets before k q)) is ∙ ap (λ q. Some (of_class w applets before q c)) m)
  at-number before k (d ∷ cs) (suc n) c e =
      let r = at-number (one_more (is_exported w applets (declared k d)) before) (k + 1) cs n c e in
      let m : k + 1 + n ≡ k + suc n = omega arith in
      (r.0, r.1 ∙ ap (λ q. Some (of_class w applets r.0 q c)) m)

module _ (files : Files) (applets : Bool) (n : ℕ) (c : ClassTree) (there : slice_get files.classes n ≡ Some c) where
  pub kept-at : (b : ℕ) × (slice_get (assigned applets files).classes n ≡ Some (of_class (all_classes files) applets b n
      c))
  unfolding assigned
  kept-at =
      let r = at-number (all_classes files) applets 0 0 files.classes n c there in
      let m : 0 + n ≡ n = omega arith in
      (r.0, r.1 ∙ ap (λ q. Some (of_class (all_classes files) applets r.0 q c)) m)

  pub token-means : (t : ℕ) (s : Signature) → is_interface c.flags ≡ true → t < 128
      → slice_get (interface_methods (all_classes files) (declared n c)) t ≡ Some s
      → method_of_token (assigned applets files) n t ≡ method_of_interface (all_classes files) c.name s.name s.desc
  token-means t s interface low e =
      let w = all_classes files in
      let d = declared n c in
      let test : nat_lt t 128 ≡ true = grind (arith, nat_tests) in
      ap (λ b. if b then open_of (slice_get (assigned applets files).classes n)
      else hidden_of (slice_get (assigned applets files).classes n)) test
      ∙ ap open_of kept-at.1
      ∙ ap (λ b. joined (slice_get (if b then interface_row w d else row (line_at w d)) t)) interface
      ∙ ap joined (slice_get-map (λ s. method_of_interface w c.name s.name s.desc) (interface_methods w d) t)
      ∙ ap (λ o. joined (option_map (λ s. method_of_interface w c.name s.name s.desc) o)) e
    where
      open_of : Option OfClass → Option Found
      open_of o = option_and_then (λ k. joined (slice_get k.public_methods t)) o

      hidden_of : Option OfClass → Option Found
      hidden_of o = option_and_then (λ k. joined (slice_get k.package_methods (t - 128))) o
