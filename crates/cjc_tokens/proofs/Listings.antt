-- The tokens that a class and its superclasses list.
use Rattle.std.proofs.Common.{◌≡◌, ℕ, ◌+◌, ◌<◌, ◌≤◌, refl, sym, ap, ◌∙◌, arith, Bool, true, false, List, [], ◌∷◌}
use Rattle.std.proofs.Common.{◌++◌, append-nil, length, drop, get_or, cond}
use Rattle.std.specs.Prelude.{◌&&◌, map, Option, Some, None, if◌then◌else◌, option_map, slice_get}
use Rattle.std.proofs.lemmas.Option.{slice_get-map}
use Rattle.cjc_world.specs.declared.found.Found.{Found}
use Rattle.cjc_world.specs.declared.class.Known.{Known as AnyClass}
use Rattle.cjc_world.specs.declared.class.Known.TheVariants as kinds
use Rattle.cjc_world.specs.Added.{added}
use Rattle.cjc_world.specs.Classes.{Class, Member, all_classes}
use Rattle.cjc_world.specs.Files.{Files}
use Rattle.cjc_world.specs.Lookup.{first}
use Rattle.cjc_world.specs.Supertypes.{Supertypes, AreSupertypes, ends, unknown_here, known_here, supertypes, upwards}
use Rattle.cjc_world.specs.Supertypes.{once}
use Rattle.cjc_world.specs.Working.Known.{class_of}
use Rattle.cjc_tokens.specs.declared.slot.Slot.{Slot}
use Rattle.cjc_tokens.specs.declared.told.Told.{Told}
use Rattle.cjc_tokens.specs.Lines.{Line, Declared, Imported, line_at, line_in}
use Rattle.cjc_tokens.specs.Members.{Signature, signature_of, same, is_shown, is_virtual, all_methods}
use Rattle.cjc_tokens.specs.Slots.{Slots, first_answer, listed_token, or_next, row, shown_token, slots, token_among}
use Rattle.cjc_tokens.specs.Slots.{implementing, is_of_package, listed_slots, meant_by, nearer, own, token, token_by}
use Rattle.cjc_tokens.specs.Slots.{told_by, told_in}
use Rattle.cjc_tokens.specs.Working.{IsToldOf, signs, told_among, token_meant, token_under, token_with}
use Rattle.cjc_tokens.proofs.Held.{token-slot}
use Rattle.cjc_tokens.proofs.Once.{nearest-once, slots-once, told-once}
use Rattle.cjc_tokens.proofs.Supers.{class_at-number}
use Rattle.cjc_bytes.proofs.Gets.{drop_next, drop_past}

-- ---- the first that answers, found one by one

next-none : {B : Type 0} (o : Option B) → or_next o None ≡ o
next-none None = refl
next-none (Some b) = refl

next-assoc : {B : Type 0} (a b c : Option B) → or_next (or_next a b) c ≡ or_next a (or_next b c)
next-assoc None b c = refl
next-assoc (Some x) b c = refl

pub answer_of_map : {A B C : Type 0} (f : B → Option C) (g : A → B) (xs : List A) → first_answer f (map g xs)
    ≡ first_answer (λ x. f (g x)) xs
unfolding first_answer
answer_of_map f g [] = refl
answer_of_map f g (x ∷ xs) = ap (or_next (f (g x))) (answer_of_map f g xs)

-- one more was noted
pub answer-next : {A B : Type 0} (f : A → Option B) (xs : List A) (i : ℕ) (x : A) (old new total : Option B)
    → i < length xs → x ≡ get_or xs i x → new ≡ or_next old (f x)
    → or_next old (first_answer f (drop i xs)) ≡ total → or_next new (first_answer f (drop (i + 1) xs)) ≡ total
unfolding first_answer
answer-next f xs i x old new total lt is e so_far =
    ap (λ o. or_next o (first_answer f (drop (i + 1) xs))) e
    ∙ next-assoc old (f x) (first_answer f (drop (i + 1) xs))
    ∙ ap (λ ys. or_next old (first_answer f ys)) (sym (drop_next xs i x lt is))
    ∙ so_far

-- all were noted
pub answer-end : {A B : Type 0} (f : A → Option B) (xs : List A) (i : ℕ) (done total : Option B) → length xs ≤ i
    → or_next done (first_answer f (drop i xs)) ≡ total → done ≡ total
unfolding first_answer
answer-end f xs i done total le so_far =
    sym (next-none done) ∙ ap (λ ys. or_next done (first_answer f ys)) (sym (drop_past xs i le)) ∙ so_far

-- ---- the token of one method, noted where there is none

pub told-noted : (m : Member) (s : Signature) (old new : Option ℕ) → is_shown m ≡ true
    → (same (signature_of m) s ≡ true → old ≡ None)
    → new ≡ cond (same (signature_of m) s) (Some m.token) old
    → new ≡ or_next old (told_by s m)
told-noted m s old new shown none e = by (same (signature_of m) s) refl
  where
    by : (b : Bool) → same (signature_of m) s ≡ b → new ≡ or_next old (told_by s m)
    by true f =
        e ∙ ap (λ b. cond b (Some m.token) old) f
        ∙ ap (λ b. or_next None (if b && true then Some m.token else None)) (sym shown)
        ∙ ap (λ b. or_next None (if is_shown m && b then Some m.token else None)) (sym f)
        ∙ ap (λ o. or_next o (told_by s m)) (sym (none f))
    by false f =
        e ∙ ap (λ b. cond b (Some m.token) old) f
        ∙ sym (next-none old)
        ∙ ap (λ b. or_next old (if b && false then Some m.token else None)) (sym shown)
        ∙ ap (λ b. or_next old (if is_shown m && b then Some m.token else None)) (sym f)

-- a method of another kind is told nowhere
pub told-passed : (m : Member) (s : Signature) (old : Option ℕ) → is_shown m ≡ false → old ≡ or_next old (told_by s m)
told-passed m s old hidden = sym (next-none old) ∙ ap (or_next old) (sym no)
  where
    no : told_by s m ≡ None
    no = ap (λ b. if b && same (signature_of m) s then Some m.token else None) hidden

-- one that is noted already stays
pub told-kept : (m : Member) (s : Signature) (old : Option ℕ) → (same (signature_of m) s ≡ true
    → (t : ℕ) × (old ≡ Some t)) → old ≡ or_next old (told_by s m)
told-kept m s old there = by (same (signature_of m) s) refl
  where
    some : (o : Option ℕ) (t : ℕ) (q : Option ℕ) → o ≡ Some t → o ≡ or_next o q
    some (Some u) t q e = refl
    some None t q e = cc

    both_false : (b : Bool) → (b && false) ≡ false
    both_false true = refl
    both_false false = refl

    by : (b : Bool) → same (signature_of m) s ≡ b → old ≡ or_next old (told_by s m)
    by true f = let h = there f in some old h.0 (told_by s m) h.1
    by false f =
        sym (next-none old)
        ∙ ap (λ b. or_next old (if b then Some m.token else None)) (sym (both_false (is_shown m)))
        ∙ ap (λ b. or_next old (if is_shown m && b then Some m.token else None)) (sym f)

-- ---- a line and the classes upwards

no-more : (w : List Class) (xs : List (List ℕ)) (k : Supertypes) → AreSupertypes w xs k → length xs ≤ 0
    → upwards k ≡ []
no-more w xs k ends le = refl
no-more w xs k (unknown_here e n) le = absurd (omega arith)
no-more w xs k (known_here e s i n) le = absurd (omega arith)

module _ (files : Files) where
  told-upwards : (s : Signature) (xs : List (List ℕ)) (k : Supertypes) → AreSupertypes (all_classes files) xs k
      → length xs ≤ 1 → first_answer (told_in s) (upwards k) ≡ listed_token (line_in (all_classes files) k) s
  unfolding first_answer
  told-upwards s xs k ends le = refl
  told-upwards s xs k (unknown_here {xs = rest} {next = next} e n) le =
      ap (first_answer (told_in s)) (no-more (all_classes files) rest next n (omega arith))
  told-upwards s xs k (known_here {x = x} {xs = rest} {c = c} {supers = supers} {next = next} e are i n) le =
      ap (λ q. or_next (told_in s c) (first_answer (told_in s) (upwards supers ++ q)))
      (no-more (all_classes files) rest next n (omega arith))
      ∙ ap (λ q. or_next (told_in s c) (first_answer (told_in s) q)) (append-nil (upwards supers))
      ∙ by c.is_imported refl (told-upwards s c.supers supers are)
    where
      by : (b : Bool) → c.is_imported ≡ b → (length c.supers ≤ 1 → first_answer (told_in s) (upwards supers)
          ≡ listed_token (line_in (all_classes files) supers) s)
          → or_next (told_in s c) (first_answer (told_in s) (upwards supers))
          ≡ listed_token (if b then Imported (c ∷ upwards supers) else Declared c (added (all_classes files) c)
          (line_in (all_classes files) supers)) s
      by true im above = refl
      by false im above =
          let a = class_at-number files x c e im in
          let one : length c.supers ≡ 1 = ap (λ (q : Class). length q.supers) a.2 in
          ap (λ b. or_next (if b then first_answer (told_by s) c.methods else None) (first_answer (told_in s)
          (upwards supers))) im ∙ above (omega (arith, one))

  -- what a class and its supers list is what the line of the class does
  pub told-line : ((xs : List (List ℕ)) → AreSupertypes (all_classes files) xs (supertypes (all_classes files) xs))
      → (k : AnyClass) (s : Signature)
      → told_among (class_of k ∷ once [] (upwards (supertypes (all_classes files) (class_of k).supers))) s
      ≡ listed_token (line_at (all_classes files) (class_of k)) s
  unfolding first_answer
  told-line are (kinds.Declared n t) s =
      let c = class_of (kinds.Declared n t) in
      told-once (all_classes files) c c.supers (supertypes (all_classes files) c.supers) s (are c.supers)
      ∙ told-upwards s c.supers (supertypes (all_classes files) c.supers) (are c.supers) (omega arith)
  told-line are (kinds.Imported n t) s =
      let c = class_of (kinds.Imported n t) in
      told-once (all_classes files) c c.supers (supertypes (all_classes files) c.supers) s (are c.supers)

-- ---- the tokens of a line

-- at the place of a slot stands the method that this says of its signature
token-method : (all : Slots) (implements : Signature → Option Found) (s : Signature) (p : ℕ) → token all s ≡ Some p
    → slice_get (map (meant_by implements) all) p ≡ Some (implements s)
token-method all implements s p e = slice_get-map (meant_by implements) all p
    ∙ ap (option_map (meant_by implements)) (token-slot all s p e)

-- So the token is told by the method that the line has.
pub among-meant : (listed : Option ℕ) (all : Slots) (implements : Signature → Option Found) (s : Signature)
    → token_among listed all (map (meant_by implements) all) s ≡ token_meant listed all (implements s) s
unfolding token_among
among-meant listed all implements s = by (token all s) refl
  where
    by : (o : Option ℕ) → token all s ≡ o → token_by listed all (map (meant_by implements) all) s o
        ≡ token_with listed all (implements s) s o
    by None e = refl
    by (Some p) e = ap (λ q. if is_of_package q then Some (nearer listed all s p) else listed)
        (token-method all implements s p e)

-- what an imported class and its supers have is what each has once
pub imported-meant : (w : List Class) (c : Class) (cs : List Class) (xs : List (List ℕ)) (k : Supertypes)
    (s : Signature) → AreSupertypes w xs k → cs ≡ c ∷ once [] (upwards k) → (all : Slots)
    → all ≡ listed_slots (all_methods cs) → (told : Option ℕ) → told ≡ told_among cs s → (method : Option Found)
    → method ≡ first (own is_virtual s) cs → token_meant told all method s ≡ shown_token (Imported (c ∷ upwards k)) s
unfolding shown_token
imported-meant w c cs xs k s is cs_are all all_are told told_is method method_is =
    ap (λ q. token_meant q all method s) (told_is ∙ ap (λ q. told_among q s) cs_are ∙ told-once w c xs k s is)
    ∙ ap (λ q. token_meant (told_among (c ∷ upwards k) s) q method s) (all_are
    ∙ ap (λ q. listed_slots (all_methods q)) cs_are ∙ slots-once w c xs k is)
    ∙ ap (λ q. token_meant (told_among (c ∷ upwards k) s) (listed_slots (all_methods (c ∷ upwards k))) q s) (method_is
    ∙ ap (first (own is_virtual s)) cs_are ∙ nearest-once w c xs k s is)
    ∙ sym (among-meant (told_among (c ∷ upwards k) s) (listed_slots (all_methods (c ∷ upwards k)))
    (implementing (Imported (c ∷ upwards k))) s)

-- What is held of a line has its tokens.
pub slot_token-is : (line : Line) (told : Told) (held : List (Option Slot)) (methods : List (Option Found))
    → IsToldOf line told → signs held ≡ slots line → methods ≡ row line
    → (λ s. token_among (token_under told s) (signs held) methods s) ≡ shown_token line
unfolding shown_token
slot_token-is line told held methods listed slots_are methods_are =
    λ i s. token_among (listed s i) (slots_are i) (methods_are i) s
