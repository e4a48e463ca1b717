-- Packages that were tested, one after the other.
use Rattle.std.proofs.Common.{◌≡◌, ℕ, zero, suc, ◌+◌, ◌<◌, ◌≤◌, List, [], ◌∷◌, ◌++◌, length, take, get_or, map, refl}
use Rattle.std.proofs.Common.{sym, ap, subst, ◌∙◌, arith, Option, Some, None, IfNone}
use Rattle.std.specs.Prelude.{slice_get}
use Rattle.std.specs.List.{AllByRecursion, flat_map}
use Rattle.std.proofs.lemmas.List.{flat_map_more, take_all}
use Rattle.std.proofs.lemmas.Option.{slice_get_within}
use Rattle.cjc_group.proofs.BytesGets.{slice_get_at}
use Rattle.cjc_group.proofs.BytesOptions.{option_had, when_none}
use Rattle.cjc_group.proofs.BytesPlain.{the_same}
use Rattle.cjc_group.specs.Bytes.Breaks.{Break}
use Rattle.cjc_group.specs.Bytes.declared.fault.Refusal.{Refusal}
use Rattle.cjc_cmd_card.proofs.ReportLaws.Once.{SentencesHold}
use Rattle.cjc_cmd_card.specs.Report.Runs as alone
use Rattle.cjc_cmd_card.specs.Running.Reads.{IsInput}
use Rattle.cjc_cmd_card.specs.declared.running.input.Input.{Input}
use Rattle.cjc_cmd_card.proofs.ReportLaws.Free.{none_first}
use Rattle.cjc_cmd_card.proofs.JudgeItems.{front_more}
use Rattle.cjc_group.specs.World.declared.image.StaticImage.{StaticImage}
use Rattle.cjc_cmd_link.proofs.Parts.{none_so, one_member, passes_so, stops_so}
use Rattle.cjc_cmd_link.specs.Working.{AreMade, Follows, IsMade, MemberRefused, StandsSo, passes, stops}
use Rattle.cjc_cmd_link.specs.declared.members.Tested.{Tested}

-- a package that was tested breaks no rule by itself
pub made_breaks_none : SentencesHold → (m : Input) (t : Tested) (image : StaticImage) → IsMade m t image → (b : Break)
    → alone.AnyBreaks m [] b → ⊥
made_breaks_none hold m t image made b broken = none_first hold m t.ready made.is_ready image made.is_image made.whole
    made.whole_is made.paired b broken

-- ---- one package more

put_made : (inputs : List Input) (ts : List Tested) (images : List StaticImage) (m : Input) (t : Tested)
    (image : StaticImage) → AreMade inputs ts images → IsMade m t image
    → AreMade (inputs ++ m ∷ []) (ts ++ t ∷ []) (images ++ image ∷ [])
put_made [] [] [] m t image all one = (one, tt)
put_made [] [] (j ∷ images) m t image all one = absurd all
put_made [] (u ∷ ts) images m t image all one = absurd all
put_made (i ∷ inputs) [] images m t image all one = absurd all
put_made (i ∷ inputs) (u ∷ ts) [] m t image all one = absurd all
put_made (i ∷ inputs) (u ∷ ts) (j ∷ images) m t image all one = (all.0, put_made inputs ts images m t image all.1 one)

-- what is known of the first packages is known of one more
pub follows : SentencesHold → (inputs : List Input) (k : ℕ) (m : Input) (o next : Option Refusal)
    (old new : List Tested) (before after : List StaticImage) → k < length inputs → m ≡ get_or inputs k m
    → Follows m o old new before after next
    → StandsSo (MemberRefused inputs) k o × IfNone o (AreMade (take k inputs) old before)
    → StandsSo (MemberRefused inputs) (k + 1) next × IfNone next (AreMade (take (k + 1) inputs) new after)
follows hold inputs k m o next old new before after lt is (passes t image made news afters same) (so, had) =
    let at : slice_get inputs k ≡ Some m = slice_get_at inputs k m lt is in
    let none : (s : Refusal) → MemberRefused inputs k s → ⊥ = λ s w.
    made_breaks_none hold m t image made w.2.broken
    (subst (λ (y : Input). alone.AnyBreaks y [] w.2.broken) (the_same w.0 m (sym w.1 ∙ at)) w.2.first.breaks) in
    let stands = passes_so (MemberRefused inputs) (one_member inputs) k o so none in
    let more : AreMade (take k inputs) old before → AreMade (take (k + 1) inputs) new after = λ all.
    subst (λ xs. AreMade xs new after) (sym (front_more inputs k m lt is))
    (subst (λ ns. AreMade (take k inputs ++ m ∷ []) ns after) (sym news)
    (subst (λ js. AreMade (take k inputs ++ m ∷ []) (old ++ t ∷ []) js) (sym afters)
    (put_made (take k inputs) old before m t image all made))) in (
      subst (λ q. StandsSo (MemberRefused inputs) (k + 1) q) (sym same) stands,
      when_none next (AreMade (take (k + 1) inputs) new after) (λ none_next. more (option_had o
          (AreMade (take k inputs) old before) (sym same ∙ none_next) had)),
    )
follows hold inputs k m o next old new before after lt is (stops s first same) (so, had) =
    let at : slice_get inputs k ≡ Some m = slice_get_at inputs k m lt is in (
      subst (λ q. StandsSo (MemberRefused inputs) (k + 1) q) (sym same) (stops_so (MemberRefused inputs)
          (one_member inputs) k o s so (m, at, first)),
      when_none next (AreMade (take (k + 1) inputs) new after) (λ none_next.
          absurd (let both = sym same ∙ none_next in cc)),
    )

-- at first there is none
pub none_made : (inputs : List Input) (ts : List Tested) (images : List StaticImage) → ts ≡ [] → images ≡ []
    → StandsSo (MemberRefused inputs) 0 None × AreMade (take 0 inputs) ts images
none_made inputs ts images no_ts no_images = (
  none_so (MemberRefused inputs) (one_member inputs),
  subst (λ us. AreMade [] us images) (sym no_ts) (subst (λ js. AreMade [] [] js) (sym no_images) tt),
)

all_stand : (inputs : List Input) (k : ℕ) (o : Option Refusal) → length inputs ≤ k
    → StandsSo (MemberRefused inputs) k o → StandsSo (MemberRefused inputs) (length inputs) o
all_stand inputs k None le so = λ q r h. so q r ((let lt = h.0 in omega (arith, lt, le)), h.1)
all_stand inputs k (Some r) le so =
    let m = so.refused.1 in
    record {
      part = so.part;
      refused = (slice_get_within inputs so.part m.0 m.1, m);
      least = λ q s h. so.least q s ((let lt = h.0 in omega (arith, lt, le)), h.1);
    }

-- behind the last all are there
pub all_made : (inputs : List Input) (k : ℕ) (o : Option Refusal) (ts : List Tested) (images : List StaticImage)
    → length inputs ≤ k → StandsSo (MemberRefused inputs) k o × IfNone o (AreMade (take k inputs) ts images)
    → StandsSo (MemberRefused inputs) (length inputs) o × IfNone o (AreMade inputs ts images)
all_made inputs k o ts images le (so, had) =
    (all_stand inputs k o le so, subst (λ xs. IfNone o (AreMade xs ts images)) (take_all k inputs le) had)

-- ---- one of them

pub input_at : (inputs : List Input) (k : ℕ) (m : Input) → AllByRecursion IsInput inputs → k < length inputs
    → m ≡ get_or inputs k m → IsInput m
input_at [] k m all lt is = absurd (omega (arith, lt))
input_at (i ∷ inputs) zero m all lt is = subst IsInput (sym is) all.0
input_at (i ∷ inputs) (suc k) m all lt is = input_at inputs k m all.1 (omega (arith, lt)) is

pub made_at : (inputs : List Input) (ts : List Tested) (images : List StaticImage) (k : ℕ) (t : Tested)
    → AreMade inputs ts images → k < length ts → t ≡ get_or ts k t
    → (m : Input) × (image : StaticImage) × IsMade m t image
made_at inputs [] images k t all lt is = absurd (omega (arith, lt))
made_at [] (u ∷ ts) images k t all lt is = absurd all
made_at (i ∷ inputs) (u ∷ ts) [] k t all lt is = absurd all
made_at (i ∷ inputs) (u ∷ ts) (j ∷ images) zero t all lt is = (i, j, subst (λ x. IsMade i x j) (sym is) all.0)
made_at (i ∷ inputs) (u ∷ ts) (j ∷ images) (suc k) t all lt is = made_at inputs ts images k t all.1 (omega (arith, lt))
    is

-- ---- what is gathered of each

pub flat_more : {A B : Type 0} (f : A → List B) (xs : List A) (k : ℕ) (x : A) (now new : List B) → k < length xs
    → x ≡ get_or xs k x → now ≡ flat_map f (take k xs) → new ≡ now ++ f x → new ≡ flat_map f (take (k + 1) xs)
flat_more f xs k x now new lt is so_far put =
    put ∙ ap (λ ys. ys ++ f x) so_far ∙ sym (ap (flat_map f) (front_more xs k x lt is) ∙ last f (take k xs) x)
  where
    last : {A B : Type 0} (f : A → List B) (xs : List A) (x : A) → flat_map f (xs ++ x ∷ []) ≡ flat_map f xs ++ f x
    last f xs x = sym (flat_map_more f [] xs x)

pub each_more : {A B : Type 0} (f : A → B) (xs : List A) (k : ℕ) (x : A) (now new : List B) → k < length xs
    → x ≡ get_or xs k x → now ≡ map f (take k xs) → new ≡ now ++ f x ∷ [] → new ≡ map f (take (k + 1) xs)
each_more f xs k x now new lt is so_far put =
    put ∙ ap (λ ys. ys ++ f x ∷ []) so_far
    ∙ sym (ap (map f) (front_more xs k x lt is) ∙ mapped f (take k xs) x)
  where
    mapped : {A B : Type 0} (f : A → B) (xs : List A) (x : A) → map f (xs ++ x ∷ []) ≡ map f xs ++ f x ∷ []
    mapped f [] x = refl
    mapped f (y ∷ xs) x = ap (λ ys. f y ∷ ys) (mapped f xs x)

pub mapped_more : {A B C : Type 0} (g : C → B) (f : A → B) (xs : List A) (k : ℕ) (x : A) (y : C) (now new : List C)
    → k < length xs → x ≡ get_or xs k x → map g now ≡ map f (take k xs) → g y ≡ f x → new ≡ now ++ y ∷ []
    → map g new ≡ map f (take (k + 1) xs)
mapped_more g f xs k x y now new lt is so_far one put =
    each_more f xs k x (map g now) (map g new) lt is so_far
    (ap (map g) put ∙ ends g now y ∙ ap (λ z. map g now ++ z ∷ []) one)
  where
    ends : {C B : Type 0} (g : C → B) (ys : List C) (y : C) → map g (ys ++ y ∷ []) ≡ map g ys ++ g y ∷ []
    ends g [] y = refl
    ends g (z ∷ ys) y = ap (λ zs. g z ∷ zs) (ends g ys y)
