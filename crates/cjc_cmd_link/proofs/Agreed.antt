-- What packages that were tested are as they are linked, and what they do not agree on.
use Rattle.std.proofs.Common.{◌≡◌, inl, inr, ℕ, List, [], ◌∷◌, map, refl, sym, ap, subst, ◌∙◌}
use Rattle.cjc_group.proofs.BytesBrokenRules.{none_among}
use Rattle.cjc_group.specs.Bytes.Breaks.{Among, Break, IsFirstRefusal}
use Rattle.cjc_group.specs.Bytes.declared.fault.Fault.{Fault}
use Rattle.cjc_group.specs.Bytes.declared.fault.Refusal.{Refusal}
use Rattle.cjc_cmd_card.proofs.ReportLaws.Free.{spelt, trees, world_is}
use Rattle.cjc_cmd_card.specs.declared.running.input.Input.{Input}
use Rattle.cjc_cmd_link.specs.Members.{AreLinked, IsLinked, exported_by, linked_of}
use Rattle.cjc_cmd_link.specs.Refused.{AreAgreed, BreakNone, Breaks, IsFault, IsRefused, MissNone, NoPart, by_group}
use Rattle.cjc_cmd_link.specs.Refused.{by_missing}
use Rattle.cjc_cmd_link.specs.Working.{AreMade, IsMade, IsTogetherFault, linked_as, world_of, worlds_of}
use Rattle.cjc_cmd_link.specs.declared.members.Tested.{Tested}
use Rattle.cjc_cmd_link.specs.declared.reads.GroupInput.{GroupInput}
use Rattle.cjc_group.specs.Members.{Member}
use Rattle.cjc_group.specs.Missing.{missing}
use Rattle.cjc_group.specs.Rules.{breaks}
use Rattle.cjc_cmd_card.proofs.JudgeFirsts.{one_spelling}
use Rattle.cjc_cmd_card.specs.LowerJudge.Rules.{IsFirstRefused}
use Rattle.cjc_link_semantics.specs.List.Listed.{ListTree}
use Rattle.cjc_group.specs.World.Files.{Files}
use Rattle.cjc_group.specs.World.declared.image.StaticImage.{StaticImage}

-- ---- what is linked

-- a package by its list and files
abbrev member_with : ListTree → Files → Member
member_with list files = record { list = list; files = files; written = exported_by list files }

is_linked : (i : Input) (t : Tested) (image : StaticImage) → IsMade i t image → IsLinked i (linked_as t)
is_linked i t image made = record {
  trees = trees i [] t.ready made.is_ready;
  spell = spelt i [] t.ready made.is_ready;
  is = ap (λ (x : Input). member_with x.list (world_of t)) made.input_is
      ∙ ap (member_with i.list) (world_is i [] t.ready made.is_ready);
}

pub are_linked : (inputs : List Input) (ts : List Tested) (images : List StaticImage) → AreMade inputs ts images
    → AreLinked inputs (map linked_as ts)
are_linked [] [] [] all = tt
are_linked [] [] (j ∷ images) all = absurd all
are_linked [] (t ∷ ts) images all = absurd all
are_linked (i ∷ inputs) [] images all = absurd all
are_linked (i ∷ inputs) (t ∷ ts) [] all = absurd all
are_linked (i ∷ inputs) (t ∷ ts) (j ∷ images) all = (is_linked i t j all.0, are_linked inputs ts images all.1)

one_is : (i : Input) (m n : Member) → IsLinked i m → IsLinked i n → m ≡ n
one_is i m n p q =
    let list = i.list in
    p.is ∙ ap (linked_of list) (one_spelling list.lines i.files p.trees q.trees p.spell q.spell) ∙ sym q.is

-- what is linked is one
pub one_linked : (inputs : List Input) (ms ns : List Member) → AreLinked inputs ms → AreLinked inputs ns → ms ≡ ns
one_linked [] [] [] p q = refl
one_linked [] [] (n ∷ ns) p q = absurd q
one_linked [] (m ∷ ms) ns p q = absurd p
one_linked (i ∷ inputs) [] ns p q = absurd p
one_linked (i ∷ inputs) (m ∷ ms) [] p q = absurd q
one_linked (i ∷ inputs) (m ∷ ms) (n ∷ ns) p q =
    let e = one_is i m n p.0 q.0 in
    let rest = one_linked inputs ms ns p.1 q.1 in
    ap (λ x. x ∷ ms) e ∙ ap (λ xs. n ∷ xs) rest

-- the files of what is linked are those of the worlds
pub files_linked : (ts : List Tested) → map (λ (m : Member). m.files) (map linked_as ts) ≡ worlds_of ts
files_linked [] = refl
files_linked (t ∷ ts) = ap (λ xs. world_of t ∷ xs) (files_linked ts)

-- ---- what is broken together

module _ (input : GroupInput) (group : List Member) (linked : AreLinked input.members group) where
  module _ (broken : List Member → List Break) where
    there : (b : Break) → Breaks broken input b → Among b (broken group)
    there b (others, linked_too, among) =
        subst (λ ms. Among b (broken ms)) (one_linked input.members others group linked_too linked) among

    pub break_none : broken group ≡ [] → BreakNone broken input
    break_none none b h = none_among b (subst (Among b) none (there b h))

    pub first_fault : (e : Fault) → IsFirstRefusal (broken group) e → IsFault (IsFirstRefused (Breaks broken input)) e
    first_fault e (inl memory) = inl memory
    first_fault e (inr (b, first, is)) =
        let refused : IsFirstRefused (Breaks broken input) b.refusal = record {
          broken = b;
          first = record {
            breaks = (group, linked, first.among);
            least = λ a h. first.least a (there a h);
          };
          is = refl;
        } in
        inr (b.refusal, refused, is)

  pub are_agreed : breaks group ≡ [] → AreAgreed input
  are_agreed none = break_none breaks none

  pub miss_none : missing group ≡ [] → MissNone input
  miss_none none = break_none missing none

  of_fault : {P Q : Refusal → Type 0} (e : Fault) → ((r : Refusal) → P r → Q r) → IsFault P e → IsFault Q e
  of_fault e f (inl memory) = inl memory
  of_fault e f (inr (r, holds, is)) = inr (r, f r holds, is)

  pub together_fault : (name script : List ℕ) (e : Fault) → NoPart input script → IsTogetherFault group e
      → IsFault (IsRefused input name script) e
  together_fault name script e none (inl first) = of_fault e (λ r. by_group none) (first_fault breaks e first)
  together_fault name script e none (inr (agreed, first)) =
      of_fault e (λ r. by_missing none (are_agreed agreed)) (first_fault missing e first)
