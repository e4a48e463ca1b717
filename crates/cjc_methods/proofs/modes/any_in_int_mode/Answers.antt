use Rattle.std.proofs.Common.{◌≡◌, ◌+◌, ◌<◌, ℕ, sym, ap, ◌∙◌, Bool, true, false, List, length, drop, get_or}
use Rattle.std.specs.Prelude.{◌||◌}
use Rattle.std.specs.List.{list_any}
use Rattle.std.proofs.lemmas.List.{drop_all}
use Rattle.cjc_bytes.proofs.Gets.{from_index, same_item}
use Rattle.cjc_int_package.specs.Components.{is_in_int_mode}
use Rattle.cjc_pool.specs.JvmSemantics.OnePackage.{method_at}
use Rattle.cjc_world.specs.declared.found.Found.{Found}
use Rattle.cjc_methods.proofs.modes.any_in_int_mode.Goals as goal

-- from one item on
any_from : {A : Type 0} (p : A → Bool) (xs : List A) (i : ℕ) (x : A) → i < length xs → x ≡ get_or xs i x
    → (p x || list_any p (drop (i + 1) xs)) ≡ list_any p (drop i xs)
any_from p xs i x lt is = ap (λ y. p y || list_any p (drop (i + 1) xs)) is
    ∙ ap (list_any p) (sym (from_index xs i x lt))

any_next : {A : Type 0} (p : A → Bool) (xs : List A) (i : ℕ) (x : A) (b : Bool) → i < length xs → x ≡ get_or xs i x
    → p x ≡ false → list_any p (drop i xs) ≡ b → list_any p (drop (i + 1) xs) ≡ b
any_next p xs i x b lt is off e = sym (ap (λ y. y || list_any p (drop (i + 1) xs)) off) ∙ any_from p xs i x lt is ∙ e

any_here : {A : Type 0} (p : A → Bool) (xs : List A) (i : ℕ) (x : A) (b : Bool) → i < length xs → x ≡ get_or xs i x
    → p x ≡ true → list_any p (drop i xs) ≡ b → true ≡ b
any_here p xs i x b lt is on e = sym (ap (λ y. y || list_any p (drop (i + 1) xs)) on) ∙ any_from p xs i x lt is ∙ e

pub loop-member-preserved : goal.loop-member-preserved
loop-member-preserved c = λ t told.
    any_next (λ (f : Found). is_in_int_mode t (method_at c.args.world.now f)) c.args.members.now
    c.loop-member.member-index _ _ c.loop-member-test.true
    (same_item c.args.members.now c.loop-member.member-index _ c.loop-member-test.true)
    (sym (c.is_in_int_mode.ensures t told) ∙ c.if-is_in_int_mode.false) (c.loop-member.invariant t told)

pub returns-then-is_in_int_mode : goal.returns-then-is_in_int_mode
returns-then-is_in_int_mode c = λ t told.
    any_here (λ (f : Found). is_in_int_mode t (method_at c.args.world.now f)) c.args.members.now
    c.loop-member.member-index _ _ c.loop-member-test.true
    (same_item c.args.members.now c.loop-member.member-index _ c.loop-member-test.true)
    (sym (c.is_in_int_mode.ensures t told) ∙ c.if-is_in_int_mode.true) (c.loop-member.invariant t told)

pub returns : goal.returns
returns c = λ t told.
    let p = λ (f : Found). is_in_int_mode t (method_at c.args.world.now f) in
    sym (ap (list_any p) (drop_all c.loop-member.member-index c.args.members.now c.loop-member-test.false))
    ∙ c.loop-member.invariant t told
