use Rattle.std.proofs.Common.{◌≡◌, ℕ, List, false, sym, ap, subst, ◌∙◌}
use Rattle.std.specs.Prelude.{Some, None, option_and_then, if◌then◌else◌}
use Rattle.cjc_world.specs.Bytes.declared.fault.MemberId.{MemberId}
use Rattle.cjc_world.specs.declared.found.Found.{Found}
use Rattle.cjc_world.specs.Files.{Files}
use Rattle.cjc_world.specs.Classes.{Class, all_classes}
use Rattle.cjc_world.specs.Lookup.{find_method}
use Rattle.cjc_jvm_semantics.specs.OnePackage.{ResolvedMember, call_by, call_named, is_initialiser, method_hit}
use Rattle.cjc_jvm_semantics.specs.OnePackage.{select_in}
use Rattle.cjc_jvm_step.specs.Step.Names.{IsCall}
use Rattle.cjc_jvm_link.specs.Found.{hit_of}
use Rattle.cjc_jvm_link.specs.Wanted.{selection_by}
use Rattle.cjc_jvm_link.proofs.links.Links.call_named.Goals as goal

-- a call of a method that is found and is no initialiser
call_named_is : (files : Files) (w : List Class) (holder : List ℕ) (op : ℕ) (id : MemberId) (f : Found)
    (hit : ResolvedMember) → is_initialiser id.name ≡ false → find_method w id.class id.name id.desc ≡ Some f
    → method_hit w f ≡ Some hit → call_named files w holder op id ≡ call_by files w (select_in w) holder op id f hit
call_named_is files w holder op id f hit plain found there =
    ap (λ t. if t then None else option_and_then (λ g. option_and_then (call_by files w (select_in w) holder op id g)
    (method_hit w g)) (find_method w id.class id.name id.desc)) plain
    ∙ ap (option_and_then (λ g. option_and_then (call_by files w (select_in w) holder op id g) (method_hit w g))) found
    ∙ ap (option_and_then (call_by files w (select_in w) holder op id f)) there

pub returns-in-Some : goal.returns-in-Some
returns-in-Some c = λ holder.
    let files = c.args.self.now.files in
    let w = all_classes files in
    let op = c.args.op in
    let id = c.args.id.now in
    let method = c.in-Some.method in
    let hit = hit_of method.owner in
    let plain : is_initialiser id.name ≡ false = ap is_initialiser (sym c.items.ensures) ∙ sym
    c.is_initialiser.ensures ∙ c.if-is_initialiser.false in
    subst (IsCall id c.call_by.result)
    (ap (λ wanted. call_by files w (selection_by w wanted) holder op id method.found hit) c.in-Some.ensures.2
    ∙ sym (call_named_is files w holder op id method.found hit plain c.in-Some.ensures.0 c.in-Some.ensures.1))
    (c.call_by.ensures holder id (sym c.items-in-Some.ensures))
