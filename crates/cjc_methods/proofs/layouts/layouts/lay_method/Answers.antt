use Rattle.std.proofs.Common.{◌++◌, sym, subst, ℕ, List}
use Rattle.std.specs.Prelude.{Option, nat_lt, option_map}
use Rattle.cjc_bytes.specs.Breaks.{Break, IsFirstOf, at}
use Rattle.cjc_bytes.specs.Told.{break_of}
use Rattle.cjc_world.specs.Classes.{all_classes}
use Rattle.cjc_world.specs.Files.{Files}
use Rattle.cjc_components.specs.Descriptor.{method_in}
use Rattle.cjc_components.specs.Limits.{method_spot, order_breaks}
use Rattle.cjc_methods.specs.Layouts.Working.Tries.{overtaken}
use Rattle.cjc_methods.proofs.LayoutsLaws.Tested.{at_class}
use Rattle.cjc_methods.proofs.layouts.layouts.lay_method.Goals as goal

pub returns-clause-first : goal.returns-clause-first
returns-clause-first c = λ p same.
    let files = c.args.world.now in
    let f = c.args.member in
    let code = c.args.code.now in
    let own = c.requires.own in
    let o = option_map break_of c.method_break-broken.result in
    let place = λ (w : Files). method_spot p own.class f (method_in (all_classes w) own.class f.member) in
    let first = c.method_break-broken.ensures p own.class same own.is_class in
    let there = c.overtaken.ensures code c.in_ok-tried.ensures in
    subst (λ (bs : List Break). IsFirstOf bs o) (sym (at_class p files f code own same))
    (subst (λ (w : Files). IsFirstOf (order_breaks (place w) (overtaken code)
    ++ at (nat_lt 32767 code.widest) (place w 0) 415) o) (sym same)
    (subst (λ (x : Option ℕ). IsFirstOf (order_breaks (place files) x ++ at (nat_lt 32767 code.widest) (place files 0)
    415) o) there first))
