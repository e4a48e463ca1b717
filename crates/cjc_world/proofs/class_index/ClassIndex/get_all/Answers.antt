use Rattle.std.proofs.Common.{ℕ, List, Bool, ◌+◌, drop, sym, ap, ◌∙◌}
use Rattle.cjc_world.specs.Working.Asked.{got_all, is_had}
use Rattle.cjc_world.specs.Classes.{all_classes}
use Rattle.cjc_world.specs.Working.Known.{class_of}
use Rattle.cjc_world.proofs.Asking.{all-some, all-none, all-end}
use Rattle.cjc_world.proofs.class_index.ClassIndex.get_all.Goals as goal
use Rattle.cjc_world.proofs.class_index.ClassIndex.get_all.Goals.{in-Some+in_ok-get_methods, in_default}

pub loop-place-preserved : goal.loop-place-preserved
loop-place-preserved c =
    let w = all_classes c.args.self.now in
    let name = (class_of c.args.class).name in
    let there : List ℕ → List ℕ → Bool = λ n d. is_had w c.args.rows.now (class_of c.args.class) c.args.line.now n d in
    let i = c.loop-place.place-index in
    elim c.match-class_in.branch [
      | in-Some+in_ok-get_methods b ↦
          ap (λ v. got_all w there name v.items (drop (i + 1) c.args.interfaces.now)) b.ids-is
          ∙ all-some w there name c.loop-place.ids.items b.get_methods.new.ids.items c.args.interfaces.now i 0
          (class_of b.in-Some.interface) c.loop-place-test.true (sym b.in-Some.ensures.at)
          b.in_ok-get_methods.ensures
          ∙ c.loop-place.invariant
      | in_default b ↦
          ap (λ v. got_all w there name v.items (drop (i + 1) c.args.interfaces.now)) b.ids-is
          ∙ all-none w there name c.loop-place.ids.items c.args.interfaces.now i 0 c.loop-place-test.true
          (sym b.in_default.ensures.at)
          ∙ c.loop-place.invariant
    ]

pub returns : goal.returns
returns c =
    all-end (all_classes c.args.self.now) (λ n d. is_had (all_classes c.args.self.now) c.args.rows.now
    (class_of c.args.class) c.args.line.now n d) (class_of c.args.class).name c.loop-place.ids.items
    c.args.interfaces.now c.loop-place.place-index c.loop-place-test.false
    ∙ c.loop-place.invariant
