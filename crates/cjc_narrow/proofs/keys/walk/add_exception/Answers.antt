use Rattle.std.proofs.Common.{◌≡◌, ◌∷◌, [], sym, ap, ◌∙◌, Bool}
use Rattle.std.specs.Prelude.{codes, if◌then◌else◌}
use Rattle.std.proofs.lemmas.Result.{on_ok_weaker}
use Rattle.indexmap.specs.IndexSet.{insert_all, insert_key}
use Rattle.cjc_ncode.specs.declared.narrow.PoolKey.TheVariants as keys
use Rattle.cjc_ncode.specs.PoolOrder.{same_key}
use Rattle.cjc_narrow.proofs.keys.walk.add_exception.Goals as goal

pub returns-then-any_catch_type : goal.returns-then-any_catch_type
returns-then-any_catch_type c =
    let whether = sym c.if-any_catch_type.true ∙ c.any_catch_type.ensures in
    let object = keys.Class (codes "java/lang/Object") in
    on_ok_weaker c.add.result (λ e.
    e
    ∙ (ap (insert_key same_key c.args.numbers.now) c.class.ensures
    ∙ ap (λ (b : Bool). insert_all same_key c.args.numbers.now (if b then object ∷ [] else [])) whether)) c.add.ensures
