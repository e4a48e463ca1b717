use Rattle.cjc_methods.specs.Component.Emittable.{AreEmittable}
use Rattle.cjc_convert.proofs.ConvertingLaws.Shapes.{its_pool}
use Rattle.cjc_convert.proofs.converting.caps.methods_of.Goals as goal

pub method_component-requires-clause-laid : goal.method_component-requires-clause-laid
method_component-requires-clause-laid c = let (list, files, p, is, shaped) = c.requires.shaped in shaped.laid

pub returns-clause-method : goal.returns-clause-method
returns-clause-method c = λ list files p is shaped offsets pool.
    let judged = c.args.judged.now in
    let s = c.args.shaped.now in
    let has = its_pool list files s p shaped judged.world c.args.pool.now pool in
    let law = c.converted_methods_are_emittable.ensures in
    let all : AreEmittable p c.args.pool.now = record {
      keys = law.keys list files judged is s p shaped c.args.pool.now
          has;
      each = law.each list files judged is s p shaped c.args.pool.now has;
    } in
    c.method_component.ensures.method p shaped.by_methods offsets all

pub returns-clause-locations : goal.returns-clause-locations
returns-clause-locations c = λ list files p is shaped offsets pool.
    let judged = c.args.judged.now in
    let s = c.args.shaped.now in
    let has = its_pool list files s p shaped judged.world c.args.pool.now pool in
    let law = c.converted_methods_are_emittable.ensures in
    let all : AreEmittable p c.args.pool.now = record {
      keys = law.keys list files judged is s p shaped c.args.pool.now
          has;
      each = law.each list files judged is s p shaped c.args.pool.now has;
    } in
    c.method_component.ensures.locations p shaped.by_methods offsets all
