use Rattle.std.proofs.Common.{◌∙◌, ap, refl}
use Rattle.std.proofs.lemmas.Result.{err_from_is_err_and}
use Rattle.cjc_captree.specs.NCode.PoolOrder.{pool_order}
use Rattle.cjc_shape_proof.specs.LowerShape.Whole.Working.Shaped.{package_of}
use Rattle.cjc_convert.proofs.ConversionLaws.Shapes.{its_codes, its_pool, laid_out}
use Rattle.cjc_convert.proofs.building.build.Goals as goal

pub offsets-requires : goal.offsets-requires
offsets-requires c = c.requires.shaped.laid

pub method_component-requires-clause-laid : goal.method_component-requires-clause-laid
method_component-requires-clause-laid c = c.requires.shaped.laid

pub components_with-requires-clause-fit : goal.components_with-requires-clause-fit
components_with-requires-clause-fit c =
    let j = c.args.judged.now in
    let s = c.args.shaped.now in
    let aids = c.aids_are_short.ensures j.list.now c.requires.read in
    c.static_images_fit.ensures j.list.now j.files.now j (package_of j s) (laid_out j s c.requires.shaped
    c.requires.read aids c.requires.sound)

pub components_with-requires-clause-keys : goal.components_with-requires-clause-keys
components_with-requires-clause-keys c =
    c.items-2.ensures ∙ c.keys.ensures ∙ c.in_ok-pool.ensures.keys
    ∙ ap pool_order (its_codes c.args.judged.now c.args.shaped.now c.requires.shaped)

pub components_with-requires-clause-offsets : goal.components_with-requires-clause-offsets
components_with-requires-clause-offsets c = c.items-3.ensures ∙ c.in_ok-offsets.ensures.each

pub components_with-requires-clause-method : goal.components_with-requires-clause-method
components_with-requires-clause-method c =
    let j = c.args.judged.now in
    let s = c.args.shaped.now in
    let shaped = c.requires.shaped in
    let p = package_of j s in
    c.in_ok-written.ensures.method p refl (c.items.ensures ∙ c.in_ok-offsets.ensures.each)
    (c.converted_methods_are_emittable.ensures j.list.now j.files.now j c.requires.sound p shaped.is_package
    shaped.words shaped.forms
    c.in_ok-pool.pool (its_pool j s shaped c.in_ok-pool.pool c.in_ok-pool.ensures))

pub components_with-requires-clause-locations : goal.components_with-requires-clause-locations
components_with-requires-clause-locations c =
    let j = c.args.judged.now in
    let s = c.args.shaped.now in
    let shaped = c.requires.shaped in
    let p = package_of j s in
    c.in_ok-written.ensures.locations p refl (c.items.ensures ∙ c.in_ok-offsets.ensures.each)
    (c.converted_methods_are_emittable.ensures j.list.now j.files.now j c.requires.sound p shaped.is_package
    shaped.words shaped.forms
    c.in_ok-pool.pool (its_pool j s shaped c.in_ok-pool.pool c.in_ok-pool.ensures))

pub returns-in_err-test_sizes-clause-refused : goal.returns-in_err-test_sizes-clause-refused
returns-in_err-test_sizes-clause-refused c =
    let j = c.args.judged.now in
    let s = c.args.shaped.now in
    let e = err_from_is_err_and c.from_residual-in_err-test_sizes.result c.from_residual-in_err-test_sizes.ensures.1 in
    rw (e.1, e.2) (c.in_err-test_sizes.ensures.refused (package_of j s) c.items-4.ensures (c.items-5.ensures
    ∙ its_codes j s c.requires.shaped) c.in_ok-cap.ensures)

pub returns-clause-unbroken : goal.returns-clause-unbroken
returns-clause-unbroken c =
    let j = c.args.judged.now in
    let s = c.args.shaped.now in
    c.in_ok-test_sizes.ensures.unbroken (package_of j s) c.items-4.ensures (c.items-5.ensures
    ∙ its_codes j s c.requires.shaped) c.in_ok-cap.ensures

pub returns-clause-made : goal.returns-clause-made
returns-clause-made c = λ t mode. c.set_mode.ensures t (package_of c.args.judged.now c.args.shaped.now)
    c.in_ok-cap.ensures mode
