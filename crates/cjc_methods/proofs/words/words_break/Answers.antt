use Rattle.std.specs.Prelude.{option_map}
use Rattle.cjc_bytes.specs.Told.{break_of, spot_of}
use Rattle.cjc_world.specs.Classes.{all_classes}
use Rattle.cjc_components.specs.Descriptor.{method_in}
use Rattle.cjc_methods.proofs.Spotted.{first_broken, is_broken, none_broken}
use Rattle.cjc_methods.proofs.words.words_break.Goals as goal

pub returns-then-none-clause-first : goal.returns-then-none-clause-first
returns-then-none-clause-first c = λ t told.
    let own = c.requires.own in
    let m = method_in (all_classes c.args.world.now) own.class c.args.member.member in
    first_broken t c.args.world.now c.args.member own.class own.is_class c.in_ok-none.none
    (c.in_ok-none.ensures.told t told own.class own.is_class) c.if-none.true (spot_of c.spot_in-spot.result)
    (c.spot_in-spot.ensures own.class m own.is_class (c.method_in-method.ensures own.class own.is_class))
    (option_map break_of c.broken.result) c.broken.ensures

pub returns-then-none-clause-room : goal.returns-then-none-clause-room
returns-then-none-clause-room c = is_broken break_of c.broken.result (spot_of c.spot_in-spot.result) 417 _
    c.broken.ensures

pub returns-clause-first : goal.returns-clause-first
returns-clause-first c = λ t told.
    let own = c.requires.own in
    none_broken t c.args.world.now c.args.member own.class own.is_class c.in_ok-none.none
    (c.in_ok-none.ensures.told t told own.class own.is_class) c.if-none.false

pub returns-clause-room : goal.returns-clause-room
returns-clause-room c = c.in_ok-none.ensures.room c.if-none.false
