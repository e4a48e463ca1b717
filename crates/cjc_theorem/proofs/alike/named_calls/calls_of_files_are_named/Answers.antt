use Rattle.cjc_theorem.proofs.AlikeLaws.NamedCalls.Calls.{calls_named}
use Rattle.cjc_theorem.proofs.alike.named_calls.calls_of_files_are_named.Goals as goal

pub returns : goal.returns
returns c = λ list codes p is opcodes.
    calls_named list codes p is opcodes
    (record {
      virtuals = λ class id of. c.virtual_calls_are_named.ensures.named list codes p is class id of;
      virtual_takes = λ class id of. c.virtual_calls_are_named.ensures.words list codes p is class id of;
      supers = λ class id of class_here plain hit told visible. c.super_calls_are_named.ensures.named list codes p is
          class id of class_here plain hit told visible;
      super_takes = λ class id of. c.super_calls_are_named.ensures.words list codes p is class id of;
      privates = λ class id of hit told private. c.private_calls_are_named.ensures list codes p is class id of hit told
          private;
      constructors = λ class id of constructor. c.fixed_calls_are_named.ensures.constructors list codes p is class id of
          constructor;
      special_takes = λ class id of. c.fixed_calls_take_words.ensures.specials list codes p is class id of;
      statics = λ class id of. c.fixed_calls_are_named.ensures.statics list codes p is class id of;
      static_takes = λ class id of. c.fixed_calls_take_words.ensures.statics list codes p is class id of;
      interfaces = λ class id of words. c.interface_calls_are_named.ensures.named list codes p is class id of words;
      interface_takes = λ class id of words. c.interface_calls_are_named.ensures.words list codes p is class id of
          words;
    })
