-- What a method that a script names is on a receiver, by steps.
use Rattle.std.specs.Prelude.{suc, Option}
use Rattle.cjc_card_semantics.specs.Bytes.declared.fault.MemberId.{MemberId}
use Rattle.cjc_card_semantics.specs.Machine.Loaded.{Loaded}
use Rattle.cjc_card_semantics.specs.Machine.Classes.{Class, depth, object_class}
use Rattle.cjc_card_semantics.specs.Machine.Calls.{found_token, interface_token, sent_by, through}
use Rattle.cjc_card_semantics.specs.Machine.Dispatch.{Selection}

-- by the method that is found from a class
abbrev pub sent_from : Loaded → (receiver : Option Class) → (named : Class) → MemberId → (class : Option Class)
    → Selection
sent_from l receiver named id class = sent_by l receiver named id (found_token l (suc (depth l)) class id)

-- by a method of the named interface, else by one of java/lang/Object
abbrev pub sent_to_interface : Loaded → (receiver : Option Class) → (named : Class) → MemberId → Selection
sent_to_interface l receiver named id = through l receiver named (interface_token l named id)
    (sent_from l receiver named id (object_class l))
