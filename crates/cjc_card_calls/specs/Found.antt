-- What a call selects as the code tells it, and the selection of the definitions that this is.
use Rattle.cjc_card_semantics.specs.Machine.Dispatch.{Selection}
use Rattle.cjc_card_semantics.specs.Machine.Dispatch
use Rattle.cjc_card_calls.specs.declared.calls.found.Found.{Found}
use Rattle.cjc_card_calls.specs.declared.calls.found.Found.TheVariants as founds
use Rattle.cjc_card_frame.specs.Kinds.{method_id}

-- none, a method of the package by its offset, or an imported method
abbrev pub found_of : Found → Selection
found_of founds.NotFound = Dispatch.NotFound
found_of (founds.At part offset) = Dispatch.At part offset
found_of (founds.Outward method) = Dispatch.Outward (method_id method)
