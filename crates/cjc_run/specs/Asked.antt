-- From a request of the program's code to the request of the definitions.
use Rattle.std.specs.Prelude.{◌≤◌}
use Rattle.cjc_run.specs.declared.command.Asked.{Asked}
use Rattle.cjc_run.specs.declared.command.Asked.TheVariants as asks
use Rattle.cjc_run.specs.Request.{Request, card, check, compat, convert, jvm, link, linkjvm, make, verify}

-- the request that a value of the program stands for
abbrev pub asked : Asked → Request
asked (asks.Convert list dir) = convert list.now dir.now
asked (asks.Check list dir) = check list.now dir.now
asked (asks.Jvm list script n) = jvm list.now script.now n
asked (asks.Card list dir script n) = card list.now dir.now script.now n
asked (asks.Make number size) = make number size
asked (asks.Verify list dir) = verify list.now dir.now
asked (asks.Link group script n) = link group.now script.now n
asked (asks.LinkJvm group script n) = linkjvm group.now script.now n
asked (asks.Compat old new) = compat old.now new.now

-- Where a package is to be made, it has 1 to 250 classes.
abbrev pub HasSize : Asked → Type 0
HasSize (asks.Convert list dir) = Unit {0}
HasSize (asks.Check list dir) = Unit {0}
HasSize (asks.Jvm list script n) = Unit {0}
HasSize (asks.Card list dir script n) = Unit {0}
HasSize (asks.Make number size) = (1 ≤ size) × (size ≤ 250)
HasSize (asks.Verify list dir) = Unit {0}
HasSize (asks.Link group script n) = Unit {0}
HasSize (asks.LinkJvm group script n) = Unit {0}
HasSize (asks.Compat old new) = Unit {0}
