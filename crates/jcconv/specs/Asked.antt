-- What a value of the program stands for.
use Rattle.jcconv.specs.declared.command.Asked.{Asked}
use Rattle.jcconv.specs.Request.{Request, convert}

-- the request that a value of the program stands for
abbrev pub asked : Asked → Request
asked a = convert a.list.now a.dir.now
