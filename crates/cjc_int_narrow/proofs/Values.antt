-- The constants that the instructions of a method of a package get, where its intervals are to be found.
use Rattle.std.proofs.Common.{◌≡◌, sym, ap, ◌∙◌, List, Option}
use Rattle.cjc_int_mode.specs.World.Files.{Files}
use Rattle.cjc_int_mode.specs.Flow.Constants.{values_of}
use Rattle.cjc_flow.specs.Working.Kept.{Ranged}
use Rattle.cjc_narrow.specs.Types.declared.state.State.{State}
use Rattle.cjc_narrow.specs.Types.Flow.{Body}
use Rattle.cjc_int_narrow.specs.Constants.{constants_of}

-- the values are those that the constants of the package give
pub values_are : (files : Files) (r : Ranged) (body : Body) (types : List (Option State)) → r ≡ record {
  body = body;
  values = values_of (constants_of files) body.insns;
  types = types;
}
    → r.values ≡ values_of (constants_of files) r.body.insns
values_are files r body types is = ap (λ (s : Ranged). s.values) is ∙ ap (λ (s : Ranged). let b = s.body
    in values_of (constants_of files) b.insns) (sym is)
