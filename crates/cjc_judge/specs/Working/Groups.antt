-- What a world breaks of each group, and which types are kept.
use Rattle.std.specs.Prelude.{◌≡◌, ◌⊎◌, Bool, true, List, [], ◌∷◌, ◌++◌}
use Rattle.std.specs.List.{list_any}
use Rattle.cjc_clinit.specs.Bytecode.declared.method_code.MethodCode.{MethodCode}
use Rattle.cjc_list.specs.Listed.{ListTree}
use Rattle.cjc_clinit.specs.Subset.Checks.{check_breaks}
use Rattle.cjc_clinit.specs.Rules.{BreaksImage}
use Rattle.cjc_narrow.specs.Types.declared.table.TypeTable.{TypeTable}
use Rattle.cjc_vtable.specs.LowerTokens.Rules.{tested_breaks}
use Rattle.cjc_world.specs.Files.{Files}
use Rattle.cjc_bytes.specs.Breaks.{Break, Among}
use Rattle.cjc_judge.specs.declared.groups.Group.{Group}
use Rattle.cjc_judge.specs.declared.groups.Group.TheVariants as groups
use Rattle.cjc_judge.specs.declared.reading.UnsupportedInsn.{UnsupportedInsn}
use Rattle.cjc_int_mode.specs.declared.modes.Mode.{Mode}
use Rattle.cjc_judge.specs.Modes.{IsModeIn}
use Rattle.cjc_judge.specs.Types.{asks_types, asks_ranges, IsTableOf}
use Rattle.cjc_judge.specs.Rules.{unsupported_breaks, settings_of, has_applets, IsOfThirdHundred, BreaksAnyType}
use Rattle.cjc_judge.specs.Rules.{BreaksAnyRange, AnyBreaks}

-- one line a group: the methods of the world have these codes, and these break 303
abbrev pub WorldBreaks : ListTree → Files → List MethodCode → List UnsupportedInsn → Group → Break → Type 0
WorldBreaks list world codes unsupported_insns groups.Unsupported b =
    Among b (unsupported_breaks world unsupported_insns)
WorldBreaks list world codes unsupported_insns groups.Language b =
    Among b (check_breaks list.name world codes (settings_of list)) × IsOfThirdHundred b
WorldBreaks list world codes unsupported_insns groups.Initialisers b = BreaksImage world codes b
WorldBreaks list world codes unsupported_insns groups.Limits b =
    Among b (check_breaks list.name world codes (settings_of list))
WorldBreaks list world codes unsupported_insns groups.Tokens b = Among b (tested_breaks (has_applets list) world)
WorldBreaks list world codes unsupported_insns groups.Types b = BreaksAnyType world codes b
WorldBreaks list world codes unsupported_insns groups.Ranges b = BreaksAnyType world codes b
    ⊎ BreaksAnyRange list.ints world codes b

-- of some one of these groups
abbrev pub WorldBreaksAny : ListTree → Files → List MethodCode → List UnsupportedInsn → List Group → Break → Type 0
WorldBreaksAny list world codes unsupported_insns tested b = AnyBreaks (WorldBreaks list world codes unsupported_insns)
    tested b

-- ---- types are tested behind all others, and ranges behind types

-- what is broken of a group before types are tested
abbrev pub EarlyBreaks : ListTree → Files → List MethodCode → List UnsupportedInsn → Group → Break → Type 0
EarlyBreaks list world codes unsupported_insns groups.Unsupported b =
    Among b (unsupported_breaks world unsupported_insns)
EarlyBreaks list world codes unsupported_insns groups.Language b =
    Among b (check_breaks list.name world codes (settings_of list)) × IsOfThirdHundred b
EarlyBreaks list world codes unsupported_insns groups.Initialisers b = BreaksImage world codes b
EarlyBreaks list world codes unsupported_insns groups.Limits b =
    Among b (check_breaks list.name world codes (settings_of list))
EarlyBreaks list world codes unsupported_insns groups.Tokens b = Among b (tested_breaks (has_applets list) world)
EarlyBreaks list world codes unsupported_insns groups.Types b = ⊥
EarlyBreaks list world codes unsupported_insns groups.Ranges b = ⊥

-- of some one of these groups
abbrev pub EarlyBreaksAny : ListTree → Files → List MethodCode → List UnsupportedInsn → List Group → Break → Type 0
EarlyBreaksAny list world codes unsupported_insns tested b = AnyBreaks (EarlyBreaks list world codes unsupported_insns)
    tested b

-- what is broken of types, where some one of these groups asks for them
abbrev pub NamedTypeBreaks : Files → List MethodCode → List Group → Break → Type 0
NamedTypeBreaks world codes tested b = (list_any asks_types tested ≡ true) × BreaksAnyType world codes b

-- what is broken of ranges, likewise
abbrev pub NamedRangeBreaks : (ints : Bool) → Files → List MethodCode → List Group → Break → Type 0
NamedRangeBreaks ints world codes tested b = (list_any asks_ranges tested ≡ true) × BreaksAnyRange ints world codes b

-- the types of one method more
abbrev pub PutsTable : Files → MethodCode → (old new : List TypeTable) → Type 0
PutsTable world code old new = (table : TypeTable) × (new ≡ old ++ table ∷ []) × IsTableOf world code table

-- the mode of one method more
abbrev pub PutsMode : (ints : Bool) → Files → MethodCode → (old new : List Mode) → Type 0
PutsMode ints world code old new = (mode : Mode) × (new ≡ old ++ mode ∷ []) × IsModeIn ints world code mode
