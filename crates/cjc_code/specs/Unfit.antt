-- Rule 103: code that is not a run of instructions (Java Virtual Machine Specification, 4.9.1). Each case is a
-- test, and its places are offsets in the code, in bytes.
use Rattle.std.specs.Prelude.{ℕ, zero, suc, ◌+◌, ◌-◌, Bool, true, false, not, ◌&&◌, ◌||◌, nat_lt, nat_le, int_lt, ◌==◌}
use Rattle.std.specs.Prelude.{if◌then◌else◌, List, [], ◌∷◌, ◌++◌, length, map, flat_map, Option, Some, None, slice_get}
use Rattle.std.specs.Prelude.{get_or, ℤ, pos, negsuc}
use Rattle.std.specs.List.{list_any, list_all}
use Rattle.cjc_bytes.specs.AccessFlags.{is_static}
use Rattle.cjc_bytes.specs.Descriptor.{Parts}
use Rattle.cjc_bytes.specs.Spots.{desc_of}
use Rattle.cjc_classfile.specs.declared.tree.Catch.{Catch}
use Rattle.cjc_classfile.specs.declared.tree.ClassTree.{ClassTree}
use Rattle.cjc_classfile.specs.declared.tree.MethodTree.{MethodTree}
use Rattle.cjc_classfile.specs.PoolItem.{PoolItem}
use Rattle.cjc_classfile.specs.Code.{CodeTree}
use Rattle.cjc_code.specs.declared.raw.Raw.{Raw}
use Rattle.cjc_code.specs.declared.raw.Cut.{Cut}
use Rattle.cjc_code.specs.declared.table.Family.{Family}
use Rattle.cjc_code.specs.declared.table.Family.TheVariants as family
use Rattle.cjc_code.specs.Cut.{cut}
use Rattle.cjc_code.specs.Items.{needed, meets}
use Rattle.cjc_code.specs.Numbers.{first, u16_of, u8_of, target, offsets, local}

-- ---- where instructions start

-- from this place on, for each of so many bytes: whether it is one of these
unfoldable pub marks : List ℕ → (place : ℕ) → ℕ → List Bool
marks places place zero = []
marks places place (suc n) = list_any (λ p. p == place) places ∷ marks places (suc place) n

-- for each byte of a code of this length: whether an instruction starts there. The place where the cut stops counts as
-- one
unfoldable pub starts : Cut → ℕ → List Bool
starts c size = marks (map (λ (i : Raw). i.at) c.insns ++ c.stop ∷ []) 0 size

-- whether a place is the start of an instruction, by such a list
abbrev pub is_start : List Bool → ℤ → Bool
is_start starts (pos place) = get_or starts place false
is_start starts (negsuc n) = false

-- ---- the cases of an instruction

-- its index names nothing of the kind that it needs
abbrev pub has_wrong_item : (major : ℕ) → List PoolItem → Raw → Bool
has_wrong_item major pool i = not (meets pool (u16_of (first i.numbers)) (needed major i.family))

-- it may jump off the start of an instruction
abbrev pub has_wrong_jump : List Bool → Raw → Bool
has_wrong_jump starts i = not (list_all (λ offset. is_start starts (target i.at offset)) (offsets i.family i.numbers))

-- there is a number, and it is at the limit or above
abbrev pub is_from : ℕ → Option ℕ → Bool
is_from limit (Some n) = nat_le limit n
is_from limit None = false

-- its local is at max_locals or above
abbrev pub has_wrong_local : (max_locals : ℕ) → Raw → Bool
has_wrong_local max_locals i = is_from max_locals (local i.family i.numbers)

-- the values of pairs rise strictly
abbrev pub rise : List ℤ → Bool
rise (v ∷ o ∷ w ∷ zs) = int_lt v w && rise (w ∷ zs)
rise zs = true

-- it is a tableswitch with low above high, or a lookupswitch with a negative count or values that do not ascend
abbrev pub has_wrong_values : Family → List ℤ → Bool
has_wrong_values family.TableSwitch (other ∷ low ∷ high ∷ zs) = int_lt high low
has_wrong_values family.LookupSwitch (other ∷ pairs ∷ zs) = int_lt pairs (pos 0) || not (rise zs)
has_wrong_values _ zs = false

-- it is a newarray of no type: these are 4 to 11
abbrev pub has_wrong_type : Family → List ℤ → Bool
has_wrong_type family.NewArray zs = not (nat_le 4 (u8_of (first zs)) && nat_le (u8_of (first zs)) 11)
has_wrong_type _ zs = false

-- one of these
abbrev pub is_unfit : (major : ℕ) → List PoolItem → (max_locals : ℕ) → List Bool → Raw → Bool
is_unfit major pool max_locals starts i =
    has_wrong_item major pool i || has_wrong_jump starts i || has_wrong_local max_locals i
    || has_wrong_values i.family i.numbers || has_wrong_type i.family i.numbers

-- ---- the cases of a method and their places

-- the places of what breaks the rule
abbrev pub where_true : Bool → ℕ → List ℕ
where_true true place = place ∷ []
where_true false place = []

-- the instructions that break it
abbrev pub unfit_places : (major : ℕ) → List PoolItem → (max_locals : ℕ) → List Bool → List Raw → List ℕ
unfit_places major pool max_locals starts insns =
    flat_map (λ (i : Raw). where_true (is_unfit major pool max_locals starts i) i.at) insns

-- an unknown opcode or a cut operand, where the cut stops before the end
abbrev pub stop_places : (stop : ℕ) → (size : ℕ) → List ℕ
stop_places stop size = where_true (nat_lt stop size) stop

-- what may be followed by the next instruction
abbrev pub may_go_on : Family → Bool
may_go_on family.Goto = false
may_go_on family.TableSwitch = false
may_go_on family.LookupSwitch = false
may_go_on family.Return = false
may_go_on family.Throw = false
may_go_on family.UnsupportedJump = false
may_go_on family.UnsupportedReturn = false
may_go_on family.Ret = false
may_go_on _ = true

-- the place of the instruction, if there is one and another may follow it
abbrev pub where_it_may : Option Raw → List ℕ
where_it_may (Some i) = where_true (may_go_on i.family) i.at
where_it_may None = []

-- the last instruction, where it may fall off the end
abbrev pub last_places : List Raw → List ℕ
last_places insns = where_it_may (slice_get insns (length insns - 1))

-- the last instruction, where it may fall off the end of a code that was cut to its end
abbrev pub fall_places : Cut → (size : ℕ) → List ℕ
fall_places c size = if c.stop == size then last_places c.insns else []

-- how many parameters a descriptor has
abbrev pub params_of : Option Parts → ℕ
params_of (Some d) = length d.params
params_of None = 0

-- the locals that the arguments take, one for each parameter and one for `this`
abbrev pub arguments : MethodTree → ℕ
arguments m = params_of (desc_of m.desc) + (if is_static m.flags then 0 else 1)

-- the first instruction, where the arguments take more locals than there are
abbrev pub argument_places : MethodTree → (max_locals : ℕ) → List ℕ
argument_places m max_locals = where_true (nat_lt max_locals (arguments m)) 0

-- the target of a handler or a bound of its range that is no start of an instruction. An end may be the code's length
abbrev pub catch_places : List Bool → (size : ℕ) → Catch → List ℕ
catch_places starts size c =
    where_true (not (is_start starts (pos c.start))) c.start
    ++ where_true (not (is_start starts (pos c.end) || c.end == size)) c.end
    ++ where_true (not (is_start starts (pos c.target))) c.target

-- all of these, of a code and its cut
abbrev pub cut_places : ClassTree → MethodTree → CodeTree → Cut → List Bool → List ℕ
cut_places class method code c starts =
    unfit_places class.major class.pool code.max_locals starts c.insns
    ++ stop_places c.stop (length code.bytes)
    ++ fall_places c (length code.bytes)
    ++ argument_places method code.max_locals
    ++ flat_map (catch_places starts (length code.bytes)) code.catches

-- the places where the code of a method breaks rule 103
unfoldable pub unfit_code : ClassTree → MethodTree → CodeTree → List ℕ
unfit_code class method code = cut_places class method code (cut code.bytes) (starts (cut code.bytes)
    (length code.bytes))
