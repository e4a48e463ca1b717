-- What each opcode of the card takes and gives, by its row of the table of opcodes (Java Card Virtual Machine
-- Specification 2.2.2, chapter 7).
use Rattle.std.specs.Prelude.{ℕ, ◌+◌, ◌/◌, ◌%◌, ◌==◌, ◌&&◌, Bool, true, false, List, [], ◌∷◌, ◌++◌, map, replicate}
use Rattle.std.specs.Prelude.{slice_get, Option, Some, None, if◌then◌else◌, ℤ, pos}
use Rattle.std.specs.List.{range_with_len}
use Rattle.cjc_card_frame.specs.LowerCardSemantics.Bytecode.Calculations.{is_copy, is_swap}
use Rattle.cjc_card_frame.specs.LowerCardSemantics.Bytecode.Effects.{Letter, Reference, Byte, Short, Int}
use Rattle.cjc_card_frame.specs.LowerCardSemantics.Bytecode.Meanings.{Use, Gets, Puts, GetsStatic, PutsStatic, Calls}
use Rattle.cjc_card_frame.specs.LowerCardSemantics.Bytecode.Meanings.{Makes}
use Rattle.cjc_card_frame.specs.LowerCardSemantics.Bytecode.Meanings.{MakesReferences, Virtual, Special, Static}
use Rattle.cjc_frames.specs.declared.acts.Need.{Need}
use Rattle.cjc_frames.specs.declared.acts.Need.TheVariants.{AnyWord, NumberWord, ReferenceWord, OfArrays}
use Rattle.cjc_frames.specs.declared.acts.Given.{Given}
use Rattle.cjc_frames.specs.declared.acts.Given.TheVariants.{ANumber, ANull, Operand, Local, Element, Item}
use Rattle.cjc_frames.specs.declared.acts.Given.TheVariants as given
use Rattle.cjc_frames.specs.declared.acts.Read.{Read}
use Rattle.cjc_frames.specs.declared.acts.Write.{Write}
use Rattle.cjc_frames.specs.declared.acts.Act.{Act}
use Rattle.cjc_card_acts.specs.CardTypes.{arrays_of}

-- what the row of an opcode says
pub data Row : Type 0 where
  -- these words are put, the top first
  Pushes : (words : List Given) → Row
  -- what the local of this number holds, or that of the operand
  Loads : (letter : Letter) (local : Option ℕ) → Row
  Stores : (letter : Letter) (local : Option ℕ) → Row
  -- the number in a local is increased
  Increases : (letter : Letter) → Row
  Pops : (words : ℕ) → Row
  -- the top words once more; below others, as the operand says
  Copies : (words : ℕ) → Row
  CopiesBelow : Row
  Swaps : Row
  -- so many words that are numbers are taken, and so many put
  Calculates : (operands results : ℕ) → Row
  LoadsItem : (letter : Letter) → Row
  StoresItem : (letter : Letter) → Row
  CountsItems : Row
  Throws : Row
  -- a jump, and whether the next instruction may follow
  Jumps : (needs : List Need) (falls : Bool) → Row
  -- a switch by so many words
  Switches : (words : ℕ) → Row
  Returns : (letter : Option Letter) → Row
  -- what an entry of the constant pool names
  Uses : (how : Use) → Row
  CallsInterface : Row
  MakesNumbers : Row
  Casts : Row
  Asks : Row
  -- jsr, ret and the reserved opcodes
  Forbidden : Row

-- the rows of the opcodes from 00 to B8
abbrev pub rows : List Row
rows =
    replicate 1 (Pushes [])  -- 00 nop
    ++ replicate 1 (Pushes (ANull ∷ []))  -- 01 aconst_null
    ++ replicate 7 (Pushes (ANumber ∷ []))  -- 02 to 08 sconst_m1 to sconst_5
    ++ replicate 7 (Pushes (ANumber ∷ ANumber ∷ []))  -- 09 to 0F iconst_m1 to iconst_5
    ++ replicate 2 (Pushes (ANumber ∷ []))  -- 10 and 11 bspush, sspush
    ++ replicate 3 (Pushes (ANumber ∷ ANumber ∷ []))  -- 12 to 14 bipush, sipush, iipush
    ++ replicate 1 (Loads Reference None)  -- 15 aload
    ++ replicate 1 (Loads Short None)  -- 16 sload
    ++ replicate 1 (Loads Int None)  -- 17 iload
    ++ map (λ k. Loads Reference (Some k)) (range_with_len 0 4)  -- 18 to 1B aload_0 to aload_3
    ++ map (λ k. Loads Short (Some k)) (range_with_len 0 4)  -- 1C to 1F sload_0 to sload_3
    ++ map (λ k. Loads Int (Some k)) (range_with_len 0 4)  -- 20 to 23 iload_0 to iload_3
    ++ replicate 1 (LoadsItem Reference)  -- 24 aaload
    ++ replicate 1 (LoadsItem Byte)  -- 25 baload
    ++ replicate 1 (LoadsItem Short)  -- 26 saload
    ++ replicate 1 (LoadsItem Int)  -- 27 iaload
    ++ replicate 1 (Stores Reference None)  -- 28 astore
    ++ replicate 1 (Stores Short None)  -- 29 sstore
    ++ replicate 1 (Stores Int None)  -- 2A istore
    ++ map (λ k. Stores Reference (Some k)) (range_with_len 0 4)  -- 2B to 2E astore_0 to astore_3
    ++ map (λ k. Stores Short (Some k)) (range_with_len 0 4)  -- 2F to 32 sstore_0 to sstore_3
    ++ map (λ k. Stores Int (Some k)) (range_with_len 0 4)  -- 33 to 36 istore_0 to istore_3
    ++ replicate 1 (StoresItem Reference)  -- 37 aastore
    ++ replicate 1 (StoresItem Byte)  -- 38 bastore
    ++ replicate 1 (StoresItem Short)  -- 39 sastore
    ++ replicate 1 (StoresItem Int)  -- 3A iastore
    ++ replicate 1 (Pops 1)  -- 3B pop
    ++ replicate 1 (Pops 2)  -- 3C pop2
    ++ replicate 1 (Copies 1)  -- 3D dup
    ++ replicate 1 (Copies 2)  -- 3E dup2
    ++ replicate 1 CopiesBelow  -- 3F dup_x
    ++ replicate 1 Swaps  -- 40 swap_x
    ++ replicate 1 (Calculates 2 1)  -- 41 sadd
    ++ replicate 1 (Calculates 4 2)  -- 42 iadd
    ++ replicate 1 (Calculates 2 1)  -- 43 ssub
    ++ replicate 1 (Calculates 4 2)  -- 44 isub
    ++ replicate 1 (Calculates 2 1)  -- 45 smul
    ++ replicate 1 (Calculates 4 2)  -- 46 imul
    ++ replicate 1 (Calculates 2 1)  -- 47 sdiv
    ++ replicate 1 (Calculates 4 2)  -- 48 idiv
    ++ replicate 1 (Calculates 2 1)  -- 49 srem
    ++ replicate 1 (Calculates 4 2)  -- 4A irem
    ++ replicate 1 (Calculates 1 1)  -- 4B sneg
    ++ replicate 1 (Calculates 2 2)  -- 4C ineg
    ++ replicate 1 (Calculates 2 1)  -- 4D sshl
    ++ replicate 1 (Calculates 4 2)  -- 4E ishl
    ++ replicate 1 (Calculates 2 1)  -- 4F sshr
    ++ replicate 1 (Calculates 4 2)  -- 50 ishr
    ++ replicate 1 (Calculates 2 1)  -- 51 sushr
    ++ replicate 1 (Calculates 4 2)  -- 52 iushr
    ++ replicate 1 (Calculates 2 1)  -- 53 sand
    ++ replicate 1 (Calculates 4 2)  -- 54 iand
    ++ replicate 1 (Calculates 2 1)  -- 55 sor
    ++ replicate 1 (Calculates 4 2)  -- 56 ior
    ++ replicate 1 (Calculates 2 1)  -- 57 sxor
    ++ replicate 1 (Calculates 4 2)  -- 58 ixor
    ++ replicate 1 (Increases Short)  -- 59 sinc
    ++ replicate 1 (Increases Int)  -- 5A iinc
    ++ replicate 1 (Calculates 1 1)  -- 5B s2b
    ++ replicate 1 (Calculates 1 2)  -- 5C s2i
    ++ replicate 1 (Calculates 2 1)  -- 5D i2b
    ++ replicate 1 (Calculates 2 1)  -- 5E i2s
    ++ replicate 1 (Calculates 4 1)  -- 5F icmp
    ++ replicate 6 (Jumps (NumberWord ∷ []) true)  -- 60 to 65 ifeq, ifne, iflt, ifge, ifgt, ifle
    ++ replicate 2 (Jumps (ReferenceWord ∷ []) true)  -- 66 and 67 ifnull, ifnonnull
    ++ replicate 2 (Jumps (ReferenceWord ∷ ReferenceWord ∷ []) true)  -- 68 and 69 if_acmpeq, if_acmpne
    -- 6A to 6F if_scmpeq, if_scmpne, if_scmplt, if_scmpge, if_scmpgt, if_scmple
    ++ replicate 6 (Jumps (NumberWord ∷ NumberWord ∷ []) true)
    ++ replicate 1 (Jumps [] false)  -- 70 goto
    ++ replicate 2 Forbidden  -- 71 and 72 jsr, ret
    ++ replicate 1 (Switches 1)  -- 73 stableswitch
    ++ replicate 1 (Switches 2)  -- 74 itableswitch
    ++ replicate 1 (Switches 1)  -- 75 slookupswitch
    ++ replicate 1 (Switches 2)  -- 76 ilookupswitch
    ++ replicate 1 (Returns (Some Reference))  -- 77 areturn
    ++ replicate 1 (Returns (Some Short))  -- 78 sreturn
    ++ replicate 1 (Returns (Some Int))  -- 79 ireturn
    ++ replicate 1 (Returns None)  -- 7A return
    -- 7B to 7E getstatic_a, _b, _s, _i
    ++ map (λ letter. Uses (GetsStatic letter)) (Reference ∷ Byte ∷ Short ∷ Int ∷ [])
    -- 7F to 82 putstatic_a, _b, _s, _i
    ++ map (λ letter. Uses (PutsStatic letter)) (Reference ∷ Byte ∷ Short ∷ Int ∷ [])
    -- 83 to 86 getfield_a, _b, _s, _i
    ++ map (λ letter. Uses (Gets false letter)) (Reference ∷ Byte ∷ Short ∷ Int ∷ [])
    -- 87 to 8A putfield_a, _b, _s, _i
    ++ map (λ letter. Uses (Puts false letter)) (Reference ∷ Byte ∷ Short ∷ Int ∷ [])
    ++ replicate 1 (Uses (Calls Virtual))  -- 8B invokevirtual
    ++ replicate 1 (Uses (Calls Special))  -- 8C invokespecial
    ++ replicate 1 (Uses (Calls Static))  -- 8D invokestatic
    ++ replicate 1 CallsInterface  -- 8E invokeinterface
    ++ replicate 1 (Uses Makes)  -- 8F new
    ++ replicate 1 MakesNumbers  -- 90 newarray
    ++ replicate 1 (Uses MakesReferences)  -- 91 anewarray
    ++ replicate 1 CountsItems  -- 92 arraylength
    ++ replicate 1 Throws  -- 93 athrow
    ++ replicate 1 Casts  -- 94 checkcast
    ++ replicate 1 Asks  -- 95 instanceof
    ++ replicate 1 (Increases Short)  -- 96 sinc_w
    ++ replicate 1 (Increases Int)  -- 97 iinc_w
    ++ replicate 6 (Jumps (NumberWord ∷ []) true)  -- 98 to 9D ifeq_w, ifne_w, iflt_w, ifge_w, ifgt_w, ifle_w
    ++ replicate 2 (Jumps (ReferenceWord ∷ []) true)  -- 9E and 9F ifnull_w, ifnonnull_w
    ++ replicate 2 (Jumps (ReferenceWord ∷ ReferenceWord ∷ []) true)  -- A0 and A1 if_acmpeq_w, if_acmpne_w
    -- A2 to A7 if_scmpeq_w, if_scmpne_w, if_scmplt_w, if_scmpge_w, if_scmpgt_w, if_scmple_w
    ++ replicate 6 (Jumps (NumberWord ∷ NumberWord ∷ []) true)
    ++ replicate 1 (Jumps [] false)  -- A8 goto_w
    -- A9 to AC getfield_a_w, _b_w, _s_w, _i_w
    ++ map (λ letter. Uses (Gets false letter)) (Reference ∷ Byte ∷ Short ∷ Int ∷ [])
    -- AD to B0 getfield_a_this, _b_this, _s_this, _i_this
    ++ map (λ letter. Uses (Gets true letter)) (Reference ∷ Byte ∷ Short ∷ Int ∷ [])
    -- B1 to B4 putfield_a_w, _b_w, _s_w, _i_w
    ++ map (λ letter. Uses (Puts false letter)) (Reference ∷ Byte ∷ Short ∷ Int ∷ [])
    -- B5 to B8 putfield_a_this, _b_this, _s_this, _i_this
    ++ map (λ letter. Uses (Puts true letter)) (Reference ∷ Byte ∷ Short ∷ Int ∷ [])

-- past the table stand the reserved opcodes alone
abbrev pub known_row : Option Row → Row
known_row None = Forbidden
known_row (Some row) = row

-- The row of an opcode.
unfoldable pub row : (opcode : ℕ) → Row
row opcode = known_row (slice_get rows opcode)

-- ---- rows that see the stack and the locals alone

-- nothing is taken, given or broken, and the next instruction follows
abbrev pub idle : Act
idle = record {
  takes = [];
  reads = [];
  gives = [];
  writes = [];
  falls = true;
  targets = [];
  ends = false;
  misfits = false;
  is_unknown = false;
  misnames = false;
}

-- so many words of any kind
abbrev pub any_words : ℕ → List Need
any_words n = replicate n AnyWord

-- so many numbers
abbrev pub number_words : ℕ → List Need
number_words n = replicate n NumberWord

-- so many operands from one on, once more
abbrev pub operands_from : (k count : ℕ) → List Given
operands_from k count = map Operand (range_with_len k count)

-- words are put
abbrev pub pushing : List Given → Act
pushing words = record idle { gives = words }

-- what the words of a value that a letter moves are to be
abbrev pub letter_needs : Letter → List Need
letter_needs Reference = ReferenceWord ∷ []
letter_needs Byte = NumberWord ∷ []
letter_needs Short = NumberWord ∷ []
letter_needs Int = NumberWord ∷ NumberWord ∷ []

-- a local holds this
abbrev pub reading : (local : ℕ) → Need → Read
reading k need = record { local = k; need = need }

-- a local holds this afterwards
abbrev pub writing : (local : ℕ) → Given → Write
writing k g = record { local = k; given = g }

-- two locals hold an int
abbrev pub reading_int : (local : ℕ) → List Read
reading_int k = reading k NumberWord ∷ reading (k + 1) NumberWord ∷ []

-- two locals hold an int afterwards
abbrev pub writing_int : (local : ℕ) → List Write
writing_int k = writing k ANumber ∷ writing (k + 1) ANumber ∷ []

-- aload, sload, iload
abbrev pub loading : Letter → (local : ℕ) → Act
loading Reference k = record idle { reads = reading k ReferenceWord ∷ []; gives = Local k ∷ [] }
loading Byte k = record idle { reads = reading k NumberWord ∷ []; gives = ANumber ∷ [] }
loading Short k = record idle { reads = reading k NumberWord ∷ []; gives = ANumber ∷ [] }
loading Int k = record idle { reads = reading_int k; gives = ANumber ∷ ANumber ∷ [] }

-- a store leaves a number in a local by sstore and istore, and by astore the reference, or else nothing usable
abbrev pub storing : Letter → (local : ℕ) → Act
storing Reference k = record idle { takes = ReferenceWord ∷ []; writes = writing k (given.Reference 0) ∷ [] }
storing Byte k = record idle { takes = NumberWord ∷ []; writes = writing k ANumber ∷ [] }
storing Short k = record idle { takes = NumberWord ∷ []; writes = writing k ANumber ∷ [] }
storing Int k = record idle { takes = NumberWord ∷ NumberWord ∷ []; writes = writing_int k }

-- sinc, iinc
abbrev pub increasing : Letter → (local : ℕ) → Act
increasing Int k = record idle { reads = reading_int k; writes = writing_int k }
increasing letter k = record idle { reads = reading k NumberWord ∷ []; writes = writing k ANumber ∷ [] }

-- with the local of a number, or of the operand; no operand says none
abbrev pub with_local : (ℕ → Act) → Option ℕ → List ℤ → Act
with_local act (Some k) operands = act k
with_local act None (pos k ∷ operands) = act k
with_local act None operands = idle

-- the top words once more, below so many words
abbrev pub copying : (words below : ℕ) → Act
copying m n = record idle { takes = any_words n; gives = operands_from 0 n ++ operands_from 0 m }

-- the top words and those beneath change places
abbrev pub swapping : (m n : ℕ) → Act
swapping m n = record idle { takes = any_words (m + n); gives = operands_from m n ++ operands_from 0 m }

-- an operand that the instruction may not have
abbrev pub unknown : Act
unknown = record idle { is_unknown = true }

-- dup_x, by two nibbles: no words below is as many as are copied
abbrev pub copying_below : (operand : ℕ) → Act
copying_below b = let m = b / 16 in let n = b % 16 in if is_copy m n then copying m (if n == 0 then m else n)
    else unknown

-- swap_x, by two nibbles
abbrev pub swapping_by : (operand : ℕ) → Act
swapping_by b = let m = b / 16 in let n = b % 16 in if is_swap m && is_swap n then swapping m n else unknown

-- with the number that is the operand
abbrev pub with_number : (ℕ → Act) → List ℤ → Act
with_number act (pos n ∷ operands) = act n
with_number act operands = unknown

-- numbers of numbers
abbrev pub calculating : (operands results : ℕ) → Act
calculating m n = record idle { takes = number_words m; gives = replicate n ANumber }

-- the words of an element of the array beneath the index
abbrev pub items_of : Letter → List Given
items_of Reference = Element 1 ∷ []
items_of Byte = Item 1 ∷ []
items_of Short = Item 1 ∷ []
items_of Int = Item 1 ∷ Item 1 ∷ []

-- an element is loaded: the index lies on top of the array
abbrev pub loading_item : Letter → Act
loading_item letter = record idle {
  takes = NumberWord ∷ OfArrays (arrays_of letter) ∷ [];
  gives = items_of letter;
}

-- an element is stored: the value lies on top of the index
abbrev pub storing_item : Letter → Act
storing_item letter = record idle { takes = letter_needs letter ++ NumberWord ∷ OfArrays (arrays_of letter) ∷ [] }
