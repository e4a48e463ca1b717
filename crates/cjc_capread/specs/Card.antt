-- Opcodes of the card by their mnemonics (Java Card Virtual Machine Specification 2.2.2, chapter 7).
use Rattle.std.specs.Prelude.{ℕ}

-- pushes null
abbrev pub aconst_null : ℕ
aconst_null = 0x01

-- pushes the short -1
abbrev pub sconst_m1 : ℕ
sconst_m1 = 0x02

-- pushes the short 0; those of 1 to 5 follow
abbrev pub sconst_0 : ℕ
sconst_0 = 0x03

-- pushes the int -1
abbrev pub iconst_m1 : ℕ
iconst_m1 = 0x09

-- pushes the int 0; those of 1 to 5 follow
abbrev pub iconst_0 : ℕ
iconst_0 = 0x0A

-- pushes a byte as a short
abbrev pub bspush : ℕ
bspush = 0x10

-- pushes a short
abbrev pub sspush : ℕ
sspush = 0x11

-- pushes a byte as an int
abbrev pub bipush : ℕ
bipush = 0x12

-- pushes a short as an int
abbrev pub sipush : ℕ
sipush = 0x13

-- pushes an int
abbrev pub iipush : ℕ
iipush = 0x14

-- pushes the reference of a local
abbrev pub aload : ℕ
aload = 0x15

-- pushes the short of a local
abbrev pub sload : ℕ
sload = 0x16

-- pushes the int of a local
abbrev pub iload : ℕ
iload = 0x17

-- pushes the reference of local 0; those of locals 1 to 3 follow
abbrev pub aload_0 : ℕ
aload_0 = 0x18

-- pushes the short of local 0; those of locals 1 to 3 follow
abbrev pub sload_0 : ℕ
sload_0 = 0x1C

-- pushes the int of local 0; those of locals 1 to 3 follow
abbrev pub iload_0 : ℕ
iload_0 = 0x20

-- loads a reference from an array
abbrev pub aaload : ℕ
aaload = 0x24

-- loads a byte or a boolean from an array
abbrev pub baload : ℕ
baload = 0x25

-- loads a short from an array
abbrev pub saload : ℕ
saload = 0x26

-- loads an int from an array
abbrev pub iaload : ℕ
iaload = 0x27

-- stores a reference into a local
abbrev pub astore : ℕ
astore = 0x28

-- stores a short into a local
abbrev pub sstore : ℕ
sstore = 0x29

-- stores an int into a local
abbrev pub istore : ℕ
istore = 0x2A

-- stores a reference into local 0; those of locals 1 to 3 follow
abbrev pub astore_0 : ℕ
astore_0 = 0x2B

-- stores a short into local 0; those of locals 1 to 3 follow
abbrev pub sstore_0 : ℕ
sstore_0 = 0x2F

-- stores an int into local 0; those of locals 1 to 3 follow
abbrev pub istore_0 : ℕ
istore_0 = 0x33

-- stores a reference into an array
abbrev pub aastore : ℕ
aastore = 0x37

-- stores a byte or a boolean into an array
abbrev pub bastore : ℕ
bastore = 0x38

-- stores a short into an array
abbrev pub sastore : ℕ
sastore = 0x39

-- stores an int into an array
abbrev pub iastore : ℕ
iastore = 0x3A

-- takes off the top word
abbrev pub pop : ℕ
pop = 0x3B

-- takes off the two words on top
abbrev pub pop2 : ℕ
pop2 = 0x3C

-- copies the top word
abbrev pub dup : ℕ
dup = 0x3D

-- copies the two words on top
abbrev pub dup2 : ℕ
dup2 = 0x3E

-- copies up to four words on top below others
abbrev pub dup_x : ℕ
dup_x = 0x3F

-- exchanges words on top with those below them
abbrev pub swap_x : ℕ
swap_x = 0x40

-- adds shorts
abbrev pub sadd : ℕ
sadd = 0x41

-- subtracts shorts
abbrev pub ssub : ℕ
ssub = 0x43

-- multiplies shorts
abbrev pub smul : ℕ
smul = 0x45

-- divides shorts
abbrev pub sdiv : ℕ
sdiv = 0x47

-- the remainder of a division of shorts
abbrev pub srem : ℕ
srem = 0x49

-- turns the sign of a short
abbrev pub sneg : ℕ
sneg = 0x4B

-- shifts a short to the left
abbrev pub sshl : ℕ
sshl = 0x4D

-- shifts a short to the right, with the sign
abbrev pub sshr : ℕ
sshr = 0x4F

-- shifts a short to the right, without the sign
abbrev pub sushr : ℕ
sushr = 0x51

-- the bits of both shorts
abbrev pub sand : ℕ
sand = 0x53

-- the bits of either short
abbrev pub sor : ℕ
sor = 0x55

-- the bits of one of two shorts
abbrev pub sxor : ℕ
sxor = 0x57

-- adds a byte to the short of a local
abbrev pub sinc : ℕ
sinc = 0x59

-- adds a byte to the int of a local
abbrev pub iinc : ℕ
iinc = 0x5A

-- cuts a short to a byte
abbrev pub s2b : ℕ
s2b = 0x5B

-- widens a short to an int
abbrev pub s2i : ℕ
s2i = 0x5C

-- cuts an int to a byte, as a short
abbrev pub i2b : ℕ
i2b = 0x5D

-- cuts an int to a short
abbrev pub i2s : ℕ
i2s = 0x5E

-- compares two ints
abbrev pub icmp : ℕ
icmp = 0x5F

-- jumps where the short is 0; the first of the jumps of one byte
abbrev pub ifeq : ℕ
ifeq = 0x60

-- jumps where the short is not 0
abbrev pub ifne : ℕ
ifne = 0x61

-- jumps where the short is below 0
abbrev pub iflt : ℕ
iflt = 0x62

-- jumps where the short is not below 0
abbrev pub ifge : ℕ
ifge = 0x63

-- jumps where the short is above 0
abbrev pub ifgt : ℕ
ifgt = 0x64

-- jumps where the short is not above 0
abbrev pub ifle : ℕ
ifle = 0x65

-- jumps where the reference is null
abbrev pub ifnull : ℕ
ifnull = 0x66

-- jumps where the reference is not null
abbrev pub ifnonnull : ℕ
ifnonnull = 0x67

-- jumps where two references are the same
abbrev pub if_acmpeq : ℕ
if_acmpeq = 0x68

-- jumps where two references are not the same
abbrev pub if_acmpne : ℕ
if_acmpne = 0x69

-- jumps where two shorts are equal
abbrev pub if_scmpeq : ℕ
if_scmpeq = 0x6A

-- jumps where two shorts differ
abbrev pub if_scmpne : ℕ
if_scmpne = 0x6B

-- jumps where the first short is below the second
abbrev pub if_scmplt : ℕ
if_scmplt = 0x6C

-- jumps where the first short is not below the second
abbrev pub if_scmpge : ℕ
if_scmpge = 0x6D

-- jumps where the first short is above the second
abbrev pub if_scmpgt : ℕ
if_scmpgt = 0x6E

-- jumps where the first short is not above the second
abbrev pub if_scmple : ℕ
if_scmple = 0x6F

-- jumps
abbrev pub goto : ℕ
goto = 0x70

-- jumps into a subroutine
abbrev pub jsr : ℕ
jsr = 0x71

-- jumps by a table of shorts
abbrev pub stableswitch : ℕ
stableswitch = 0x73

-- jumps by a table of ints
abbrev pub itableswitch : ℕ
itableswitch = 0x74

-- jumps by pairs with shorts
abbrev pub slookupswitch : ℕ
slookupswitch = 0x75

-- jumps by pairs with ints
abbrev pub ilookupswitch : ℕ
ilookupswitch = 0x76

-- returns a reference
abbrev pub areturn : ℕ
areturn = 0x77

-- returns a short
abbrev pub sreturn : ℕ
sreturn = 0x78

-- returns an int
abbrev pub ireturn : ℕ
ireturn = 0x79

-- returns nothing
abbrev pub return : ℕ
return = 0x7A

-- pushes a static reference; those of bytes, shorts and ints follow
abbrev pub getstatic_a : ℕ
getstatic_a = 0x7B

-- stores a static reference; those of bytes, shorts and ints follow
abbrev pub putstatic_a : ℕ
putstatic_a = 0x7F

-- stores a static int; the last of the accesses of static fields
abbrev pub putstatic_i : ℕ
putstatic_i = 0x82

-- pushes an object's reference; those of bytes, shorts and ints follow
abbrev pub getfield_a : ℕ
getfield_a = 0x83

-- stores an object's reference; those of bytes, shorts and ints follow
abbrev pub putfield_a : ℕ
putfield_a = 0x87

-- stores an object's int; the last of the accesses of fields by an index of one byte
abbrev pub putfield_i : ℕ
putfield_i = 0x8A

-- calls a method of the object's own class
abbrev pub invokevirtual : ℕ
invokevirtual = 0x8B

-- calls a constructor, a private method or a method of the superclass
abbrev pub invokespecial : ℕ
invokespecial = 0x8C

-- calls a static method
abbrev pub invokestatic : ℕ
invokestatic = 0x8D

-- calls a method of an interface
abbrev pub invokeinterface : ℕ
invokeinterface = 0x8E

-- makes an object
abbrev pub new : ℕ
new = 0x8F

-- makes an array of numbers
abbrev pub newarray : ℕ
newarray = 0x90

-- makes an array of references
abbrev pub anewarray : ℕ
anewarray = 0x91

-- pushes the length of an array
abbrev pub arraylength : ℕ
arraylength = 0x92

-- throws
abbrev pub athrow : ℕ
athrow = 0x93

-- throws where the reference is not of a type
abbrev pub checkcast : ℕ
checkcast = 0x94

-- pushes whether the reference is of a type
abbrev pub instanceof : ℕ
instanceof = 0x95

-- adds a short to the short of a local
abbrev pub sinc_w : ℕ
sinc_w = 0x96

-- adds a short to the int of a local
abbrev pub iinc_w : ℕ
iinc_w = 0x97

-- jumps where the short is 0; the first of the jumps of two bytes
abbrev pub ifeq_w : ℕ
ifeq_w = 0x98

-- jumps; the last of the jumps of two bytes
abbrev pub goto_w : ℕ
goto_w = 0xA8

-- pushes an object's reference, by an index of two bytes; those of bytes, shorts and ints follow
abbrev pub getfield_a_w : ℕ
getfield_a_w = 0xA9

-- stores an object's reference, by an index of two bytes; those of bytes, shorts and ints follow
abbrev pub putfield_a_w : ℕ
putfield_a_w = 0xB1

-- stores an int of this; the last of the accesses of fields
abbrev pub putfield_i_this : ℕ
putfield_i_this = 0xB8

-- for a machine's own use
abbrev pub impdep1 : ℕ
impdep1 = 0xFE

-- for a machine's own use; the last opcode
abbrev pub impdep2 : ℕ
impdep2 = 0xFF
