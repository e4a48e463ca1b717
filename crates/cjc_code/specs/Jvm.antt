-- Opcodes of the Java Virtual Machine by their mnemonics (Java Virtual Machine Specification, 6.5).
use Rattle.std.specs.Prelude.{ℕ}

-- pushes a number of two bytes
abbrev pub sipush : ℕ
sipush = 0x11

-- pushes the int of local 0
abbrev pub iload_0 : ℕ
iload_0 = 0x1A

-- pushes the int of local 1
abbrev pub iload_1 : ℕ
iload_1 = 0x1B

-- pushes the reference of local 0
abbrev pub aload_0 : ℕ
aload_0 = 0x2A

-- loads an int from an array
abbrev pub iaload : ℕ
iaload = 0x2E

-- loads a reference from an array
abbrev pub aaload : ℕ
aaload = 0x32

-- loads a byte or a boolean from an array
abbrev pub baload : ℕ
baload = 0x33

-- loads a short from an array
abbrev pub saload : ℕ
saload = 0x35

-- stores an int into an array
abbrev pub iastore : ℕ
iastore = 0x4F

-- stores a reference into an array
abbrev pub aastore : ℕ
aastore = 0x53

-- stores a byte or a boolean into an array
abbrev pub bastore : ℕ
bastore = 0x54

-- stores a short into an array
abbrev pub sastore : ℕ
sastore = 0x56

-- takes off the top value
abbrev pub pop : ℕ
pop = 0x57

-- takes off the two values on top
abbrev pub pop2 : ℕ
pop2 = 0x58

-- copies the top value
abbrev pub dup : ℕ
dup = 0x59

-- copies the top value below the second
abbrev pub dup_x1 : ℕ
dup_x1 = 0x5A

-- copies the top value below the third
abbrev pub dup_x2 : ℕ
dup_x2 = 0x5B

-- copies the two values on top
abbrev pub dup2 : ℕ
dup2 = 0x5C

-- copies the two values on top below the third
abbrev pub dup2_x1 : ℕ
dup2_x1 = 0x5D

-- copies the two values on top below the fourth
abbrev pub dup2_x2 : ℕ
dup2_x2 = 0x5E

-- exchanges the two values on top
abbrev pub swap : ℕ
swap = 0x5F

-- adds
abbrev pub iadd : ℕ
iadd = 0x60

-- subtracts
abbrev pub isub : ℕ
isub = 0x64

-- multiplies
abbrev pub imul : ℕ
imul = 0x68

-- divides
abbrev pub idiv : ℕ
idiv = 0x6C

-- the remainder of a division
abbrev pub irem : ℕ
irem = 0x70

-- turns the sign
abbrev pub ineg : ℕ
ineg = 0x74

-- shifts to the left
abbrev pub ishl : ℕ
ishl = 0x78

-- shifts to the right, with the sign
abbrev pub ishr : ℕ
ishr = 0x7A

-- shifts to the right, without the sign
abbrev pub iushr : ℕ
iushr = 0x7C

-- the bits of both
abbrev pub iand : ℕ
iand = 0x7E

-- the bits of either
abbrev pub ior : ℕ
ior = 0x80

-- the bits of one of two
abbrev pub ixor : ℕ
ixor = 0x82

-- cuts an int to a byte
abbrev pub i2b : ℕ
i2b = 0x91

-- cuts an int to a short
abbrev pub i2s : ℕ
i2s = 0x93

-- jumps where the number is 0; the first of the tests of one number
abbrev pub ifeq : ℕ
ifeq = 0x99

-- jumps where the number is not 0
abbrev pub ifne : ℕ
ifne = 0x9A

-- jumps where the number is below 0
abbrev pub iflt : ℕ
iflt = 0x9B

-- jumps where the number is not below 0
abbrev pub ifge : ℕ
ifge = 0x9C

-- jumps where the number is above 0
abbrev pub ifgt : ℕ
ifgt = 0x9D

-- jumps where the number is not above 0; the last of the tests of one number
abbrev pub ifle : ℕ
ifle = 0x9E

-- jumps where two numbers are equal; the first of the comparisons of numbers
abbrev pub if_icmpeq : ℕ
if_icmpeq = 0x9F

-- jumps where two numbers differ
abbrev pub if_icmpne : ℕ
if_icmpne = 0xA0

-- jumps where the first number is below the second
abbrev pub if_icmplt : ℕ
if_icmplt = 0xA1

-- jumps where the first number is not below the second
abbrev pub if_icmpge : ℕ
if_icmpge = 0xA2

-- jumps where the first number is above the second
abbrev pub if_icmpgt : ℕ
if_icmpgt = 0xA3

-- jumps where the first number is not above the second; the last of the comparisons of numbers
abbrev pub if_icmple : ℕ
if_icmple = 0xA4

-- jumps where two references are the same
abbrev pub if_acmpeq : ℕ
if_acmpeq = 0xA5

-- jumps where two references are not the same
abbrev pub if_acmpne : ℕ
if_acmpne = 0xA6

-- returns an int
abbrev pub ireturn : ℕ
ireturn = 0xAC

-- returns a reference
abbrev pub areturn : ℕ
areturn = 0xB0

-- returns nothing
abbrev pub return : ℕ
return = 0xB1

-- calls a method of the object's own class
abbrev pub invokevirtual : ℕ
invokevirtual = 0xB6

-- calls a constructor, a private method or a method of the superclass
abbrev pub invokespecial : ℕ
invokespecial = 0xB7

-- calls a static method
abbrev pub invokestatic : ℕ
invokestatic = 0xB8

-- calls a method of an interface
abbrev pub invokeinterface : ℕ
invokeinterface = 0xB9

-- makes an object
abbrev pub new : ℕ
new = 0xBB

-- jumps where the reference is null
abbrev pub ifnull : ℕ
ifnull = 0xC6

-- jumps where the reference is not null
abbrev pub ifnonnull : ℕ
ifnonnull = 0xC7
