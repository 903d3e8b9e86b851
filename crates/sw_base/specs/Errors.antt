-- The table of errors (SCPI-1999, 21.8).
use Rattle.std.specs.Prelude.{ℕ, ◌-◌, ℤ, negsuc, List, nat_lt, codes, if◌then◌else◌}
use Rattle.sw_base.specs.declared.error.ScpiError.{ScpiError}
use Rattle.sw_base.specs.declared.error.ScpiError.TheVariants.{InvalidCharacter, SyntaxError, InvalidSeparator}
use Rattle.sw_base.specs.declared.error.ScpiError.TheVariants.{DataTypeError, GetNotAllowed, ParameterNotAllowed}
use Rattle.sw_base.specs.declared.error.ScpiError.TheVariants.{MissingParameter, UndefinedHeader}
use Rattle.sw_base.specs.declared.error.ScpiError.TheVariants.{HeaderSuffixOutOfRange, InvalidCharacterInNumber}
use Rattle.sw_base.specs.declared.error.ScpiError.TheVariants.{ExponentTooLarge, TooManyDigits, InvalidSuffix}
use Rattle.sw_base.specs.declared.error.ScpiError.TheVariants.{SuffixNotAllowed, InvalidCharacterData}
use Rattle.sw_base.specs.declared.error.ScpiError.TheVariants.{InvalidStringData, InvalidBlockData, InvalidExpression}
use Rattle.sw_base.specs.declared.error.ScpiError.TheVariants.{TriggerIgnored, ArmIgnored, InitIgnored}
use Rattle.sw_base.specs.declared.error.ScpiError.TheVariants.{SettingsConflict, DataOutOfRange, TooMuchData}
use Rattle.sw_base.specs.declared.error.ScpiError.TheVariants.{IllegalParameterValue, OutOfMemory, DataCorruptOrStale}
use Rattle.sw_base.specs.declared.error.ScpiError.TheVariants.{HardwareError, HardwareMissing, IllegalMacroLabel}
use Rattle.sw_base.specs.declared.error.ScpiError.TheVariants.{MacroParameterError, MacroDefinitionTooLong}
use Rattle.sw_base.specs.declared.error.ScpiError.TheVariants.{MacroRecursionError, MacroRedefinitionNotAllowed}
use Rattle.sw_base.specs.declared.error.ScpiError.TheVariants.{MacroHeaderNotFound, SystemError, QueueOverflow}
use Rattle.sw_base.specs.declared.error.ScpiError.TheVariants.{ProgramSyntaxError}
use Rattle.sw_base.specs.declared.error.ScpiError.TheVariants.{InputBufferOverrun, QueryInterrupted}

-- the number without its sign
abbrev pub number_of : ScpiError → ℕ
number_of InvalidCharacter = 101
number_of SyntaxError = 102
number_of InvalidSeparator = 103
number_of DataTypeError = 104
number_of GetNotAllowed = 105
number_of ParameterNotAllowed = 108
number_of MissingParameter = 109
number_of UndefinedHeader = 113
number_of HeaderSuffixOutOfRange = 114
number_of InvalidCharacterInNumber = 121
number_of ExponentTooLarge = 123
number_of TooManyDigits = 124
number_of InvalidSuffix = 131
number_of SuffixNotAllowed = 138
number_of InvalidCharacterData = 141
number_of InvalidStringData = 151
number_of InvalidBlockData = 161
number_of InvalidExpression = 171
number_of TriggerIgnored = 211
number_of ArmIgnored = 212
number_of InitIgnored = 213
number_of SettingsConflict = 221
number_of DataOutOfRange = 222
number_of TooMuchData = 223
number_of IllegalParameterValue = 224
number_of OutOfMemory = 225
number_of DataCorruptOrStale = 230
number_of HardwareError = 240
number_of HardwareMissing = 241
number_of IllegalMacroLabel = 273
number_of MacroParameterError = 274
number_of MacroDefinitionTooLong = 275
number_of MacroRecursionError = 276
number_of MacroRedefinitionNotAllowed = 277
number_of MacroHeaderNotFound = 278
number_of ProgramSyntaxError = 285
number_of SystemError = 310
number_of QueueOverflow = 350
number_of InputBufferOverrun = 363
number_of QueryInterrupted = 410

abbrev pub text_of : ScpiError → List ℕ
text_of InvalidCharacter = codes "Invalid character"
text_of SyntaxError = codes "Syntax error"
text_of InvalidSeparator = codes "Invalid separator"
text_of DataTypeError = codes "Data type error"
text_of GetNotAllowed = codes "GET not allowed"
text_of ParameterNotAllowed = codes "Parameter not allowed"
text_of MissingParameter = codes "Missing parameter"
text_of UndefinedHeader = codes "Undefined header"
text_of HeaderSuffixOutOfRange = codes "Header suffix out of range"
text_of InvalidCharacterInNumber = codes "Invalid character in number"
text_of ExponentTooLarge = codes "Exponent too large"
text_of TooManyDigits = codes "Too many digits"
text_of InvalidSuffix = codes "Invalid suffix"
text_of SuffixNotAllowed = codes "Suffix not allowed"
text_of InvalidCharacterData = codes "Invalid character data"
text_of InvalidStringData = codes "Invalid string data"
text_of InvalidBlockData = codes "Invalid block data"
text_of InvalidExpression = codes "Invalid expression"
text_of TriggerIgnored = codes "Trigger ignored"
text_of ArmIgnored = codes "Arm ignored"
text_of InitIgnored = codes "Init ignored"
text_of SettingsConflict = codes "Settings conflict"
text_of DataOutOfRange = codes "Data out of range"
text_of TooMuchData = codes "Too much data"
text_of IllegalParameterValue = codes "Illegal parameter value"
text_of OutOfMemory = codes "Out of memory"
text_of DataCorruptOrStale = codes "Data corrupt or stale"
text_of HardwareError = codes "Hardware error"
text_of HardwareMissing = codes "Hardware missing"
text_of IllegalMacroLabel = codes "Illegal macro label"
text_of MacroParameterError = codes "Macro parameter error"
text_of MacroDefinitionTooLong = codes "Macro definition too long"
text_of MacroRecursionError = codes "Macro recursion error"
text_of MacroRedefinitionNotAllowed = codes "Macro redefinition not allowed"
text_of MacroHeaderNotFound = codes "Macro header not found"
text_of ProgramSyntaxError = codes "Program syntax error"
text_of SystemError = codes "System error"
text_of QueueOverflow = codes "Queue overflow"
text_of InputBufferOverrun = codes "Input buffer overrun"
text_of QueryInterrupted = codes "Query INTERRUPTED"

-- the number, which is below 0
abbrev pub code_of : ScpiError → ℤ
code_of e = negsuc (number_of e - 1)

-- -1xx is a command error, -2xx an execution error, -3xx a device error, -4xx a query error
abbrev pub class_bit : ℕ → ℕ
class_bit n = if nat_lt n 200 then 5 else (if nat_lt n 300 then 4 else (if nat_lt n 400 then 3 else 2))

-- the bit of the standard event status register
abbrev pub event_bit_of : ScpiError → ℕ
event_bit_of e = class_bit (number_of e)
