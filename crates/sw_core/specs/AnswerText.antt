-- The text of a query's answer.
use Rattle.std.specs.Prelude.{List, ℕ, decimal, map}
use Rattle.std.specs.List.{join_with_byte}
use Rattle.sw_base.specs.Reading.{fixed, reading_text}
use Rattle.sw_core.specs.Answers.{entry_told}
use Rattle.sw_core.specs.declared.answer_text.AnswerForm.{AnswerForm}
use Rattle.sw_core.specs.declared.answer_text.AnswerForm.TheVariants.{Bytes, Number, Seconds, Fixed, Entry, Readings}

-- the bytes, the decimal digits of the number (IEEE 488.2, 8.7.2: NR1), the seconds with their decimals (8.7.3: NR2),
-- the text that is always the same, the text of an entry of the error queue, or readings with commas between them
abbrev pub form_text : AnswerForm → List ℕ
form_text (Bytes text) = text
form_text (Number n) = decimal n
form_text (Seconds micros) = fixed 6 micros
form_text (Fixed text) = text.now
form_text (Entry error) = entry_told error
form_text (Readings readings) = join_with_byte 44 (map reading_text readings)
