use Rattle.std.proofs.Common.{◌≡◌, ◌∙◌, sym, ap, subst, decimal, map, List, ℕ}
use Rattle.std.specs.List.{join_with_byte}
use Rattle.std.specs.Prelude.{OnOk}
use Rattle.sw_base.specs.Reading.{fixed, reading_text}
use Rattle.sw_core.specs.AnswerText.{form_text}
use Rattle.sw_core.specs.Answers.{entry_told}
use Rattle.sw_talk.specs.Talk.{JoinsLine}
use Rattle.sw_talk.proofs.line.join.Goals as goal

pub returns-in-Number-clause-ok : goal.returns-in-Number-clause-ok
returns-in-Number-clause-ok c =
    let is : decimal c.in-Number.n ≡ c.args.text = sym (ap form_text c.in-Number.is) ∙ c.into_form.ensures in
    subst (λ (t : List ℕ). OnOk c.join_number.result (JoinsLine c.args.out.now.items t c.join_number.new.out.items)) is c.join_number.ensures.ok

pub returns-in-Seconds-clause-ok : goal.returns-in-Seconds-clause-ok
returns-in-Seconds-clause-ok c =
    let is : fixed 6 c.in-Seconds.micros ≡ c.args.text = sym (ap form_text c.in-Seconds.is) ∙ c.into_form.ensures in
    subst (λ (t : List ℕ). OnOk c.join_seconds.result (JoinsLine c.args.out.now.items t c.join_seconds.new.out.items)) is c.join_seconds.ensures.ok

pub returns-in-Fixed-clause-ok : goal.returns-in-Fixed-clause-ok
returns-in-Fixed-clause-ok c =
    let is : c.in-Fixed.text.now ≡ c.args.text = sym (ap form_text c.in-Fixed.is) ∙ c.into_form.ensures in
    subst (λ (t : List ℕ). OnOk c.add.result (JoinsLine c.args.out.now.items t c.add.new.out.items)) is c.add.ensures.ok

pub returns-in-Entry-clause-ok : goal.returns-in-Entry-clause-ok
returns-in-Entry-clause-ok c =
    let is : entry_told c.in-Entry.error ≡ c.args.text = sym (ap form_text c.in-Entry.is) ∙ c.into_form.ensures in
    subst (λ (t : List ℕ). OnOk c.join_entry.result (JoinsLine c.args.out.now.items t c.join_entry.new.out.items)) is c.join_entry.ensures.ok

pub returns-in-Bytes-clause-ok : goal.returns-in-Bytes-clause-ok
returns-in-Bytes-clause-ok c =
    let is : c.in-Bytes.text ≡ c.args.text = sym (ap form_text c.in-Bytes.is) ∙ c.into_form.ensures in
    subst (λ (t : List ℕ). OnOk c.join_bytes.result (JoinsLine c.args.out.now.items t c.join_bytes.new.out.items)) is c.join_bytes.ensures.ok

pub returns-in-Readings-clause-ok : goal.returns-in-Readings-clause-ok
returns-in-Readings-clause-ok c =
    let is : join_with_byte 44 (map reading_text c.in-Readings.readings) ≡ c.args.text = sym (ap form_text c.in-Readings.is) ∙ c.into_form.ensures in
    subst (λ (t : List ℕ). OnOk c.join_readings.result (JoinsLine c.args.out.now.items t c.join_readings.new.out.items)) is c.join_readings.ensures.ok
