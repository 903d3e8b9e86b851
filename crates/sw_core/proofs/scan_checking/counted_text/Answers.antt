use Rattle.std.proofs.Common.{◌≡◌, ◌∙◌, ap, arith}
use Rattle.std.proofs.lemmas.Result.{IfOk-weaker}
use Rattle.sw_trigger.specs.Counts.{readings_of}
use Rattle.sw_verify.specs.declared.refusal.Refusal.TheVariants.{TooManyReadings}
use Rattle.sw_core.specs.ScanChecking.{refused_text, crowded_words}
use Rattle.sw_core.proofs.ScanCheckingLemmas.{crowded}
use Rattle.sw_core.proofs.scan_checking.counted_text.Goals as goal

pub returns-then-from-readings : goal.returns-then-from-readings
returns-then-from-readings c =
    let s = c.args.settings.now in
    let words : c.as_str.result.now ≡ crowded_words (readings_of s) s.points =
    cc (c.as_str.ensures.value, c.in_ok-words.ensures, c.readings-readings.ensures.readings, c.points-points.ensures.points) in
    IfOk-weaker c.refused_text.result _ _ (λ text told. told ∙ ap (refused_text TooManyReadings) words ∙ crowded s (omega arith)) c.refused_text.ensures
