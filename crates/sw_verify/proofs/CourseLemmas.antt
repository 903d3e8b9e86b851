-- The course of settings that pass the check.
use Rattle.std.proofs.Common.{◌≡◌, ◌<◌, length, sym, ap, ◌∙◌, subst, arith}
use Rattle.sw_trigger.specs.Settings.{SettingsSeen, IsInRange}
use Rattle.sw_trigger.specs.Counts.{reads}
use Rattle.sw_code.specs.Code.{Unfolds}
use Rattle.sw_code.specs.Compiled.{compiled}
use Rattle.sw_code.proofs.Unfolding.{unfolds_once}
use Rattle.sw_code.proofs.Compiled.{compiled_unfolds}
use Rattle.sw_code.proofs.Pacing.{compiled_paced}
use Rattle.sw_code.proofs.Fits.{compiled_fits}
use Rattle.sw_verify.specs.Judged.{Judged, HasCounts}
use Rattle.sw_verify.specs.Items.{items_of}
use Rattle.sw_verify.specs.Course.{CanRun}
use Rattle.sw_verify.proofs.ItemsLemmas.{compiled_items}
use Rattle.sw_verify.proofs.AgendaLemmas.{length-agenda}

pub compiled_runs : (s : SettingsSeen) → 0 < length s.list → IsInRange s → CanRun (compiled s)
compiled_runs s h i =
    let same = compiled_items s h in
    record {
      range = compiled_fits s h i;
      unfolds = subst (Unfolds (compiled s).steps) (sym same) (compiled_unfolds s h i);
      paced = compiled_paced s h i;
      few = omega (arith, length-agenda s h i, ap length same);
    }

-- the readings that were counted are those of the items
pub counted_reads : (v : Judged) → HasCounts v → CanRun v.code → v.readings ≡ reads (items_of v.code.steps)
counted_reads v k r = k.readings ∙ ap reads (unfolds_once v.code.steps k.items (items_of v.code.steps) k.unfolds r.unfolds)
