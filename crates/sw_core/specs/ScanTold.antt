-- The answer to DIAGnostic:SCAN:CHECk? is true.
use Rattle.std.specs.Prelude.{◌≡◌, ℕ, List, [], ◌++◌, None, codes}
use Rattle.sw_verify.specs.declared.refusal.Refusal.{Refusal}
use Rattle.sw_verify.specs.Check.{IsReadyBySettings, IsFirst}
use Rattle.sw_verify.specs.Setup.{running}
use Rattle.sw_core.specs.Panel.{Panel}
use Rattle.sw_core.specs.Checking.{quoted}
use Rattle.sw_core.specs.ScanChecking.{accepted_text, refused_text, scan_check_text}
use Rattle.sw_core.specs.Good.{IsGoodPanel}
use Rattle.sw_core.specs.Step.{MayScan, snapshot_of}

-- On a good mainframe with no program on, it begins with `ok` exactly where the mainframe takes INITiate, unless memory
-- runs out: no scan runs, the meter is in, a number is left, and what the scan would begin from passes the check. It
-- names a refusal exactly where a scan may begin but for that refusal, the first that applies. Where a program is on it
-- does neither.
pub record ScanIsTold : Type 0 where
  pub allowed : (p : Panel) (words : List ℕ) → IsGoodPanel p → scan_check_text p ≡ quoted (codes "ok" ++ words) []
      → MayScan p × IsReadyBySettings (snapshot_of p)
  pub all : (p : Panel) → IsGoodPanel p → running p.settings.program ≡ None → MayScan p
      → IsReadyBySettings (snapshot_of p) → scan_check_text p ≡ accepted_text p.settings.scan
  pub named : (p : Panel) (r : Refusal) (words : List ℕ) → IsGoodPanel p → scan_check_text p ≡ refused_text r words
      → MayScan p × IsFirst r (snapshot_of p)
  pub refused : (p : Panel) (r : Refusal) → IsGoodPanel p → running p.settings.program ≡ None → MayScan p
      → IsFirst r (snapshot_of p) → (words : List ℕ) × (scan_check_text p ≡ refused_text r words)
