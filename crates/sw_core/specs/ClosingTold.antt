-- The answer to DIAGnostic:CLOSe:CHECk? is true.
use Rattle.std.specs.Prelude.{◌≡◌, false, List, [], codes}
use Rattle.sw_base.specs.Layout.{Channel}
use Rattle.sw_core.specs.Panel.{Panel, is_running}
use Rattle.sw_core.specs.Checking.{quoted, check_text}
use Rattle.sw_core.specs.Good.{IsGoodPanel}
use Rattle.sw_core.specs.Step.{MayClose}

-- On a good mainframe it is `ok` exactly where nothing refuses ROUTe:CLOSe of the same channels: no scan runs, the cage
-- has each of them, and no two channels that would then be closed clash.
pub record ClosingIsTold : Type 0 where
  pub allowed : (p : Panel) (chans : List Channel) → IsGoodPanel p → check_text chans p ≡ quoted (codes "ok") []
      → (is_running p ≡ false) × MayClose p chans
  pub all : (p : Panel) (chans : List Channel) → IsGoodPanel p → is_running p ≡ false → MayClose p chans
      → check_text chans p ≡ quoted (codes "ok") []
