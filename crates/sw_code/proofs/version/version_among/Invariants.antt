use Rattle.std.proofs.Common.{◌≡◌, drop}
use Rattle.sw_code.specs.Versions.{version_among}
use Rattle.sw_code.proofs.version.version_among.Given as goal

abbrev pub invariant-loop-version : goal.invariant-loop-version
invariant-loop-version l = version_among (drop l.version-index l.versions) l.line ≡ version_among l.versions l.line
