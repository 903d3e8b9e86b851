use Rattle.std.proofs.Common.{true}
use Rattle.std.specs.Prelude.{IsErr}
use Rattle.sw_kinds.proofs.FuseRuns.{numbered, only_numbered, readings_by, fuse_samples}
use Rattle.sw_kinds.proofs.source_fuse.one_reading_fails.Goals as goal

pub returns-clause-numbered : goal.returns-clause-numbered
returns-clause-numbered g c behind number before after m end runs =
    let samples = g.S.Source.samples in
    numbered (λ _. true) IsErr (fuse_samples samples) samples (readings_by samples) (behind, number) end before after m runs

pub returns-clause-exactly : goal.returns-clause-exactly
returns-clause-exactly g c never behind number before after m end runs =
    let samples = g.S.Source.samples in
    let h = numbered (λ _. true) IsErr (fuse_samples samples) samples (readings_by samples) (behind, number) end before after m runs in
    (only_numbered (λ _. true) IsErr samples never number before m h, h.fails)
