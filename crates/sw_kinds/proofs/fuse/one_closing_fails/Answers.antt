use Rattle.sw_kinds.specs.FuseRuns.{MakesCall, is_closing, HasFailed}
use Rattle.sw_kinds.proofs.FuseRuns.{numbered, only_numbered, closings_by, fuse_switches, fuse_cuts}
use Rattle.sw_kinds.proofs.fuse.one_closing_fails.Goals as goal

pub returns-clause-numbered : goal.returns-clause-numbered
returns-clause-numbered g c behind number before after m end runs =
    let d = g.D.Driver in
    let through = MakesCall (fuse_switches d.drives d.driven) (fuse_cuts d.cuts) in
    numbered is_closing HasFailed through (MakesCall d.drives d.cuts) (closings_by d.drives d.cuts d.driven) (behind, number) end before after m runs

pub returns-clause-exactly : goal.returns-clause-exactly
returns-clause-exactly g c never behind number before after m end runs =
    let d = g.D.Driver in
    let does = MakesCall d.drives d.cuts in
    let through = MakesCall (fuse_switches d.drives d.driven) (fuse_cuts d.cuts) in
    let h = numbered is_closing HasFailed through does (closings_by d.drives d.cuts d.driven) (behind, number) end before after m runs in
    (only_numbered is_closing HasFailed does never number before m h, h.fails)
