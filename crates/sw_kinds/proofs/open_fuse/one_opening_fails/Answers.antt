use Rattle.sw_kinds.specs.FuseRuns.{MakesCall, is_opening, HasFailed}
use Rattle.sw_kinds.proofs.FuseRuns.{numbered, only_numbered, openings_by, open_fuse_switches, fuse_cuts}
use Rattle.sw_kinds.proofs.open_fuse.one_opening_fails.Goals as goal

pub returns-clause-numbered : goal.returns-clause-numbered
returns-clause-numbered g c behind number before after m end runs =
    let d = g.D.Driver in
    let through = MakesCall (open_fuse_switches d.drives) (fuse_cuts d.cuts) in
    numbered is_opening HasFailed through (MakesCall d.drives d.cuts) (openings_by d.drives d.cuts) (behind, number) end before after m runs

pub returns-clause-exactly : goal.returns-clause-exactly
returns-clause-exactly g c never behind number before after m end runs =
    let d = g.D.Driver in
    let does = MakesCall d.drives d.cuts in
    let through = MakesCall (open_fuse_switches d.drives) (fuse_cuts d.cuts) in
    let h = numbered is_opening HasFailed through does (openings_by d.drives d.cuts) (behind, number) end before after m runs in
    (only_numbered is_opening HasFailed does never number before m h, h.fails)
