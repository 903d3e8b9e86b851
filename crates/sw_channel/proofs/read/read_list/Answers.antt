use Rattle.sw_channel.proofs.Judging.{found_by, only_by, refused_by, judged_by, malformed_by, channels_settled}
use Rattle.sw_channel.specs.Reading.{channel_list}
use Rattle.std.proofs.Common.{refl, inl}
use Rattle.sw_channel.proofs.read.read_list.Goals as goal

pub returns-clause-found : goal.returns-clause-found
returns-clause-found c = found_by channel_list channels_settled _ _ _ c.read.ensures

pub returns-clause-only : goal.returns-clause-only
returns-clause-only c = only_by channel_list channels_settled _ _ _ c.read.ensures

pub returns-clause-refused : goal.returns-clause-refused
returns-clause-refused c = refused_by channel_list channels_settled _ _ _ c.read.ensures

pub returns-clause-judged : goal.returns-clause-judged
returns-clause-judged c = judged_by channel_list channels_settled _ _ _ c.read.ensures

pub returns-clause-malformed : goal.returns-clause-malformed
returns-clause-malformed c =
    (malformed_by channel_list channels_settled _ _ _ c.read.ensures, λ h. refused_by channel_list channels_settled _ _ _ c.read.ensures _ (inl (h, refl)))
