use Rattle.std.specs.Prelude.{List, Ok, Err}
use Rattle.sw_channel.specs.Reading.{channel_list}
use Rattle.sw_base.specs.Layout.{Channel}
use Rattle.sw_channel.proofs.Judging.{one_reading, refused_by, channels_settled}
use Rattle.sw_channel.proofs.read.one_reading.Goals as goal

pub returns-clause-one : goal.returns-clause-one
returns-clause-one c = one_reading

pub returns-clause-refused : goal.returns-clause-refused
returns-clause-refused c text e (Ok cs) f h = refused_by channel_list channels_settled (λ (x : List Channel). x) (Ok cs) text h e f
returns-clause-refused c text e (Err d) f h = refused_by channel_list channels_settled (λ (x : List Channel). x) (Err d) text h e f
