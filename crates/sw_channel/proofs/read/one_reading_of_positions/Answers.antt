use Rattle.std.specs.Prelude.{List, Ok, Err}
use Rattle.sw_channel.specs.Reading.{position_list}
use Rattle.sw_channel.specs.Positions.{Position}
use Rattle.sw_channel.proofs.Judging.{one_position_reading, refused_by, positions_settled}
use Rattle.sw_channel.proofs.read.one_reading_of_positions.Goals as goal

pub returns-clause-one : goal.returns-clause-one
returns-clause-one c = one_position_reading

pub returns-clause-refused : goal.returns-clause-refused
returns-clause-refused c text e (Ok cs) f h = refused_by position_list positions_settled (λ (x : List Position). x) (Ok cs) text h e f
returns-clause-refused c text e (Err d) f h = refused_by position_list positions_settled (λ (x : List Position). x) (Err d) text h e f
