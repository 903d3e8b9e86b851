use Rattle.sw_drivers.proofs.Places.{same_rtu, same_tcp}
use Rattle.sw_drivers.proofs.laws.no_frame_reads_two_ways.Goals as goal

pub returns-clause-tcp : goal.returns-clause-tcp
returns-clause-tcp c = same_tcp

pub returns-clause-rtu : goal.returns-clause-rtu
returns-clause-rtu c = same_rtu
