use Rattle.sw_workers_tests.proofs.seats.a_seat_tells_the_events_of_its_desk_while_the_mainframe_is_locked.Given as goal

abbrev pub ghosts-play-H-Recording : goal.ghosts-play-H-Recording
ghosts-play-H-Recording g a = record { first = a.opening.core.seen }

abbrev pub ghosts-play-H-BoardName : goal.ghosts-play-H-BoardName
ghosts-play-H-BoardName g a = record { table = a.opening.board.table.shared.table_id; opening = a.opening.board.table.shared.key }

abbrev pub ghosts-play-H-Ledger : goal.ghosts-play-H-Ledger
ghosts-play-H-Ledger g a = record { name = a.opening.blank.name; parts = a.opening.blank.parts }
