use Rattle.sw_workers_tests.proofs.board.a_session_polls_what_its_event_left.Given as goal

abbrev pub ghosts-with_slot : goal.ghosts-with_slot
ghosts-with_slot g a = record { table = a.blank.table.shared.table_id; opening = a.blank.table.shared.key }
