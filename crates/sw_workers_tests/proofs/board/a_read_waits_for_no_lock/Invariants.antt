use Rattle.sw_workers_tests.proofs.board.a_read_waits_for_no_lock.Given as goal

abbrev pub ghosts-under_the_lock : goal.ghosts-under_the_lock
ghosts-under_the_lock g a = record { table = a.blank.table.shared.table_id; opening = a.blank.table.shared.key }
