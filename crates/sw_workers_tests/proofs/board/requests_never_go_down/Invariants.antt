use Rattle.sw_workers_tests.proofs.board.requests_never_go_down.Given as goal

abbrev pub ghosts-while_published : goal.ghosts-while_published
ghosts-while_published g a = record { table = a.blank.table.shared.table_id; opening = a.blank.table.shared.key }
