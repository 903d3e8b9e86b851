use Rattle.sw_workers_tests.proofs.lasting.goes_unaided.Given as goal

abbrev pub ghosts-goes_alone-H-Recording : goal.ghosts-goes_alone-H-Recording
ghosts-goes_alone-H-Recording g a = record { first = a.opening.core.seen }

abbrev pub ghosts-goes_alone-H-BoardName : goal.ghosts-goes_alone-H-BoardName
ghosts-goes_alone-H-BoardName g a = record { table = a.opening.board.table.shared.table_id; opening = a.opening.board.table.shared.key }

abbrev pub ghosts-goes_alone-H-Ledger : goal.ghosts-goes_alone-H-Ledger
ghosts-goes_alone-H-Ledger g a = record { name = a.opening.blank.name; parts = a.opening.blank.parts }
