use Rattle.sw_workers_tests.proofs.closing.leaves.Given as goal

abbrev pub ghosts-closed_after-H-Recording : goal.ghosts-closed_after-H-Recording
ghosts-closed_after-H-Recording g a = record { first = a.opening.core.seen }

abbrev pub ghosts-closed_after-H-BoardName : goal.ghosts-closed_after-H-BoardName
ghosts-closed_after-H-BoardName g a = record { table = a.opening.board.table.shared.table_id; opening = a.opening.board.table.shared.key }

abbrev pub ghosts-closed_after-H-Ledger : goal.ghosts-closed_after-H-Ledger
ghosts-closed_after-H-Ledger g a = record { name = a.opening.blank.name; parts = a.opening.blank.parts }
