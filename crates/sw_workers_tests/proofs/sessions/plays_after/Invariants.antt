use Rattle.sw_workers_tests.proofs.sessions.plays_after.Given as goal

abbrev pub ghosts-play_behind-H-Recording : goal.ghosts-play_behind-H-Recording
ghosts-play_behind-H-Recording g a = record { first = a.opening.core.seen }

abbrev pub ghosts-play_behind-H-BoardName : goal.ghosts-play_behind-H-BoardName
ghosts-play_behind-H-BoardName g a = record { table = a.opening.board.table.shared.table_id; opening = a.opening.board.table.shared.key }

abbrev pub ghosts-play_behind-H-Ledger : goal.ghosts-play_behind-H-Ledger
ghosts-play_behind-H-Ledger g a = record { name = a.opening.blank.name; parts = a.opening.blank.parts }
