use Rattle.sw_serve.proofs.serving.serve_cards.Given as goal

abbrev pub ghosts-serve_over-H-Recording : goal.ghosts-serve_over-H-Recording
ghosts-serve_over-H-Recording g a = record { first = a.opening.core.seen }

abbrev pub ghosts-serve_over-H-BoardName : goal.ghosts-serve_over-H-BoardName
ghosts-serve_over-H-BoardName g a = record {
  table = a.opening.board.table.shared.table_id;
  opening = a.opening.board.table.shared.key;
}

abbrev pub ghosts-serve_over-H-Ledger : goal.ghosts-serve_over-H-Ledger
ghosts-serve_over-H-Ledger g a = record { name = a.opening.blank.name; parts = a.opening.blank.parts }
