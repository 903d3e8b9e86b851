-- One line more that a board obeys.
use Rattle.std.proofs.Common.{◌≡◌, ℕ, ◌+◌, List, [], ◌∷◌, ◌++◌, map, sym, ap, ◌∙◌, arith}
use Rattle.std.proofs.lemmas.List.{map-append}
use Rattle.std.proofs.lemmas.List.FromFn.{map-range_with_len_more}
use Rattle.sw_drivers.specs.declared.line_board.Command.{Command}
use Rattle.sw_rack.specs.Templates.{rendered}
use Rattle.mainframe.specs.RackBoards.{Sent, command_seen, each_line, given}

pub line-more : (commands more : List Command) (c : Command) (n : ℕ) (template end ending word : List ℕ)
    → map command_seen commands ≡ each_line n template end ending word
    → command_seen c ≡ (given template (rendered (n + 1) template) ++ end, ending, word) → more ≡ commands ++ c ∷ []
    → map command_seen more ≡ each_line (n + 1) template end ending word
line-more commands more c n template end ending word so_far here e =
    let line : ℕ → Sent = λ ch. (given template (rendered ch template) ++ end, ending, word) in
    ap (map command_seen) e ∙ map-append command_seen commands (c ∷ [])
    ∙ ap (λ (l : List Sent). l ++ command_seen c ∷ []) so_far ∙ ap (λ (s : Sent). each_line n template end ending word ++ s ∷ []) here
    ∙ sym (map-range_with_len_more line 1 n (n + 1) (omega arith))
