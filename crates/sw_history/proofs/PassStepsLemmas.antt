-- What the pass and a desk's seat know once the desk rode with the pass, had one more entry, and landed.
use Rattle.std.proofs.Common.{◌≡◌, ◌++◌, ◌∷◌, [], List, Some, ap, ◌∙◌, ℕ}
use Rattle.std.specs.Option.{unwrap_or}
use Rattle.atomic_table.specs.Table.{Me}
use Rattle.sw_history.specs.Entries.{HistoryEntry, made_by}
use Rattle.sw_history.specs.Board.{Known, Said, Nothing, published, entry_of, desk_taken_over, without_desk, of_desk}
use Rattle.sw_history.proofs.EntriesLemmas.{made_by-own}

abbrev pub written : Known → Known → Said → Known
written v w said = published (desk_taken_over v w) said

pub put_on : (said : Said) (v w : Known) (p q r : Me Nothing Known) → q ≡ (desk_taken_over v w, p.1) → r ≡ (published q.0 said, q.1)
    → r ≡ (written v w said, p.1)
put_on said v w p q r ride put = put ∙ ap (λ (m : Me Nothing Known). (published m.0 said, m.1)) ride

pub pass_after : (x : Known) (p r s : Me Nothing Known) → r ≡ (x, p.1) → s ≡ (without_desk r.0, r.1) → s ≡ (without_desk x, p.1)
pass_after x p r s put land = land ∙ ap (λ (m : Me Nothing Known). (without_desk m.0, m.1)) put

pub desk_after : (x : Known) (p r d s : Me Nothing Known) → r ≡ (x, p.1) → s ≡ (of_desk r.0, d.1) → s ≡ (of_desk x, d.1)
desk_after x p r d s put land = land ∙ ap (λ (m : Me Nothing Known). (of_desk m.0, d.1)) put

-- of the desk there are then its entries and this one
pub own_after : (said : Said) (v w : Known) (d : ℕ) → w.desk ≡ Some d → made_by d v.seen ≡ w.mine
    → made_by d (written v w said).seen ≡ (written v w said).mine
own_after said v w d is own =
    let e = entry_of w said in
    made_by-own d v.seen e (ap (λ o. unwrap_or o 0) is) ∙ ap (λ (xs : List HistoryEntry). xs ++ e ∷ []) own
