-- Work is done in the order in which it came, and kept where there is room.
use Rattle.std.proofs.Common.{◌≡◌, suc, ◌<◌, List, [], ◌∷◌, ◌++◌, length, Option, None, Some, refl, sym, ap, ◌∙◌, arith}
use Rattle.std.proofs.lemmas.List.{append_assoc, append-nil}
use Rattle.sw_core.specs.Seen.{WorkSeen}
use Rattle.sw_talk.specs.declared.desk.Wake.TheVariants.{Again, Over}
use Rattle.sw_talk.specs.Trace.{Entry, Asked, Waited, Polled, Noted}
use Rattle.sw_talk.specs.Available.{seated}
use Rattle.sw_talk.specs.CoreDesk.{DeskSeen, Carried, Keeps, PassesBy, brought}
use Rattle.sw_talk.specs.Order.{pieces_of, brought_by, came_in, done_at_once, at_once_in, done_in, HasRoomForPiece, WorkIsDoneInOrder}
use Rattle.sw_talk.specs.Order.{WorkIsKeptWhereThereIsRoom}

keeps-order : (carried : List Carried) (d : DeskSeen) (brings : Option WorkSeen) (new : DeskSeen) (k : Keeps carried d brings new)
    → d.work ++ (pieces_of brings ++ brought_by carried) ≡ done_at_once carried d brings new k ++ new.work
keeps-order [] d None new k = append-nil d.work ∙ ap (λ (x : DeskSeen). x.work) (sym k)
keeps-order [] d (Some piece) new k = ap (λ (x : DeskSeen). x.work) (sym k.leaves)
keeps-order (c ∷ carried) d None new k = absurd k
keeps-order (c ∷ carried) d (Some piece) new (mid, off, k) =
    let more : List WorkSeen = pieces_of (brought c.answer) ++ brought_by carried in
    let left : mid.work ≡ off.others = ap (λ (x : DeskSeen). x.work) off.leaves in
    sym (append_assoc d.work (piece ∷ []) more)
    ∙ ap (λ (l : List WorkSeen). l ++ more) off.oldest
    ∙ ap (λ (l : List WorkSeen). off.piece ∷ (l ++ more)) (sym left)
    ∙ ap (λ (l : List WorkSeen). off.piece ∷ l) (keeps-order carried mid (brought c.answer) new k)

passes-order : (carried : List Carried) (old : DeskSeen) (entry : Entry) (new : DeskSeen) (p : PassesBy carried old entry new)
    → old.work ++ came_in carried old entry new p ≡ done_in carried old entry new p ++ new.work
passes-order carried old (Asked ask answer) new p = keeps-order carried (record old { panel = p.after; available = seated old.available ask answer }) p.brings
    new p.keeps
passes-order [] old (Waited limit (Again rest)) new p = absurd p
passes-order (c ∷ carried) old (Waited limit (Again rest)) new (is, w) =
    let more : List WorkSeen = pieces_of (brought c.answer) ++ brought_by carried in
    ap (λ (l : List WorkSeen). l ++ more) w.oldest
    ∙ ap (λ (l : List WorkSeen). w.piece ∷ l) (keeps-order carried (record old { panel = c.after; work = w.others }) (brought c.answer) new w.keeps)
passes-order [] old (Waited limit Over) new p = append-nil old.work ∙ ap (λ (x : DeskSeen). x.work) (sym p.1)
passes-order (c ∷ carried) old (Waited limit Over) new p = absurd p
passes-order [] old (Polled sid view) new p = append-nil old.work ∙ ap (λ (x : DeskSeen). x.work) (sym p.1)
passes-order (c ∷ carried) old (Polled sid view) new p = absurd p
passes-order [] old (Noted sid mav) new p = append-nil old.work ∙ ap (λ (x : DeskSeen). x.work) (sym p)
passes-order (c ∷ carried) old (Noted sid mav) new p = absurd p

pub done-in-order : WorkIsDoneInOrder
done-in-order old new entry p = passes-order p.0 old entry new p.1

-- where there is room, nothing is carried out at once
keeps-all : (carried : List Carried) (d : DeskSeen) (brings : Option WorkSeen) (new : DeskSeen) (k : Keeps carried d brings new) → length d.work < d.room
    → done_at_once carried d brings new k ≡ []
keeps-all [] d brings new k room = refl
keeps-all (c ∷ carried) d None new k room = refl
keeps-all (c ∷ carried) d (Some piece) new (mid, off, k) room = absurd (omega (arith, off.full, room))

passes-keeping : (carried : List Carried) (old : DeskSeen) (entry : Entry) (new : DeskSeen) (p : PassesBy carried old entry new) → HasRoomForPiece entry old
    → at_once_in carried old entry new p ≡ []
passes-keeping carried old (Asked ask answer) new p room = keeps-all carried (record old { panel = p.after; available = seated old.available ask answer })
    p.brings new p.keeps room
passes-keeping [] old (Waited limit (Again rest)) new p room = refl
passes-keeping (c ∷ carried) old (Waited limit (Again rest)) new (is, w) room =
    let many : length old.work ≡ suc (length w.others) = ap length w.oldest in
    keeps-all carried (record old { panel = c.after; work = w.others }) (brought c.answer) new w.keeps (omega (arith, many, room))
passes-keeping [] old (Waited limit Over) new p room = refl
passes-keeping (c ∷ carried) old (Waited limit Over) new p room = absurd p
passes-keeping carried old (Polled sid view) new p room = refl
passes-keeping carried old (Noted sid mav) new p room = refl

pub kept-where-room : WorkIsKeptWhereThereIsRoom
kept-where-room old new entry p room = passes-keeping p.0 old entry new p.1 room
