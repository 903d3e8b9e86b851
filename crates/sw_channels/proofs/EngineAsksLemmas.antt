-- What an engine asks, one after another.
use Rattle.std.proofs.Common.{List, [], ◌∷◌, ◌++◌, refl}
use Rattle.sw_talk.specs.Trace.{Entry, Leads}
use Rattle.sw_channels.specs.EngineStep.{LedBy}
use Rattle.sw_talk.proofs.LedLemmas.{leads-append}

-- one call
pub by-one : {D : Type 0} (passes : D → Entry → D → Type 0) (old new : D) (P : List Entry → Type 0) (e : Entry) → passes old e new → P (e ∷ [])
    → LedBy passes old new P
by-one passes old new P e p h = record { asked = e ∷ []; leads = (new, p, refl); admits = h }

-- two calls
pub by-two : {D : Type 0} (passes : D → Entry → D → Type 0) (old mid new : D) (P : List Entry → Type 0) (e f : Entry) → passes old e mid → passes mid f new
    → P (e ∷ f ∷ []) → LedBy passes old new P
by-two passes old mid new P e f p q h = record { asked = e ∷ f ∷ []; leads = (mid, p, (new, q, refl)); admits = h }

-- more calls follow
pub by-more : {D : Type 0} (passes : D → Entry → D → Type 0) (old mid new : D) (P Q : List Entry → Type 0) (more : List Entry) → LedBy passes old mid P
    → Leads passes mid more new → ((asked : List Entry) → P asked → Q (asked ++ more)) → LedBy passes old new Q
by-more passes old mid new P Q more p l h =
    record { asked = p.asked ++ more; leads = leads-append passes old mid new p.asked more p.leads l; admits = h p.asked p.admits }

-- what is admitted is also this
pub by-so : {D : Type 0} (passes : D → Entry → D → Type 0) (old new : D) (P Q : List Entry → Type 0) → LedBy passes old new P
    → ((asked : List Entry) → P asked → Q asked) → LedBy passes old new Q
by-so passes old new P Q p h = record { asked = p.asked; leads = p.leads; admits = h p.asked p.admits }
