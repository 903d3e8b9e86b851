-- Traces joined.
use Rattle.std.proofs.Common.{List, [], ◌∷◌, ◌++◌, refl, sym, subst, append_assoc}
use Rattle.sw_talk.specs.Trace.{Entry, Leads, Led}

pub leads-append : {D : Type 0} (passes : D → Entry → D → Type 0) (old mid new : D) (s t : List Entry) → Leads passes old s mid → Leads passes mid t new
    → Leads passes old (s ++ t) new
leads-append passes old mid new [] t p q = subst (λ (d : _). Leads passes d t new) p q
leads-append passes old mid new (e ∷ s) t p q = (p.0, p.1, leads-append passes p.0 mid new s t p.2 q)

-- nothing passed
pub led-none : {D : Type 0} (passes : D → Entry → D → Type 0) (d : D) (P : List Entry → List Entry → Type 0) → ((rest : List Entry) → P rest rest)
    → Led passes d d P
led-none passes d P h = record { trace = []; leads = refl; admits = h }

-- one entry passed
pub led-one : {D : Type 0} (passes : D → Entry → D → Type 0) (old new : D) (P : List Entry → List Entry → Type 0) (e : Entry) → passes old e new
    → ((rest : List Entry) → P (e ∷ rest) rest) → Led passes old new P
led-one passes old new P e p h = record { trace = e ∷ []; leads = (new, p, refl); admits = h }

-- what passed is also this
pub led-so : {D : Type 0} (passes : D → Entry → D → Type 0) (old new : D) (P R : List Entry → List Entry → Type 0) → Led passes old new P
    → ((t rest : List Entry) → P t rest → R t rest) → Led passes old new R
led-so passes old new P R p h = record { trace = p.trace; leads = p.leads; admits = λ rest. h _ rest (p.admits rest) }

-- one passage after another
pub led-then : {D : Type 0} (passes : D → Entry → D → Type 0) (old mid new : D) (P Q R : List Entry → List Entry → Type 0)
    → Led passes old mid P → Led passes mid new Q → ((t u rest : List Entry) → P t u → Q u rest → R t rest) → Led passes old new R
led-then passes old mid new P Q R p q h = record {
  trace = p.trace ++ q.trace;
  leads = leads-append passes old mid new p.trace q.trace p.leads q.leads;
  admits = λ rest. subst (λ (t : List Entry). R t rest) (sym (append_assoc p.trace q.trace rest)) (h _ (q.trace
      ++ rest) rest (p.admits (q.trace ++ rest)) (q.admits rest));
}

-- more entries passed
pub led-more : {D : Type 0} (passes : D → Entry → D → Type 0) (old mid new : D) (P R : List Entry → List Entry → Type 0) (more : List Entry)
    → Led passes old mid P → Leads passes mid more new → ((t rest : List Entry) → P t (more ++ rest) → R t rest) → Led passes old new R
led-more passes old mid new P R more p q h = record {
  trace = p.trace ++ more;
  leads = leads-append passes old mid new p.trace more p.leads q;
  admits = λ rest. subst (λ (t : List Entry). R t rest) (sym (append_assoc p.trace more rest)) (h _ rest (p.admits (more ++ rest)));
}
