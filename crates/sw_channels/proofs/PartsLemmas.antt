-- What is kept of a message that comes in parts.
use Rattle.std.proofs.Common.{◌≡◌, ℕ, zero, suc, ◌+◌, ◌-◌, ◌≤◌, ◌<◌, min, Bool, true, false, cond, leb, MatchBool, ◌⊎◌, inl, inr, List, [], ◌∷◌, ◌++◌}
use Rattle.std.proofs.Common.{◌↔◌, length, take, Some, refl, ap, sym, subst, ◌∙◌, arith, append-nil, append_assoc, take_all, length-take}
use Rattle.std.specs.List.{concat}
use Rattle.std.specs.Io.BufRead.{strip_last, ends_with_byte}
use Rattle.std.proofs.lemmas.Bool.{lt-ltb}
use Rattle.std.proofs.lemmas.Bool.Decides.{leb_tells}
use Rattle.std.proofs.lemmas.List.{take_min}
use Rattle.sw_base.specs.Limits.{most_bytes, most_kept}
use Rattle.sw_macro.specs.Table.{Table}
use Rattle.sw_core.specs.declared.ask.Sid.{Sid}
use Rattle.sw_channels.specs.declared.partial_message.PartialMessage.{PartialMessage}
use Rattle.sw_talk.specs.Trace.{Entry}
use Rattle.sw_talk.specs.Talk.{TalksMessage, TalksUnits, Overruns}
use Rattle.sw_channels.specs.EngineSync.{whole}
use Rattle.sw_channels.specs.Parts.{with_parts, IsSameMessage, PartsAreOneMessage}

-- a front of a front of the same length
take-twice : (k : ℕ) (xs : List ℕ) → take k (take k xs) ≡ take k xs
take-twice k xs = take_all k (take k xs) (omega (arith, length-take k xs))

-- what is kept with as much more as there is room for
pub kept-fits : (k : ℕ) (xs ys : List ℕ) (n : ℕ) → n ≡ min (length ys) (k - length xs) → take k (xs ++ take n ys) ≡ take k (xs ++ ys)
kept-fits zero xs ys n is = refl
kept-fits (suc k) [] ys n is =
    let all : n ≡ min (suc k) (length ys) = omega arith in
    ap (take (suc k)) (ap (λ m. take m ys) all ∙ take_min (suc k) ys) ∙ take-twice (suc k) ys
kept-fits (suc k) (x ∷ xs) ys n is = ap (λ l. x ∷ l) (kept-fits k xs ys n (omega arith))

-- more after what is kept is kept as after all of it
pub take-kept : (k : ℕ) (xs ys : List ℕ) → take k (take k xs ++ ys) ≡ take k (xs ++ ys)
take-kept zero xs ys = refl
take-kept (suc k) [] ys = refl
take-kept (suc k) (x ∷ xs) ys = ap (λ l. x ∷ l) (take-kept k xs ys)

-- what is kept once some bytes were and these parts came
parts-kept : (done : List ℕ) (parts : List (List ℕ))
    → with_parts (PartialMessage.Kept (take most_kept done)) parts ≡ PartialMessage.Kept (take most_kept (done ++ concat parts))
parts-kept done [] = ap (λ (l : List ℕ). PartialMessage.Kept (take most_kept l)) (sym (append-nil done))
parts-kept done (part ∷ parts) =
    ap (λ (l : List ℕ). with_parts (PartialMessage.Kept l) parts) (take-kept most_kept done part) ∙ parts-kept (done ++ part) parts
    ∙ ap (λ (l : List ℕ). PartialMessage.Kept (take most_kept l)) (append_assoc done part (concat parts))

-- the message is what is kept of all its bytes
pub whole-kept : (parts : List (List ℕ)) (last : List ℕ) → whole (with_parts PartialMessage.Nothing parts) last ≡ Some (take most_kept (concat parts ++ last))
whole-kept [] last = refl
whole-kept (part ∷ parts) last =
    ap (λ (f : PartialMessage). whole f last) (parts-kept part parts) ∙ ap (λ (l : List ℕ). Some l) (take-kept most_kept (part ++ concat parts) last)

-- a line feed makes no text short that has one byte more
strip-long : (text : List ℕ) → most_bytes + 1 < length text → most_bytes < length (strip_last 10 text)
strip-long text long = at (ends_with_byte 10 text)
  where
    at : (b : Bool) → most_bytes < length (cond b (take (length text - 1) text) text)
    at true = omega (arith, length-take (length text - 1) text)
    at false = omega arith

-- texts that are too long are dropped alike
long-alike : (sid : Sid) (macros macros' : Table) (trace : List Entry) (bytes text text' : List ℕ) (lasts : Bool) → most_bytes < length text → most_bytes < length text'
    → TalksMessage sid macros text trace bytes lasts macros' → TalksMessage sid macros text' trace bytes lasts macros'
long-alike sid macros macros' trace bytes text text' lasts long long' t =
    let Dropped : Type 0 = Overruns sid trace bytes lasts × (macros' ≡ macros) in
    subst (λ (b : Bool). MatchBool b Dropped (TalksUnits sid macros text' trace bytes lasts macros')) (sym (lt-ltb most_bytes (length text') long'))
    (subst (λ (b : Bool). MatchBool b Dropped (TalksUnits sid macros text trace bytes lasts macros')) (lt-ltb most_bytes (length text) long) t)

-- what is kept of a text is talked over as the text is
kept-alike : (text : List ℕ) → IsSameMessage (take most_kept text) text
kept-alike text sid macros macros' trace bytes lasts = at (leb_tells (length text) most_kept)
  where
    kept : List ℕ
    kept = take most_kept text

    at : ((leb (length text) most_kept ≡ true) × (length text ≤ most_kept)) ⊎ ((leb (length text) most_kept ≡ false) × (most_kept < length text))
        → TalksMessage sid macros (strip_last 10 kept) trace bytes lasts macros' ↔ TalksMessage sid macros (strip_last 10 text) trace bytes lasts macros'
    at (inl (e, short)) =
        let same : kept ≡ text = take_all most_kept text short in (
          λ t. subst (λ (l : List ℕ). TalksMessage sid macros (strip_last 10 l) trace bytes lasts macros') same t,
          λ t. subst (λ (l : List ℕ). TalksMessage sid macros (strip_last 10 l) trace bytes lasts macros') (sym same) t,
        )
    at (inr (e, long)) =
        let cut = strip-long kept (omega (arith, length-take most_kept text)) in
        let all = strip-long text (omega arith) in (
          λ t. long-alike sid macros macros' trace bytes (strip_last 10 kept) (strip_last 10 text) lasts cut all t,
          λ t. long-alike sid macros macros' trace bytes (strip_last 10 text) (strip_last 10 kept) lasts all cut t,
        )

pub parts-are-one : PartsAreOneMessage
parts-are-one parts last = (take most_kept (concat parts ++ last), whole-kept parts last, kept-alike (concat parts ++ last))
