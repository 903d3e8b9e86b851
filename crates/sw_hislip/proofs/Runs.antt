-- What a decoder tells over all its calls.
use Rattle.std.proofs.Common.{◌⊎◌}
use Rattle.std.proofs.Common.{◌≡◌, ℕ, ◌+◌, ◌<◌, ◌≤◌, List, [], ◌∷◌, ◌++◌, length, map, take, drop, refl, sym, ap, ap₂, ◌∙◌, append_assoc, append-nil}
use Rattle.std.proofs.Common.{length-append, arith, inl, inr, subst, flat_map, Ok, Err, Some, None, Result}
use Rattle.std.specs.List.{AllByRecursion}
use Rattle.std.proofs.lemmas.Bool.{cases_lt, lt-ltb, le-ltb}
use Rattle.std.proofs.lemmas.List.{map-append, take-append-drop, drop_all, length-take-le}
use Rattle.std.proofs.lemmas.List.Concat.{flat_map-append}
use Rattle.sw_hislip.specs.declared.fault.WireFault.TheVariants.{BadPrologue, TooLarge, NoMemory}
use Rattle.sw_hislip.specs.declared.header.Header.{Header}
use Rattle.sw_hislip.specs.declared.kind.Kind.{Kind}
use Rattle.sw_hislip.specs.declared.message.Message.{Message}
use Rattle.sw_hislip.specs.Wire.{header, wire, header_of, IsHeader, IsWireMessage}
use Rattle.sw_hislip.specs.Pending.{Pending, nothing_fed, fed, longest_payload, HasMessage, IsTooLarge, skipping}
use Rattle.sw_hislip.specs.Stream.{told_of, Call, feeds, answers, Decodes, stream_of, told, Follows, EveryMessageComesOut}
use Rattle.sw_hislip.proofs.Decoders.{message_of}

all_push : (ms : List Message) (m : Message) → AllByRecursion IsWireMessage ms → IsWireMessage m → AllByRecursion IsWireMessage (ms ++ m ∷ [])
all_push [] m a p = (p, tt)
all_push (n ∷ ms) m a p = (a.0, all_push ms m a.1 p)

-- these messages were told, and what follows them is pending
record IsBetween (bytes : List ℕ) (told : List (Result Message Kind)) (p : Pending) : Type 0 where
  messages : List Message
  each : AllByRecursion IsWireMessage messages
  whole : bytes ≡ flat_map wire messages ++ p.bytes
  told_is : told ≡ map told_of messages
  no_skip : p.skip ≡ 0

-- these messages were told, and one more that is too large, of which the payload is still coming
record IsInside (bytes : List ℕ) (told : List (Result Message Kind)) (p : Pending) : Type 0 where
  messages : List Message
  each : AllByRecursion IsWireMessage messages
  h : Header
  got : List ℕ
  whole : bytes ≡ flat_map wire messages ++ (header h ++ got)
  proper : IsHeader h
  large : longest_payload < h.length
  told_is : told ≡ map told_of messages ++ Err h.kind ∷ []
  missing : length got + p.skip ≡ h.length
  some : 0 < p.skip
  none_kept : p.bytes ≡ []

abbrev Stays : List ℕ → List (Result Message Kind) → Pending → Type 0
Stays bytes told p = IsBetween bytes told p ⊎ IsInside bytes told p

-- one more message
stream_push : (ms : List Message) (m : Message) (rest : List ℕ) → flat_map wire ms ++ (wire m ++ rest) ≡ flat_map wire (ms ++ m ∷ []) ++ rest
stream_push ms m rest =
    sym (append_assoc (flat_map wire ms) (wire m) rest)
    ∙ ap (λ (l : List ℕ). (flat_map wire ms ++ l) ++ rest) (sym (append-nil (wire m)))
    ∙ ap (λ (l : List ℕ). l ++ rest) (sym (flat_map-append wire ms (m ∷ [])))

told_taken : (m : Message) → length m.payload ≤ longest_payload → told_of m ≡ Ok m
told_taken m h = rw (le-ltb longest_payload (length m.payload) h) refl

told_skipped : (m : Message) → longest_payload < length m.payload → told_of m ≡ Err m.kind
told_skipped m h = rw (lt-ltb longest_payload (length m.payload) h) refl

told_push : (ms : List Message) (m : Message) (t : Result Message Kind) → told_of m ≡ t → map told_of ms ++ t ∷ [] ≡ map told_of (ms ++ m ∷ [])
told_push ms m t e = ap (λ (x : Result Message Kind). map told_of ms ++ x ∷ []) (sym e) ∙ sym (map-append told_of ms (m ∷ []))

-- a header and its whole payload are a message
whole_message : (h : Header) (payload : List ℕ) → IsHeader h → length payload ≡ h.length → IsWireMessage (message_of h payload)
whole_message h payload p e = record { kind = p.kind; control = p.control; parameter = p.parameter; length = rw e p.length }

whole_wire : (h : Header) (payload rest : List ℕ) → length payload ≡ h.length → header h ++ (payload ++ rest) ≡ wire (message_of h payload) ++ rest
whole_wire h payload rest e =
    ap (λ (n : ℕ). header (record { kind = h.kind; control = h.control; parameter = h.parameter; length = n }) ++ (payload ++ rest)) (sym e)
    ∙ sym (append_assoc (header (header_of (message_of h payload))) payload rest)

-- a large message whose payload came as a whole
large_stands : (bytes : List ℕ) (t : List (Result Message Kind)) (ms : List Message) (h : Header) (payload : List ℕ) (p : Pending)
    → AllByRecursion IsWireMessage ms
    → IsHeader h → length payload ≡ h.length → longest_payload < h.length → bytes ≡ flat_map wire ms ++ (header h ++ (payload ++ p.bytes))
    → t ≡ map told_of ms ++ Err h.kind ∷ [] → p.skip ≡ 0 → IsBetween bytes t p
large_stands bytes t ms h payload p each proper e large whole told_is none =
    let m = message_of h payload in
    record {
      messages = ms ++ m ∷ [];
      each = all_push ms m each (whole_message h payload proper e);
      whole = whole ∙ ap (λ (l : List ℕ). flat_map wire ms ++ l) (whole_wire h payload p.bytes e) ∙ stream_push ms m p.bytes;
      told_is = told_is ∙ told_push ms m (Err h.kind) (told_skipped m (rw e large));
      no_skip = none;
    }

-- a piece is fed
feed_standing : (bytes piece : List ℕ) (t : List (Result Message Kind)) (p : Pending) → IsBetween bytes t p → IsBetween (bytes ++ piece) t (fed p piece)
feed_standing bytes piece t p s =
    record {
      messages = s.messages;
      each = s.each;
      whole = ap (λ (l : List ℕ). l ++ piece) s.whole ∙ append_assoc (flat_map wire s.messages) p.bytes piece
          ∙ ap (λ (n : ℕ). flat_map wire s.messages ++ (p.bytes ++ drop n piece)) (sym s.no_skip);
      told_is = s.told_is;
      no_skip = omega (arith, s.no_skip);
    }

feed_skipping : (bytes piece : List ℕ) (t : List (Result Message Kind)) (p : Pending) → IsInside bytes t p → Stays (bytes ++ piece) t (fed p piece)
feed_skipping bytes piece t p s =
    let f = flat_map wire s.messages in
    let more : bytes ++ piece ≡ f ++ (header s.h ++ (s.got ++ piece)) =
    ap (λ (l : List ℕ). l ++ piece) s.whole ∙ append_assoc f (header s.h ++ s.got) piece
    ∙ ap (λ (l : List ℕ). f ++ l) (append_assoc (header s.h) s.got piece) in
    elim (cases_lt (length piece) p.skip) [
      | inl less ↦ inr (record {
        messages = s.messages;
        each = s.each;
        h = s.h;
        got = s.got ++ piece;
        whole = more;
        proper = s.proper;
        large = s.large;
        told_is = s.told_is;
        missing = rw length-append (omega (arith, less, s.missing));
        some = omega (arith, less);
        none_kept = ap₂ (λ (x y : List ℕ). x ++ y) s.none_kept (drop_all p.skip piece (omega (arith, less)));
      })
      | inr enough ↦
          let payload = s.got ++ take p.skip piece in
          let n : length payload ≡ s.h.length =
          length-append s.got (take p.skip piece) ∙ ap (λ (k : ℕ). length s.got + k) (length-take-le p.skip piece enough) ∙ s.missing in
          let rest : s.got ++ piece ≡ payload ++ (p.bytes ++ drop p.skip piece) =
          ap (λ (l : List ℕ). s.got ++ l) (sym (take-append-drop p.skip piece)) ∙ sym (append_assoc s.got (take p.skip piece) (drop p.skip piece))
          ∙ ap (λ (l : List ℕ). payload ++ (l ++ drop p.skip piece)) (sym s.none_kept) in
          inl (large_stands (bytes ++ piece) t s.messages s.h payload (fed p piece) s.each s.proper n s.large
          (more ∙ ap (λ (l : List ℕ). f ++ (header s.h ++ l)) rest) s.told_is (omega (arith, enough)))
    ]

feed_step : (bytes piece : List ℕ) (t : List (Result Message Kind)) (p : Pending) → Stays bytes t p → Stays (bytes ++ piece) t (fed p piece)
feed_step bytes piece t p (inl s) = inl (feed_standing bytes piece t p s)
feed_step bytes piece t p (inr s) = feed_skipping bytes piece t p s

-- nothing is there while a payload is skipped
none_there : (bytes : List ℕ) (h : Header) (more : List ℕ) → bytes ≡ [] → bytes ≡ header h ++ more → ⊥
none_there bytes h more none e =
    let n : 0 ≡ 16 + length more = ap length (sym none ∙ e) ∙ length-append (header h) more in
    absurd (omega (arith, n))

-- a message is given
give_step : (bytes : List ℕ) (t : List (Result Message Kind)) (p q : Pending) (m : Message) → Stays bytes t p → HasMessage p.bytes m q.bytes → q.skip ≡ p.skip
    → Stays bytes (t ++ Ok m ∷ []) q
give_step bytes t p q m (inl s) holds same = inl (record {
  messages = s.messages ++ m ∷ [];
  each = all_push s.messages m s.each holds.proper;
  whole = s.whole ∙ ap (λ (l : List ℕ). flat_map wire s.messages ++ l) holds.whole ∙ stream_push s.messages m q.bytes;
  told_is = ap (λ (l : List (Result Message Kind)). l ++ Ok m ∷ []) s.told_is ∙ told_push s.messages m (Ok m) (told_taken m holds.fits);
  no_skip = same ∙ s.no_skip;
})
give_step bytes t p q m (inr s) holds same =
    absurd (none_there p.bytes (header_of m) (m.payload ++ q.bytes) s.none_kept (holds.whole ∙ append_assoc (header (header_of m)) m.payload q.bytes))

-- a payload is too large
refuse_step : (bytes : List ℕ) (t : List (Result Message Kind)) (p : Pending) (h : Header) (got : List ℕ) → Stays bytes t p → IsTooLarge p.bytes h got
    → Stays bytes (t ++ Err h.kind ∷ []) (skipping got h.length)
refuse_step bytes t p h got (inl s) large =
    let f = flat_map wire s.messages in
    let whole = s.whole ∙ ap (λ (l : List ℕ). f ++ l) large.begins.whole in
    let told_is = ap (λ (l : List (Result Message Kind)). l ++ Err h.kind ∷ []) s.told_is in
    elim (cases_lt (length got) h.length) [
      | inl less ↦ inr (record {
        messages = s.messages;
        each = s.each;
        h = h;
        got = got;
        whole = whole;
        proper = large.begins.proper;
        large = large.large;
        told_is = told_is;
        missing = omega (arith, less);
        some = omega (arith, less);
        none_kept = drop_all h.length got (omega (arith, less));
      })
      | inr there ↦ inl (large_stands bytes (t ++ Err h.kind ∷ []) s.messages h (take h.length got) (skipping got h.length) s.each large.begins.proper
          (length-take-le h.length got there) large.large
          (whole ∙ ap (λ (l : List ℕ). f ++ (header h ++ l)) (sym (take-append-drop h.length got))) told_is (omega (arith, there)))
    ]
refuse_step bytes t p h got (inr s) large = absurd (none_there p.bytes h got s.none_kept large.begins.whole)

-- ---- all calls

follow : (calls : List Call) (bytes : List ℕ) (t : List (Result Message Kind)) (p q : Pending) → Stays bytes t p → Decodes p calls q
    → Stays (bytes ++ stream_of calls) (t ++ told calls) q
follow [] bytes t p q f l =
    subst (λ (x : Pending). Stays (bytes ++ []) (t ++ []) x) (sym l) (rw (append-nil bytes, append-nil t) f)
follow (feeds piece ∷ calls) bytes t p q f l =
    subst (λ (x : List ℕ). Stays x (t ++ told calls) q) (append_assoc bytes piece (stream_of calls))
    (follow calls (bytes ++ piece) t (fed p piece) q (feed_step bytes piece t p f) l)
follow (answers (Ok (Some m)) ∷ calls) bytes t p q f (after, given, l) =
    subst (λ (x : List (Result Message Kind)). Stays (bytes ++ stream_of calls) x q) (append_assoc t (Ok m ∷ []) (told calls))
    (follow calls bytes (t ++ Ok m ∷ []) after q (give_step bytes t p after m f given.0 given.1) l)
follow (answers (Ok None) ∷ calls) bytes t p q f (after, given, l) =
    follow calls bytes t after q (subst (λ (x : Pending). Stays bytes t x) (sym given.1) f) l
follow (answers (Err BadPrologue) ∷ calls) bytes t p q f (after, given, l) =
    follow calls bytes t after q (subst (λ (x : Pending). Stays bytes t x) (sym given.1) f) l
follow (answers (Err NoMemory) ∷ calls) bytes t p q f (after, (m, more, holds, same), l) =
    follow calls bytes t after q (subst (λ (x : Pending). Stays bytes t x) (sym same) f) l
follow (answers (Err (TooLarge kind)) ∷ calls) bytes t p q f (after, (h, got, large, named, same), l) =
    let step = refuse_step bytes t p h got f large in
    let there = subst (λ (x : Pending). Stays bytes (t ++ Err h.kind ∷ []) x) (sym same) step in
    let told_now = subst (λ (k : Kind). Stays bytes (t ++ Err k ∷ []) after) named there in
    subst (λ (x : List (Result Message Kind)). Stays (bytes ++ stream_of calls) x q) (append_assoc t (Err kind ∷ []) (told calls))
    (follow calls bytes (t ++ Err kind ∷ []) after q told_now l)

follows : (bytes : List ℕ) (t : List (Result Message Kind)) (p : Pending) → Stays bytes t p → Follows bytes t p
follows bytes t p (inl s) = record {
  messages = s.messages;
  rest = p.bytes;
  each = s.each;
  whole = s.whole;
  leaves = inl (s.told_is, ap (λ (n : ℕ). let q : Pending = record { bytes = p.bytes; skip = n } in q) s.no_skip);
}
follows bytes t p (inr s) = record {
  messages = s.messages;
  rest = header s.h ++ s.got;
  each = s.each;
  whole = s.whole;
  leaves = inr (
    s.h.kind,
    record {
      h = s.h;
      got = s.got;
      begins = record { whole = refl; proper = s.proper };
      large = s.large;
      kind_is = refl;
      missing = s.missing;
      some = s.some;
    },
    s.told_is,
    s.none_kept,
  );
}

pub every_one : (calls : List Call) (p : Pending) → EveryMessageComesOut calls p
every_one calls p l =
    follows (stream_of calls) (told calls) p
    (follow calls [] [] nothing_fed p (inl (record { messages = []; each = tt; whole = refl; told_is = refl; no_skip = refl })) l)
