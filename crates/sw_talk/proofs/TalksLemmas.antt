-- The talk as far as it has come.
use Rattle.std.proofs.Common.{◌≡◌, ℕ, ◌+◌, ◌<◌, Bool, true, false, MatchBool, List, [], ◌∷◌, ◌++◌, length, ◌≤◌, Option, None, Result, Ok, Err, inl, inr, ap}
use Rattle.std.proofs.Common.{refl, sym, subst, append_assoc, arith}
use Rattle.std.specs.Prelude.{◌==◌, nat_lt, ◌⊎◌}
use Rattle.std.specs.Io.BufRead.{strip_last}
use Rattle.std.proofs.lemmas.List.{append-nil}
use Rattle.std.proofs.lemmas.Bool.Decides.{nat_tests}
use Rattle.sw_base.specs.Limits.{most_bytes}
use Rattle.sw_base.specs.declared.error.ScpiError.{ScpiError}
use Rattle.sw_base.specs.declared.error.ScpiError.TheVariants.{SettingsConflict, OutOfMemory, InputBufferOverrun}
use Rattle.sw_lex.specs.declared.command.Command.{Command}
use Rattle.sw_lex.specs.Unit.{UnitSeen, IsUnit}
use Rattle.sw_lex.specs.Meaning.{Nodes, Resolves}
use Rattle.sw_macro.specs.Table.{Table}
use Rattle.sw_macro.specs.Expansion.{calls, Expands}
use Rattle.sw_core.specs.declared.ask.Sid.{Sid}
use Rattle.sw_core.specs.declared.ask.SessionAsk.{SessionAsk}
use Rattle.sw_core.specs.declared.ask.SessionAnswer.{SessionAnswer}
use Rattle.sw_core.specs.declared.ask.SessionAnswer.TheVariants.{Joined, Full, Stranger, Broken, Done, Snapshot, Refused, Hold, Worn, Missed, Max, Lock, Info}
use Rattle.sw_talk.specs.declared.desk.Wake.{Wake}
use Rattle.sw_talk.specs.declared.desk.Wake.TheVariants.{Again, Over}
use Rattle.sw_talk.specs.declared.talker.AfterUnit.{AfterUnit}
use Rattle.sw_talk.specs.declared.talker.AfterUnit.TheVariants.{Goes, Drops, Ends}
use Rattle.sw_talk.specs.Trace.{Entry, Asked, Waited, Led}
use Rattle.sw_talk.specs.Script.{Ending, Complete, EndsRefused, EndsUnread, IsScript}
use Rattle.sw_talk.specs.Talk.{Queues, Settles, Begins, begun_with, Concludes, ServesUnit, Standing, standing, Proceeds, Way, Talks, Itself, TalksExpansion}
use Rattle.sw_talk.specs.Talk.{IsExpansion}
use Rattle.sw_talk.specs.Talk.{Expanded, TalksUnits, TalksMessage, Talked, Overruns, TalkerStanding, stands_at, OnLine, TalksLine}
use Rattle.sw_talk.specs.Talk.{has_answers, answer_line, written, lasts_after, after_unit}
use Rattle.sw_talk.specs.Talk.{state, turns}
use Rattle.sw_talk.proofs.LedLemmas.{led-none, led-one, led-so, led-more, led-then}

-- an ask that was held turn times is asked, or given up
abbrev pub Awaits : Sid → ℕ → SessionAsk → List Entry → SessionAnswer → List Entry → Type 0
Awaits sid turn ask trace final rest = MatchBool (turn == turns) (Queues sid SettingsConflict trace final rest) (Settles sid turn ask trace final rest)

-- what was held turn times, and is held once more, is settled from the rest on: then it is settled from the trace on
abbrev pub SettlesBy : Sid → ℕ → SessionAsk → List Entry → List Entry → Type 0
SettlesBy sid turn ask trace mid =
    (final : SessionAnswer) (rest : List Entry) → Settles sid turn ask (Asked ask (Hold ask) ∷ mid) final rest
    → Settles sid 0 ask (Asked ask (Hold ask) ∷ trace) final rest

awaits-open : (sid : Sid) (turn : ℕ) (ask : SessionAsk) (t : List Entry) (final : SessionAnswer) (rest : List Entry) → turn < turns
    → Settles sid turn ask t final rest → Awaits sid turn ask t final rest
awaits-open sid turn ask t final rest lt s =
    let differs : (turn == turns) ≡ false = grind (arith, nat_tests) in
    subst (λ (b : Bool). MatchBool b (Queues sid SettingsConflict t final rest) (Settles sid turn ask t final rest)) (sym differs) s

awaits-last : (sid : Sid) (turn : ℕ) (ask : SessionAsk) (t : List Entry) (final : SessionAnswer) (rest : List Entry) → turn ≡ turns
    → Queues sid SettingsConflict t final rest → Awaits sid turn ask t final rest
awaits-last sid turn ask t final rest is s =
    let same : (turn == turns) ≡ true = grind (arith, nat_tests) in
    subst (λ (b : Bool). MatchBool b (Queues sid SettingsConflict t final rest) (Settles sid turn ask t final rest)) (sym same) s

pub settle-start : {D : Type 0} (passes : D → Entry → D → Type 0) (d : D) (sid : Sid) (ask : SessionAsk) → Led passes d d (SettlesBy sid 0 ask)
settle-start passes d sid ask = led-none passes d (SettlesBy sid 0 ask) (λ rest final rest' s. s)

pub settle-again : {D : Type 0} (passes : D → Entry → D → Type 0) (d0 d1 d2 d3 : D) (sid : Sid) (turn : ℕ) (ask asked held : SessionAsk) (left : Option ℕ)
    → turn + 1 < turns → asked ≡ ask → held ≡ ask → Led passes d0 d1 (SettlesBy sid turn ask)
    → passes d1 (Waited None (Again left)) d2 → passes d2 (Asked asked (Hold held)) d3 → Led passes d0 d3 (SettlesBy sid (turn + 1) ask)
settle-again passes d0 d1 d2 d3 sid turn ask asked held left lt same back led p q =
    let q' : passes d2 (Asked ask (Hold ask)) d3 =
    subst (λ (x : SessionAsk). passes d2 (Asked ask (Hold x)) d3) back (subst (λ (x : SessionAsk). passes d2 (Asked x (Hold held)) d3) same q) in
    led-more passes d0 d1 d3 (SettlesBy sid turn ask) (SettlesBy sid (turn + 1) ask) (Waited None (Again left) ∷ Asked ask (Hold ask) ∷ []) led (
      d2,
      p,
      (d3, q', refl),
    )
    (λ t rest so final rest' w. so final rest' (refl, awaits-open sid (turn + 1) ask (Asked ask (Hold ask) ∷ rest) final rest' lt w))

-- the wait was over, or was the last
given-up : (sid : Sid) (turn : ℕ) (ask : SessionAsk) (wake : Wake) (t : List Entry) (final : SessionAnswer) (rest : List Entry)
    → (wake ≡ Over) ⊎ (turn + 1 ≡ turns)
    → Queues sid SettingsConflict t final rest → Settles sid turn ask (Asked ask (Hold ask) ∷ Waited None wake ∷ t) final rest
given-up sid turn ask Over t final rest why w = (refl, w)
given-up sid turn ask (Again left) t final rest (inl over) w = absurd (cc over)
given-up sid turn ask (Again left) t final rest (inr last) w = (refl, awaits-last sid (turn + 1) ask t final rest last w)

pub settle-end : {D : Type 0} (passes : D → Entry → D → Type 0) (d0 d1 d2 d3 : D) (sid : Sid) (turn : ℕ) (ask : SessionAsk) (wake : Wake)
    (final : SessionAnswer) → (wake ≡ Over) ⊎ (turn + 1 ≡ turns) → Led passes d0 d1 (SettlesBy sid turn ask)
    → passes d1 (Waited None wake) d2 → Led passes d2 d3 (λ t rest. Queues sid SettingsConflict t final rest)
    → Led passes d0 d3 (λ t rest. Settles sid 0 ask (Asked ask (Hold ask) ∷ t) final rest)
settle-end passes d0 d1 d2 d3 sid turn ask wake final why led p last =
    let P : List Entry → List Entry → Type 0 = λ t mid. (rest : List Entry) → Queues sid SettingsConflict mid final rest
    → Settles sid 0 ask (Asked ask (Hold ask) ∷ t) final rest in
    let held' : Led passes d0 d2 P = led-more passes d0 d1 d2 (SettlesBy sid turn ask) P (Waited None wake ∷ []) led (d2, p, refl)
    (λ t mid so rest w. so final rest (given-up sid turn ask wake mid final rest why w)) in
    led-then passes d0 d2 d3 P (λ t rest. Queues sid SettingsConflict t final rest) (λ t rest. Settles sid 0 ask (Asked ask (Hold ask) ∷ t) final rest) held'
    last
    (λ t u rest so w. so rest w)

settles-told : (sid : Sid) (turn : ℕ) (ask asked : SessionAsk) (final : SessionAnswer) (rest : List Entry) → asked ≡ ask
    → ((held : SessionAsk) → final ≡ Hold held → ⊥) → Settles sid turn ask (Asked asked final ∷ rest) final rest
settles-told sid turn ask asked (Hold held) rest same differ = absurd (differ held refl)
settles-told sid turn ask asked (Joined s) rest same differ = (same, refl, refl)
settles-told sid turn ask asked Full rest same differ = (same, refl, refl)
settles-told sid turn ask asked Missed rest same differ = (same, refl, refl)
settles-told sid turn ask asked (Max size) rest same differ = (same, refl, refl)
settles-told sid turn ask asked (Lock code) rest same differ = (same, refl, refl)
settles-told sid turn ask asked (Info exclusive holders) rest same differ = (same, refl, refl)
settles-told sid turn ask asked Stranger rest same differ = (same, refl, refl)
settles-told sid turn ask asked Broken rest same differ = (same, refl, refl)
settles-told sid turn ask asked (Done text) rest same differ = (same, refl, refl)
settles-told sid turn ask asked (Refused e) rest same differ = (same, refl, refl)
settles-told sid turn ask asked (Worn back) rest same differ = (same, refl, refl)
settles-told sid turn ask asked (Snapshot s number) rest same differ = (same, refl, refl)

pub settle-told : {D : Type 0} (passes : D → Entry → D → Type 0) (d0 d1 d2 d3 : D) (sid : Sid) (turn : ℕ) (ask asked : SessionAsk) (left : Option ℕ)
    (final : SessionAnswer) → turn + 1 < turns → asked ≡ ask → ((held : SessionAsk) → final ≡ Hold held → ⊥) → Led passes d0 d1 (SettlesBy sid turn ask)
    → passes d1 (Waited None (Again left)) d2 → passes d2 (Asked asked final) d3
    → Led passes d0 d3 (λ t rest. Settles sid 0 ask (Asked ask (Hold ask) ∷ t) final rest)
settle-told passes d0 d1 d2 d3 sid turn ask asked left final lt same differ led p q =
    led-more passes d0 d1 d3 (SettlesBy sid turn ask) (λ t rest. Settles sid 0 ask (Asked ask (Hold ask) ∷ t) final rest)
    (Waited None (Again left) ∷ Asked asked final ∷ []) led (d2, p, (d3, q, refl))
    (λ t rest so. so final rest (
      refl,
      awaits-open sid (turn + 1) ask (Asked asked final ∷ rest) final rest lt
          (settles-told sid (turn + 1) ask asked final rest same differ),
    ))

-- the first ask is held, or answered
pub settle-held : {D : Type 0} (passes : D → Entry → D → Type 0) (d0 d1 d2 : D) (sid : Sid) (ask held : SessionAsk) (final : SessionAnswer) → held ≡ ask
    → passes d0 (Asked ask (Hold held)) d1 → Led passes d1 d2 (λ t rest. Settles sid 0 held (Asked held (Hold held) ∷ t) final rest)
    → Led passes d0 d2 (λ t rest. Settles sid 0 ask t final rest)
settle-held passes d0 d1 d2 sid ask held final back p led =
    let p' : passes d0 (Asked held (Hold held)) d1 = subst (λ (x : SessionAsk). passes d0 (Asked x (Hold held)) d1) (sym back) p in
    subst (λ (x : SessionAsk). Led passes d0 d2 (λ t rest. Settles sid 0 x t final rest)) back (record {
      trace = Asked held (Hold held) ∷ led.trace;
      leads = (d1, p', led.leads);
      admits = led.admits;
    })

pub settle-first : {D : Type 0} (passes : D → Entry → D → Type 0) (d0 d1 : D) (sid : Sid) (ask : SessionAsk) (final : SessionAnswer)
    → ((held : SessionAsk) → final ≡ Hold held → ⊥) → passes d0 (Asked ask final) d1 → Led passes d0 d1 (λ t rest. Settles sid 0 ask t final rest)
settle-first passes d0 d1 sid ask final differ p =
    led-one passes d0 d1 (λ t rest. Settles sid 0 ask t final rest) (Asked ask final) p (λ rest. settles-told sid 0 ask ask final rest refl differ)

-- a unit that was begun is concluded
pub serve-unit : {D : Type 0} (passes : D → Entry → D → Type 0) (d0 d1 d2 : D) (sid : Sid) (command : Result Command ScpiError) (answered : Bool) (path : Nodes)
    (macros macros' : Table) (answers : List (List ℕ)) (answer : SessionAnswer) (after : AfterUnit) (answers' : List (List ℕ)) → answered ≡ has_answers answers
    → Led passes d0 d1 (λ t rest. Begins sid answered command macros t (begun_with answer macros' rest))
    → Led passes d1 d2 (λ t rest. Concludes sid answers answer t after answers' rest)
    → Led passes d0 d2 (λ t rest. ServesUnit sid command (standing path macros answers t) after (standing path macros' answers' rest))
serve-unit passes d0 d1 d2 sid command answered path macros macros' answers answer after answers' told p q =
    led-then passes d0 d1 d2 (λ t rest. Begins sid answered command macros t (begun_with answer macros' rest)) (λ t rest.
    Concludes sid answers answer t after answers' rest)
    (λ t rest. ServesUnit sid command (standing path macros answers t) after (standing path macros' answers' rest)) p q
    (λ t mid rest b k. (answer, mid, subst (λ (w : Bool). Begins sid w command macros t (begun_with answer macros' mid)) told b, k, refl))

-- a script of what is left, after these units, is one of the whole text
abbrev pub ScriptsBy : List ℕ → List UnitSeen → List ℕ → Type 0
ScriptsBy text front left = (us : List UnitSeen) (ending : Ending) → IsScript left us ending → IsScript text (front ++ us) ending

pub scripts-more : (text left rest : List ℕ) (front : List UnitSeen) (u : UnitSeen) → IsUnit left u rest → ScriptsBy text front left
    → ScriptsBy text (front ++ u ∷ []) rest
scripts-more text left rest front u is so us ending s =
    subst (λ (l : List UnitSeen). IsScript text l ending) (sym (append_assoc front (u ∷ []) us)) (so (u ∷ us) ending (rest, is, s))

-- what is talked from this standing on is talked from the first one on, after these units
abbrev pub TalksBy : Way → Sid → List UnitSeen → Standing → Standing → Type 0
TalksBy way sid front s told =
    (us : List UnitSeen) (ending : Ending) (after : AfterUnit) (s' : Standing) → Talks way sid us ending told after s'
    → Talks way sid (front ++ us) ending s after s'

stops : (on : Standing → Type 0) (after : AfterUnit) (told : Standing) → (after ≡ Goes → ⊥) → Proceeds on after told after told
stops on Goes told differs = absurd (differs refl)
stops on Drops told differs = (refl, refl)
stops on Ends told differs = (refl, refl)

module _ {D : Type 0} (passes : D → Entry → D → Type 0) (way : Way) (sid : Sid) where
  -- nothing was talked yet
  pub talk-starts : (d : D) (s : List Entry → Standing) → Led passes d d (λ t rest. TalksBy way sid [] (s t) (s rest))
  talk-starts d s = led-none passes d (λ t rest. TalksBy way sid [] (s t) (s rest)) (λ rest us ending after s' w. w)

  -- a unit was talked over, and the talk goes on
  pub talk-goes : (d0 d1 d2 : D) (front : List UnitSeen) (u : UnitSeen) (s told told' : List Entry → Standing)
      → Led passes d0 d1 (λ t rest. TalksBy way sid front (s t) (told rest))
      → Led passes d1 d2 (λ t rest. way u (told t) Goes (told' rest)) → Led passes d0 d2 (λ t rest. TalksBy way sid (front ++ u ∷ []) (s t) (told' rest))
  talk-goes d0 d1 d2 front u s told told' p q =
      led-then passes d0 d1 d2 (λ t rest. TalksBy way sid front (s t) (told rest)) (λ t rest. way u (told t) Goes (told' rest))
      (λ t rest. TalksBy way sid (front ++ u ∷ []) (s t) (told' rest)) p q
      (λ t mid rest so w us ending after s' k. subst (λ (l : List UnitSeen). Talks way sid l ending (s t) after s') (sym (append_assoc front (u ∷ []) us))
      (so (u ∷ us) ending after s' (Goes, told' rest, w, k)))

  -- the talk stops after a unit
  pub talk-stops : (d0 d1 d2 : D) (front : List UnitSeen) (u : UnitSeen) (s told told' : List Entry → Standing) (after : AfterUnit) → (after ≡ Goes → ⊥)
      → Led passes d0 d1 (λ t rest. TalksBy way sid front (s t) (told rest)) → Led passes d1 d2 (λ t rest. way u (told t) after (told' rest))
      → Led passes d0 d2 (λ t rest. Talks way sid (front ++ u ∷ []) EndsUnread (s t) after (told' rest))
  talk-stops d0 d1 d2 front u s told told' after differs p q =
      led-then passes d0 d1 d2 (λ t rest. TalksBy way sid front (s t) (told rest)) (λ t rest. way u (told t) after (told' rest))
      (λ t rest. Talks way sid (front ++ u ∷ []) EndsUnread (s t) after (told' rest)) p q
      (λ t mid rest so w. so (u ∷ []) EndsUnread after (told' rest)
      (after, told' rest, w, stops (λ so_far. Talks way sid [] EndsUnread so_far after (told' rest)) after (told' rest) differs))

  -- the text breaks off
  pub talk-refused : (d0 d1 d2 : D) (front : List UnitSeen) (e : ScpiError) (s told told' : List Entry → Standing) (after : AfterUnit)
      → Led passes d0 d1 (λ t rest. TalksBy way sid front (s t) (told rest)) → Led passes d1 d2 (λ t rest. ServesUnit sid (Err e) (told t) after (told' rest))
      → Led passes d0 d2 (λ t rest. Talks way sid (front ++ []) (EndsRefused e) (s t) after (told' rest))
  talk-refused d0 d1 d2 front e s told told' after p q =
      led-then passes d0 d1 d2 (λ t rest. TalksBy way sid front (s t) (told rest)) (λ t rest. ServesUnit sid (Err e) (told t) after (told' rest))
      (λ t rest. Talks way sid (front ++ []) (EndsRefused e) (s t) after (told' rest)) p q (λ t mid rest so k. so [] (EndsRefused e) after (told' rest) k)

  -- the text is over
  pub talk-complete : (d0 d1 : D) (front : List UnitSeen) (s told : List Entry → Standing)
      → Led passes d0 d1 (λ t rest. TalksBy way sid front (s t) (told rest))
      → Led passes d0 d1 (λ t rest. Talks way sid (front ++ []) Complete (s t) Goes (told rest))
  talk-complete d0 d1 front s told p =
      led-so passes d0 d1 (λ t rest. TalksBy way sid front (s t) (told rest)) (λ t rest. Talks way sid (front ++ []) Complete (s t) Goes (told rest)) p
      (λ t rest so. so [] Complete Goes (told rest) (refl, refl))

-- what goes from line to line is also this
on-line-so : {D : Type 0} (passes : D → Entry → D → Type 0) (a b : TalkerStanding D) (P Q : Standing → Standing → Type 0) → OnLine passes a b P
    → ((answers answers' : List (List ℕ)) (t rest : List Entry) → P (stands_at a answers t) (stands_at b answers' rest)
    → Q (stands_at a answers t) (stands_at b answers' rest)) → OnLine passes a b Q
on-line-so passes a b P Q on so = λ answers written.
    let s = on answers written in (
      s.0,
      s.1,
      led-so passes a.desk b.desk (λ t rest. P (stands_at a answers t) (stands_at b s.0 rest)) (λ t rest.
          Q (stands_at a answers t) (stands_at b s.0 rest)) s.2
          (λ t rest k. so answers s.0 t rest k),
    )

-- a unit's command or refusal is served below the path that it leaves
pub itself-served : {D : Type 0} (passes : D → Entry → D
    → Type 0) (a b : TalkerStanding D) (sid : Sid) (u : UnitSeen) (command : Result Command ScpiError) (after : AfterUnit)
    → Resolves u a.path command b.path → OnLine passes (record a { path = b.path }) b (λ s s'. ServesUnit sid command s after s')
    → OnLine passes a b (λ s s'. Itself sid u s after s')
itself-served passes a b sid u command after r on = λ answers written.
    let s = on answers written in (
      s.0,
      s.1,
      led-so passes a.desk b.desk (λ t rest. ServesUnit sid command (stands_at (record a { path = b.path }) answers t) after (stands_at b s.0 rest))
          (λ t rest. Itself sid u (stands_at a answers t) after (stands_at b s.0 rest)) s.2 (λ t rest k. (command, b.path, r, k)),
    )

expands : (c : Bool) (sid : Sid) (u : UnitSeen) (s s' : Standing) (after : AfterUnit) → calls s.macros u ≡ c
    → MatchBool c ((r : Result (List ℕ) ScpiError) × IsExpansion s.macros u r × TalksExpansion sid r s after s') (Itself sid u s after s')
    → Expanded sid u s after s'
expands c sid u s s' after is m =
    subst (λ (x : Bool). MatchBool x ((r : Result (List ℕ) ScpiError) × IsExpansion s.macros u r
    × TalksExpansion sid r s after s') (Itself sid u s after s')) (sym is) m

-- a unit that calls no macro is itself
pub expanded-itself : {D : Type 0} (passes : D → Entry → D → Type 0) (a b : TalkerStanding D) (sid : Sid) (u : UnitSeen) (after : AfterUnit)
    → calls a.macros u ≡ false
    → OnLine passes a b (λ s s'. Itself sid u s after s') → OnLine passes a b (λ s s'. Expanded sid u s after s')
expanded-itself passes a b sid u after is on =
    on-line-so passes a b (λ s s'. Itself sid u s after s') (λ s s'. Expanded sid u s after s') on
    (λ answers answers' t rest k. expands false sid u (stands_at a answers t) (stands_at b answers' rest) after is k)

-- the fault of an expansion, or want of memory
pub fault-expands : (t : Table) (u : UnitSeen) (written : List ℕ) (e : ScpiError) → (e ≡ OutOfMemory) ⊎ Expands t u written (Err e) → IsExpansion t u (Err e)
fault-expands t u written e (inl lost) = inr (ap (λ (x : ScpiError). Err x) lost)
fault-expands t u written e (inr so) = inl (written, so)

-- the units of an expansion stand in a unit's place
pub expanded-units : {D : Type 0} (passes : D → Entry → D → Type 0) (a b : TalkerStanding D) (sid : Sid) (u : UnitSeen) (text : List ℕ) (after : AfterUnit)
    → calls a.macros u ≡ true
    → IsExpansion a.macros u (Ok text) → TalksLine (Itself sid) passes sid text a after b → OnLine passes a b (λ s s'. Expanded sid u s after s')
expanded-units passes a b sid u text after is x talks = λ answers written.
    let s = talks answers written in (
      s.2,
      s.4,
      led-so passes a.desk b.desk (λ t rest. Talks (Itself sid) sid s.0 s.1 (stands_at a answers t) after (stands_at b s.2 rest))
          (λ t rest. Expanded sid u (stands_at a answers t) after (stands_at b s.2 rest)) s.5
          (λ t rest k. expands true sid u (stands_at a answers t) (stands_at b s.2 rest) after is (Ok text, x, (s.0, s.1, s.3, k))),
    )

-- the fault of an expansion is queued
pub expanded-fault : {D : Type 0} (passes : D → Entry → D → Type 0) (a b : TalkerStanding D) (sid : Sid) (u : UnitSeen) (e : ScpiError) (after : AfterUnit)
    → calls a.macros u ≡ true
    → IsExpansion a.macros u (Err e) → OnLine passes a b (λ s s'. ServesUnit sid (Err e) s after s') → OnLine passes a b (λ s s'. Expanded sid u s after s')
expanded-fault passes a b sid u e after is x on =
    on-line-so passes a b (λ s s'. ServesUnit sid (Err e) s after s') (λ s s'. Expanded sid u s after s') on
    (λ answers answers' t rest k. expands true sid u (stands_at a answers t) (stands_at b answers' rest) after is (Err e, x, k))

-- a message that isn't too long, over a trace after which nothing is left
pub talked-units : {D : Type 0} (passes : D → Entry → D
    → Type 0) (old new : D) (sid : Sid) (macros macros' : Table) (message text bytes : List ℕ) (units : List UnitSeen)
    (ending : Ending) (after : AfterUnit) (lasts : Bool) (path : Nodes) (answers : List (List ℕ)) → text ≡ strip_last 10 message → length text ≤ most_bytes
    → IsScript text units ending
    → bytes ≡ written after answers → lasts ≡ lasts_after after
    → Led passes old new (λ t rest. Talks (Expanded sid) sid units ending (standing [] macros [] t) after (standing path macros' answers rest))
    → (t : Talked passes sid (state old macros) message bytes (state new macros')) × (t.lasts ≡ lasts)
talked-units passes old new sid macros macros' message text bytes units ending after lasts path answers is few script writes kept led =
    let short : nat_lt most_bytes (length text) ≡ false = grind (arith, nat_tests) in
    let talk : TalksUnits sid macros text led.trace bytes lasts macros' = record {
      units = units;
      ending = ending;
      script = script;
      after = after;
      path = path;
      answers = answers;
      talks = subst (λ (t : List Entry).
          Talks (Expanded sid) sid units ending (standing [] macros [] t) after (standing path macros' answers [])) (append-nil led.trace) (led.admits []);
      writes = writes;
      lasts_is = kept;
    } in
    let all : TalksMessage sid macros text led.trace bytes lasts macros' =
    subst (λ (b : Bool). MatchBool b (Overruns sid led.trace bytes lasts
    × (macros' ≡ macros)) (TalksUnits sid macros text led.trace bytes lasts macros')) (sym short) talk in (
      record {
        trace = led.trace;
        leads = led.leads;
        lasts = lasts;
        talks = subst (λ (t : List ℕ). TalksMessage sid macros t led.trace bytes lasts macros') is all;
      },
      refl,
    )

-- a message that is too long
pub talked-overrun : {D : Type 0} (passes : D → Entry → D
    → Type 0) (old new : D) (sid : Sid) (macros macros' : Table) (message text bytes : List ℕ) (final : SessionAnswer) (lasts : Bool)
    → text ≡ strip_last 10 message
    → most_bytes < length text
    → bytes ≡ [] → lasts ≡ lasts_after (after_unit final) → macros' ≡ macros → Led passes old new (λ t rest. Queues sid InputBufferOverrun t final rest)
    → (t : Talked passes sid (state old macros) message bytes (state new macros')) × (t.lasts ≡ lasts)
talked-overrun passes old new sid macros macros' message text bytes final lasts is much writes told kept led =
    let long : nat_lt most_bytes (length text) ≡ true = grind (arith, nat_tests) in
    let over : Overruns sid led.trace bytes lasts =
    (final, subst (λ (t : List Entry). Queues sid InputBufferOverrun t final []) (append-nil led.trace) (led.admits []), writes, told) in
    let all : TalksMessage sid macros text led.trace bytes lasts macros' =
    subst (λ (b : Bool). MatchBool b (Overruns sid led.trace bytes lasts
    × (macros' ≡ macros)) (TalksUnits sid macros text led.trace bytes lasts macros')) (sym long) (over, kept) in (
      record {
        trace = led.trace;
        leads = led.leads;
        lasts = lasts;
        talks = subst (λ (t : List ℕ). TalksMessage sid macros t led.trace bytes lasts macros') is all;
      },
      refl,
    )

pub written-ends : (after : AfterUnit) (answers : List (List ℕ)) (bytes : List ℕ) → after ≡ Ends → bytes ≡ [] → bytes ≡ written after answers
written-ends Goes answers bytes is none = absurd (cc (is))
written-ends Drops answers bytes is none = absurd (cc (is))
written-ends Ends answers bytes is none = none

pub lasts-on : (after : AfterUnit) → (after ≡ Ends → ⊥) → true ≡ lasts_after after
lasts-on Goes goes = refl
lasts-on Drops goes = refl
lasts-on Ends goes = absurd (goes refl)

pub written-line : (after : AfterUnit) (answers : List (List ℕ)) (bytes : List ℕ) → (after ≡ Ends → ⊥) → bytes ≡ answer_line answers
    → bytes ≡ written after answers
written-line Goes answers bytes differs is = is
written-line Drops answers bytes differs is = is
written-line Ends answers bytes differs is = absurd (differs refl)
