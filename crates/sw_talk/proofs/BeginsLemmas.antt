-- A unit is begun.
use Rattle.std.proofs.Common.{◌≡◌, Bool, true, false, List, Ok, Err, inl, inr, refl, sym, subst}
use Rattle.sw_base.specs.declared.error.ScpiError.{ScpiError}
use Rattle.sw_base.specs.declared.error.ScpiError.TheVariants.{OutOfMemory}
use Rattle.sw_lex.specs.declared.command.Command.{Command}
use Rattle.sw_lex.specs.declared.command.NoData.{NoData}
use Rattle.sw_lex.specs.declared.command.RelayCommand.{RelayCommand}
use Rattle.sw_base.specs.declared.terms.StatusGroup.{StatusGroup}
use Rattle.sw_lex.specs.declared.command.GroupQuery.{GroupQuery}
use Rattle.sw_lex.specs.declared.command.SlotQuery.{SlotQuery}
use Rattle.sw_core.specs.Action.{Effect, IsOfMacros, action_of}
use Rattle.sw_macro.specs.Table.{Table}
use Rattle.sw_core.specs.declared.ask.Sid.{Sid}
use Rattle.sw_core.specs.declared.ask.SessionAsk.TheVariants as Ask
use Rattle.sw_core.specs.declared.ask.SessionAnswer.{SessionAnswer}
use Rattle.sw_talk.specs.Trace.{Entry, Led}
use Rattle.sw_talk.specs.Macros.{Told, ActsOnMacros}
use Rattle.sw_talk.specs.Talk.{Queues, Settles, Begins, BeginsBy, begun_with, effect_of, is_own, reads_out, Reports, StartsScan, Plans, due_of, ReadsBack, ReadsScan, table_reset}
use Rattle.sw_talk.proofs.LedLemmas.{led-so, led-then}

module _ {D : Type 0} (passes : D → Entry → D → Type 0) (sid : Sid) where
  pub initiate-planned : (d0 d1 d2 : D) (told final : SessionAnswer) → Led passes d0 d1 (λ t rest. Settles sid 0 (Ask.Snapshot sid) t told rest)
      → Led passes d1 d2 (λ t rest. Plans sid told t final rest)
      → Led passes d0 d2 (λ t rest. StartsScan sid t final rest)
  initiate-planned d0 d1 d2 told final p q =
      led-then passes d0 d1 d2 (λ t rest. Settles sid 0 (Ask.Snapshot sid) t told rest) (λ t rest. Plans sid told t final rest) (λ t rest.
      StartsScan sid t final rest) p q
      (λ t mid rest s k. (told, mid, s, k))

  pub read-planned : (d0 d1 d2 d3 : D) (answered : Bool) (told started final : SessionAnswer)
      → Led passes d0 d1 (λ t rest. Settles sid 0 (Ask.Snapshot sid) t told rest)
      → Led passes d1 d2 (λ t rest. Plans sid told t started rest)
      → Led passes d2 d3 (λ t rest. ReadsBack sid answered (due_of told) started t final rest)
      → Led passes d0 d3 (λ t rest. ReadsScan sid answered t final rest)
  read-planned d0 d1 d2 d3 answered told started final p q r =
      led-then passes d0 d1 d3 (λ t rest. Settles sid 0 (Ask.Snapshot sid) t told rest) (λ t rest.
      (later : List Entry) × Plans sid told t started later × ReadsBack sid answered (due_of told) started later final rest) (λ t rest.
      ReadsScan sid answered t final rest) p
      (led-then passes d1 d2 d3 (λ t rest. Plans sid told t started rest) (λ t rest. ReadsBack sid answered (due_of told) started t final rest) (λ t rest.
      (later : List Entry) × Plans sid told t started later × ReadsBack sid answered (due_of told) started later final rest) q r
      (λ t later rest k l. (later, k, l)))
      (λ t mid rest s k. (told, started, mid, k.0, s, k.1, k.2))

  -- a command that is the mainframe's is asked
  asked : (command : Command) (answered : Bool) (macros : Table) (t : List Entry) (final : SessionAnswer) (rest : List Entry)
      → is_own command ≡ false → Settles sid 0 (Ask.Unit sid command answered) t final rest
      → Begins sid answered (Ok command) macros t (begun_with final macros rest)
  asked (Command.NoData NoData.Initiate) answered macros t final rest own s = absurd (cc (own))
  asked (Command.NoData NoData.Read) answered macros t final rest own s = absurd (cc (own))
  asked (Command.NoData NoData.Reset) answered macros t final rest own s = absurd (cc (own))
  asked (Command.Macros ask) answered macros t final rest own s = absurd (cc (own))
  asked (Command.Macro ask) answered macros t final rest own s = absurd (cc (own))
  asked (Command.DestructiveQuery read) answered macros t final rest own s = (inl s, refl)
  asked (Command.Relays RelayCommand.Close chans) answered macros t final rest own s = (s, refl)
  asked (Command.GroupQuery GroupQuery.Condition StatusGroup.Operation) answered macros t final rest own s = (s, refl)
  asked (Command.GroupQuery GroupQuery.Condition StatusGroup.Questionable) answered macros t final rest own s = (s, refl)
  asked (Command.GroupQuery GroupQuery.Enable group) answered macros t final rest own s = (s, refl)
  asked (Command.GroupQuery GroupQuery.PositiveTransition group) answered macros t final rest own s = (s, refl)
  asked (Command.GroupQuery GroupQuery.NegativeTransition group) answered macros t final rest own s = (s, refl)
  asked (Command.SlotQuery SlotQuery.Kind slot) answered macros t final rest own s = (s, refl)
  asked (Command.SlotQuery SlotQuery.Groups slot) answered macros t final rest own s = (s, refl)
  asked (Command.SlotQuery SlotQuery.State slot) answered macros t final rest own s = (s, refl)
  asked (Command.Continuous true) answered macros t final rest own s = (s, refl)
  asked (Command.Continuous false) answered macros t final rest own s = (s, refl)
  asked command answered macros t final rest own s = (s, refl)

  pub begins-asked : (d0 d1 : D) (command : Command) (answered : Bool) (final : SessionAnswer) (macros : Table)
      → is_own command ≡ false → Led passes d0 d1 (λ t rest. Settles sid 0 (Ask.Unit sid command answered) t final rest)
      → Led passes d0 d1 (λ t rest. Begins sid answered (Ok command) macros t (begun_with final macros rest))
  begins-asked d0 d1 command answered final macros own p =
      led-so passes d0 d1 (λ t rest. Settles sid 0 (Ask.Unit sid command answered) t final rest) (λ t rest.
      Begins sid answered (Ok command) macros t (begun_with final macros rest)) p
      (λ t rest s. asked command answered macros t final rest own s)

  -- there was no memory for what a command would have read out
  unread : (command : Command) (answered : Bool) (macros : Table) (t : List Entry) (final : SessionAnswer) (rest : List Entry)
      → reads_out command ≡ true → Queues sid OutOfMemory t final rest
      → Begins sid answered (Ok command) macros t (begun_with final macros rest)
  unread (Command.DestructiveQuery read) answered macros t final rest is q = (inr q, refl)
  unread command answered macros t final rest is q = absurd (cc (is))

  pub begins-unread : (d0 d1 : D) (command : Command) (answered : Bool) (final : SessionAnswer) (macros : Table)
      → reads_out command ≡ true → Led passes d0 d1 (λ t rest. Queues sid OutOfMemory t final rest)
      → Led passes d0 d1 (λ t rest. Begins sid answered (Ok command) macros t (begun_with final macros rest))
  begins-unread d0 d1 command answered final macros is p =
      led-so passes d0 d1 (λ t rest. Queues sid OutOfMemory t final rest) (λ t rest.
      Begins sid answered (Ok command) macros t (begun_with final macros rest)) p
      (λ t rest q. unread command answered macros t final rest is q)

  -- a macro command was carried out
  pub begins-reported : (d0 d1 : D) (command : Command) (answered : Bool) (told : Told) (final : SessionAnswer) (macros macros' : Table)
      → effect_of (action_of answered command) ≡ IsOfMacros → ActsOnMacros command macros told macros'
      → Led passes d0 d1 (λ t rest. Reports sid told t final rest)
      → Led passes d0 d1 (λ t rest. Begins sid answered (Ok command) macros t (begun_with final macros' rest))
  begins-reported d0 d1 command answered told final macros macros' is acts p =
      led-so passes d0 d1 (λ t rest. Reports sid told t final rest) (λ t rest. Begins sid answered (Ok command) macros t (begun_with final macros' rest)) p
      (λ t rest k. subst (λ (e : Effect). BeginsBy e sid answered command macros t (begun_with final macros' rest)) (sym is) (told, acts, k))

  -- a scan was to start
  pub begins-scan : (d0 d1 : D) (answered : Bool) (final : SessionAnswer) (macros : Table)
      → Led passes d0 d1 (λ t rest. StartsScan sid t final rest)
      → Led passes d0 d1 (λ t rest. Begins sid answered (Ok (Command.NoData NoData.Initiate)) macros t (begun_with final macros rest))
  begins-scan d0 d1 answered final macros p =
      led-so passes d0 d1 (λ t rest. StartsScan sid t final rest) (λ t rest.
      Begins sid answered (Ok (Command.NoData NoData.Initiate)) macros t (begun_with final macros rest)) p (λ t rest k. (k, refl))

  -- a scan was to be read
  pub begins-read : (d0 d1 : D) (answered : Bool) (final : SessionAnswer) (macros : Table)
      → Led passes d0 d1 (λ t rest. ReadsScan sid answered t final rest)
      → Led passes d0 d1 (λ t rest. Begins sid answered (Ok (Command.NoData NoData.Read)) macros t (begun_with final macros rest))
  begins-read d0 d1 answered final macros p =
      led-so passes d0 d1 (λ t rest. ReadsScan sid answered t final rest) (λ t rest.
      Begins sid answered (Ok (Command.NoData NoData.Read)) macros t (begun_with final macros rest)) p (λ t rest k. (k, refl))

  -- a reset was asked
  pub begins-reset : (d0 d1 : D) (answered : Bool) (final : SessionAnswer) (macros macros' : Table) → macros' ≡ table_reset final macros
      → Led passes d0 d1 (λ t rest. Settles sid 0 (Ask.Unit sid (Command.NoData NoData.Reset) answered) t final rest)
      → Led passes d0 d1 (λ t rest. Begins sid answered (Ok (Command.NoData NoData.Reset)) macros t (begun_with final macros' rest))
  begins-reset d0 d1 answered final macros macros' is p =
      led-so passes d0 d1 (λ t rest. Settles sid 0 (Ask.Unit sid (Command.NoData NoData.Reset) answered) t final rest) (λ t rest.
      Begins sid answered (Ok (Command.NoData NoData.Reset)) macros t (begun_with final macros' rest)) p (λ t rest k. (k, is))

  -- an error was queued
  pub begins-queued : (d0 d1 : D) (e : ScpiError) (answered : Bool) (final : SessionAnswer) (macros macros' : Table) → macros' ≡ macros
      → Led passes d0 d1 (λ t rest. Queues sid e t final rest)
      → Led passes d0 d1 (λ t rest. Begins sid answered (Err e) macros t (begun_with final macros' rest))
  begins-queued d0 d1 e answered final macros macros' is p =
      led-so passes d0 d1 (λ t rest. Queues sid e t final rest) (λ t rest. Begins sid answered (Err e) macros t (begun_with final macros' rest)) p (λ t rest k.
      (k, is))
