-- Why no scan may begin now: the answer to DIAGnostic:SCAN:CHECk? (own).
use Rattle.std.specs.Prelude.{ℕ, ◌==◌, nat_lt, List, [], ◌∷◌, ◌++◌, length, codes, decimal}
use Rattle.std.specs.Prelude.{Option, Some, None, is_some, if◌then◌else◌}
use Rattle.sw_base.specs.Layout.{Channel, Layout, slot_at, group_of, has_meter}
use Rattle.sw_channel.specs.Positions.{Position, is_among}
use Rattle.sw_trigger.specs.Settings.{SettingsSeen}
use Rattle.sw_trigger.specs.Agenda.{used_of}
use Rattle.sw_trigger.specs.Counts.{bound_of, readings_of}
use Rattle.sw_verify.specs.declared.refusal.Refusal.{Refusal}
use Rattle.sw_verify.specs.declared.refusal.Refusal.TheVariants.{EmptyList, NoChannel, NoMeter, GroupClash}
use Rattle.sw_verify.specs.declared.refusal.Refusal.TheVariants.{TooManyReadings}
use Rattle.sw_verify.specs.Setup.{running}
use Rattle.sw_verify.specs.Check.{refusal_number, refusal_name}
use Rattle.sw_cage.specs.Cage.{cage_layout}
use Rattle.sw_cage.specs.Channels.{closed_list}
use Rattle.sw_core.specs.Event.{last_number}
use Rattle.sw_core.specs.Panel.{Panel, is_running}
use Rattle.sw_core.specs.Checking.{first_absent, joined_with, quoted}

-- the first that there is
abbrev pub or_next : {A : Type 0} → Option A → Option A → Option A
or_next None next = next
or_next (Some a) next = Some a

-- the first channel of the positions that the cage lacks
abbrev pub first_missing : Layout → List Position → Option Channel
first_missing layout [] = None
first_missing layout (p ∷ ps) = or_next (first_absent layout p) (first_missing layout ps)

-- a channel that may not be closed, with the closed one that it would join, or none where it is closed itself
abbrev pub Blocked : Type 0
Blocked = Channel × Option Channel

abbrev pub with_other : Channel → Option Channel → Option Blocked
with_other c None = None
with_other c (Some other) = Some (c, Some other)

-- the channel, where it may not be closed while these are
abbrev pub blocked_by : Layout → List Channel → Channel → Option Blocked
blocked_by layout closed c =
    if is_among closed c then Some (c, None) else with_other c (joined_with layout c closed)

-- The channels of a position are closed one after another, where these are closed before: the first that may not be.
abbrev pub first_in : Layout → List Channel → Position → Option Blocked
first_in layout before [] = None
first_in layout before (c ∷ p) = or_next (blocked_by layout before c) (first_in layout (before ++ c ∷ []) p)

-- of positions, each closed while these channels are and opened again, the first channel that may not be closed
abbrev pub first_blocked : Layout → List Channel → List Position → Option Blocked
first_blocked layout closed [] = None
first_blocked layout closed (p ∷ ps) = or_next (first_in layout closed p) (first_blocked layout closed ps)

-- ---- the answer's text

-- `s!c`
abbrev pub written : Channel → List ℕ
written c = decimal c.0 ++ (codes "!" ++ decimal c.1)

-- as a listing is refused, with the cause in words
abbrev pub refused_text : Refusal → List ℕ → List ℕ
refused_text r words =
    quoted (codes "refused " ++ (decimal (refusal_number r) ++ (codes " " ++ (refusal_name r ++ (codes ": " ++ words)))))
    []

abbrev pub accepted_text : SettingsSeen → List ℕ
accepted_text s =
    quoted (codes "ok bound " ++ (decimal (bound_of s) ++ (codes " readings " ++ decimal (readings_of s)))) []

abbrev pub missing_words : Channel → List ℕ
missing_words c = codes "no such channel: " ++ written c

abbrev pub unmeasured_words : ℕ → List ℕ
unmeasured_words slot = codes "no meter in slot " ++ (decimal slot ++ codes " (ROUTe:SCAN:METer)")

abbrev pub joined_words : Channel → Option Channel → ℕ → List ℕ
joined_words c None group = written c ++ codes " is closed already"
joined_words c (Some other) group =
    codes "closing "
    ++ (written c ++ (codes " would join it with " ++ (written other ++ (codes ", both of group " ++ decimal group))))

abbrev pub blocked_words : Layout → Blocked → List ℕ
blocked_words layout blocked = joined_words blocked.0 blocked.1 (group_of layout blocked.0)

abbrev pub crowded_words : ℕ → ℕ → List ℕ
crowded_words readings points =
    decimal readings ++ (codes " readings, room for " ++ (decimal points ++ codes " (TRACe:POINts)"))

-- ---- the causes in their order

abbrev pub counted_text : SettingsSeen → List ℕ
counted_text s =
    if nat_lt s.points (readings_of s) then refused_text TooManyReadings (crowded_words (readings_of s) s.points)
    else accepted_text s

abbrev pub blocked_text : Option Blocked → SettingsSeen → Layout → List ℕ
blocked_text (Some blocked) s layout = refused_text GroupClash (blocked_words layout blocked)
blocked_text None s layout = counted_text s

abbrev pub missing_text : Option Channel → SettingsSeen → Layout → List Channel → List ℕ
missing_text (Some c) s layout closed = refused_text NoChannel (missing_words c)
missing_text None s layout closed =
    if has_meter layout s.meter
    then blocked_text (first_blocked layout closed (used_of s)) s layout
    else refused_text NoMeter (unmeasured_words s.meter)

-- of a scan of these settings, with these cards, where these channels are closed
abbrev pub ready_text : SettingsSeen → Layout → List Channel → List ℕ
ready_text s layout closed =
    if length s.list == 0 then refused_text EmptyList (codes "nothing is listed (ROUTe:SCAN)")
    else missing_text (first_missing layout (used_of s)) s layout closed

-- Why INITiate would be refused now, the first cause alone; where it would be taken, what its scan awaits and reads. Of
-- a program that is on only that it is.
abbrev pub scan_check_text : Panel → List ℕ
scan_check_text p =
    if is_running p then quoted (codes "a scan runs") []
    else if is_some (running p.settings.program) then quoted (codes "a program is on") []
    else if is_some (slot_at p.cage.out p.settings.scan.meter)
    then quoted (codes "the meter of slot " ++ (decimal p.settings.scan.meter ++ codes " is out")) []
    else if nat_lt p.cage.number last_number
    then ready_text p.settings.scan (cage_layout p.cage) (closed_list p.cage.cards)
    else quoted (codes "no number is left for a scan") []
