-- A slot of a layout as callers see it.
use Rattle.std.specs.Prelude.{Option, Some, None}
use Rattle.sw_base.specs.Layout.{SlotContents, relays, meter}
use Rattle.sw_verify.specs.declared.layout.Holds.{Holds}
use Rattle.sw_verify.specs.declared.layout.Holds.TheVariants.{Empty, Relays, Meter}

abbrev pub contents_of : Holds → Option SlotContents
contents_of Empty = None
contents_of (Relays groups) = Some (relays groups.items)
contents_of Meter = Some meter
