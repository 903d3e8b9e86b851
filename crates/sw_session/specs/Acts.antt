-- What a server asks an engine for.
use Rattle.std.specs.Prelude.{Result, Ok, Err, Option, None, Some}
use Rattle.sw_hislip.specs.declared.fault.WireFault.{WireFault}
use Rattle.sw_hislip.specs.declared.fault.WireFault.TheVariants.{TooLarge, BadPrologue, NoMemory}
use Rattle.sw_hislip.specs.declared.kind.Kind.{Kind}
use Rattle.sw_hislip.specs.declared.message.Message.{Message}

-- To take a message; to answer one of this kind, which was too large; to answer a header that doesn't begin with `HS`;
-- to say service requests: before each message, and where a time limit ended a read.
pub data Act : Type 0 where
  Takes : Message → Act
  Skips : Kind → Act
  Refuses : Act
  Notices : Act

-- what is asked for by what the decoder gave; nothing where there was no memory for it
abbrev pub asked_by : Result Message WireFault → Option Act
asked_by (Ok m) = Some (Takes m)
asked_by (Err (TooLarge kind)) = Some (Skips kind)
asked_by (Err BadPrologue) = Some Refuses
asked_by (Err NoMemory) = None
