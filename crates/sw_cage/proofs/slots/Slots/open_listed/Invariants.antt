use Rattle.std.proofs.Common.{◌≡◌, take, false}
use Rattle.sw_cage.specs.Accounts.{accounts_of}
use Rattle.sw_cage.specs.Cards.{KeepsOthers, meters_of}
use Rattle.sw_cage.specs.Change.{Sets}
use Rattle.sw_cage.proofs.slots.Slots.open_listed.Given as goal

abbrev pub invariant-loop-chan : goal.invariant-loop-chan
invariant-loop-chan g l = record {
  sets : Sets (accounts_of l.fn.self) (take l.chan-index l.chans) false (accounts_of l.self);
  others : KeepsOthers l.fn.self l.chans l.self;
  meters : meters_of l.self ≡ meters_of l.fn.self;
}
