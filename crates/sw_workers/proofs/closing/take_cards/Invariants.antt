use Rattle.std.proofs.Common.{◌≡◌, ◌≤◌, ◌++◌, drop, vec_len}
use Rattle.std.specs.Vec.{vec_capacity}
use Rattle.sw_base.specs.Limits.{most_slots}
use Rattle.sw_cage.specs.Accounts.{accounts_of, all_open}
use Rattle.sw_cage.specs.Cards.{meters_of}
use Rattle.sw_core.specs.Good.{IsGoodPanel}
use Rattle.sw_workers.specs.Halves.{StayJoined}
use Rattle.sw_workers.proofs.closing.take_cards.Given as goal

-- the cards so far, and those of the slots still to come, are those of all slots
abbrev pub invariant-loop-before : goal.invariant-loop-before
invariant-loop-before g l = record {
  so_far : accounts_of l.cards.items ++ drop l.before (all_open l.held.panel.cage.cards) ≡ all_open l.fn.held.panel.cage.cards;
  meters_so_far : meters_of l.cards.items ++ drop l.before (meters_of l.held.cards) ≡ meters_of l.fn.held.cards;
  good : IsGoodPanel l.held.panel;
  accounts : l.held.panel.cage.cards ≡ accounts_of l.held.cards;
  count : vec_len l.cards ≤ l.before;
  room : most_slots ≤ vec_capacity l.cards;
  joined : StayJoined l.fn.held.panel l.held.panel;
}
