use Rattle.std.proofs.Common.{◌≡◌, ◌++◌, [], ◌∷◌, length, arith}
use Rattle.sw_base.specs.Limits.{most_slots}
use Rattle.sw_cage.specs.Accounts.{all_open, option_account}
use Rattle.sw_cage.specs.Cards.{meter_only, meters_of}
use Rattle.sw_workers.proofs.EjectedLemmas.{good_slots, meter_slots, one_out}
use Rattle.sw_workers.proofs.closing.take_cards.Goals as goal

pub loop-before-preserved : goal.loop-before-preserved
loop-before-preserved g c =
    let i = c.loop-before.invariant in
    let t = c.take_out-card.ensures in
    let slots : length (all_open c.loop-before.held.panel.cage.cards) ≡ most_slots = good_slots c.loop-before.held.panel i.good in
    let places : length (meters_of c.loop-before.held.cards) ≡ most_slots = meter_slots c.loop-before.held.panel c.loop-before.held.cards i.good i.accounts in
    let put : c.push.new.self.items ≡ c.loop-before.cards.items ++ c.take_out-card.result ∷ [] = rw c.unwrap.ensures at c.push.ensures.items in
    record {
      so_far = one_out option_account c.loop-before.cards.items c.push.new.self.items c.take_out-card.result c.loop-before.before
          (all_open c.loop-before.held.panel.cage.cards) (all_open c.take_out-card.new.held.panel.cage.cards) (all_open c.args.held.now.panel.cage.cards)
          i.so_far t.card t.others (omega (arith, slots, c.loop-before-test.true)) put;
      meters_so_far = one_out meter_only c.loop-before.cards.items c.push.new.self.items c.take_out-card.result c.loop-before.before
          (meters_of c.loop-before.held.cards) (meters_of c.take_out-card.new.held.cards) (meters_of c.args.held.now.cards)
          i.meters_so_far t.meter t.meters (omega (arith, places, c.loop-before-test.true)) put;
      good = c.runs_go_on.ensures.good _ c.has_history.ensures.reached;
      accounts = c.has_history.ensures.accounts;
      count = omega (arith, c.push.ensures.upper_bound, i.count);
      room = omega (arith, c.push.ensures.capacity, i.room);
      joined = λ sid is. t.joined sid (i.joined sid is);
    }
