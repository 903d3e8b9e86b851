use Rattle.std.proofs.Common.{length, List, [], ◌≤◌}
use Rattle.std.specs.Result.{ForOk}
use Rattle.sw_channel.specs.Grammar.{PositionItem, IsPositionItems}
use Rattle.sw_channel.specs.Meaning.{judged}
use Rattle.sw_channel.specs.PositionMeaning.{positions_judged}
use Rattle.sw_channel.specs.Seen.{LeadsTo}
use Rattle.sw_channel.proofs.positions.collect_positions.Given as goal

abbrev pub invariant-list : goal.invariant-list
invariant-list l = record {
  onward : (is : List PositionItem) → IsPositionItems l.text is → (js : List PositionItem) × IsPositionItems l.rest js
      × LeadsTo positions_judged l.found js (judged positions_judged [] is);
  back : (js : List PositionItem) → IsPositionItems l.rest js → (is : List PositionItem) × IsPositionItems l.text is;
  within : ForOk l.found (λ f. f.count ≤ 512);
}

abbrev pub decreases-list : goal.decreases-list
decreases-list l = length l.rest
