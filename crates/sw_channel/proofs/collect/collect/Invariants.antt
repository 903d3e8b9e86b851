use Rattle.std.proofs.Common.{length, List, [], ◌≤◌}
use Rattle.std.specs.Result.{ForOk}
use Rattle.sw_channel.specs.Grammar.{ListItem, IsItems}
use Rattle.sw_channel.specs.Meaning.{judged, channels_judged}
use Rattle.sw_channel.specs.Seen.{LeadsTo}
use Rattle.sw_channel.proofs.collect.collect.Given as goal

abbrev pub invariant-list : goal.invariant-list
invariant-list l = record {
  onward : (is : List ListItem) → IsItems l.text is → (js : List ListItem) × IsItems l.rest js
      × LeadsTo channels_judged l.found js (judged channels_judged [] is);
  back : (js : List ListItem) → IsItems l.rest js → (is : List ListItem) × IsItems l.text is;
  within : ForOk l.found (λ f. f.count ≤ 512);
}

abbrev pub decreases-list : goal.decreases-list
decreases-list l = length l.rest
