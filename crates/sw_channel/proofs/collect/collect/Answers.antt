use Rattle.std.proofs.Common.{◌≡◌, ◌∙◌, ◌++◌, List, [], ◌∷◌, ℕ, ap, refl, sym, inl, inr, subst}
use Rattle.sw_channel.specs.Grammar.{ListItem, IsItem}
use Rattle.sw_channel.specs.Meaning.{judged, channels_judged}
use Rattle.sw_channel.specs.Seen.{LeadsTo, TakesItem}
use Rattle.sw_channel.proofs.Items.{items, parts_join, one_joined}
use Rattle.sw_channel.proofs.Parts.{first_of, last_item, next_items, no_next, none_left, some_left}
use Rattle.sw_channel.proofs.Judging.{leads_over}
use Rattle.sw_channel.proofs.collect.collect.Goals as goal

pub returns-in_default : goal.returns-in_default
returns-in_default c =
    inl (
      λ is h.
          let all = c.list.invariant.onward is h in
          let f = first_of {Part = IsItem} _ all.0 all.1 in
          c.in_default.ensures.none f.front f.tail f.item f.part f.ends f.whole,
      refl,
    )

pub returns-then-is_empty : goal.returns-then-is_empty
returns-then-is_empty c =
    let l = c.in-Some.ensures.taken in
    let last = last_item IsItem (TakesItem channels_judged c.list.found) _ _ _ l (none_left _ (sym c.is_empty.ensures ∙ c.if-is_empty.true)) in
    let whole = c.list.invariant.back (l.written ∷ []) last in
    let all = c.list.invariant.onward whole.0 whole.1 in
    let e : all.0 ≡ l.written ∷ [] = one_joined items _ all.0 (l.written ∷ []) all.1 last in
    let t = l.means [] (judged channels_judged [] whole.0)
    (subst (λ (js : List ListItem). LeadsTo channels_judged c.list.found js (judged channels_judged [] whole.0)) e all.2) in
    inr (whole.0, whole.1, c.all_of.ensures (judged channels_judged [] whole.0) (leads_over channels_judged _ _ t))

pub returns-in-None : goal.returns-in-None
returns-in-None c =
    inl (
      λ is h.
          let all = c.list.invariant.onward is h in
          no_next IsItem (TakesItem channels_judged c.list.found) _ _ _ c.in-Some.ensures.taken
          (some_left _ (sym c.is_empty.ensures ∙ c.if-is_empty.false)) c.in-None.ensures.none all.0 all.1,
      refl,
    )

pub list-preserved : goal.list-preserved
list-preserved c =
    let l = c.in-Some.ensures.taken in
    record {
      onward = λ is h.
          let all = c.list.invariant.onward is h in
          let r = next_items IsItem (TakesItem channels_judged c.list.found) _ _ _ l _ items c.in-Some-strip_prefix.ensures.found all.0 all.1 in (
            r.0,
            r.2,
            l.means r.0 (judged channels_judged [] is)
                (subst (λ (js : List ListItem). LeadsTo channels_judged c.list.found js (judged channels_judged [] is)) r.1 all.2),
          );
      back = λ js h.
          let w = l.whole ∙ ap (λ (t : List ℕ). l.front ++ t) c.in-Some-strip_prefix.ensures.found in
          c.list.invariant.back (l.written ∷ js) (parts_join 44 IsItem _ l.front _ l.written js w l.part h);
      within = λ f e. rw e at c.in-Some.ensures.within;
    }
