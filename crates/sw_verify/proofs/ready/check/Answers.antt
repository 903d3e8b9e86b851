use Rattle.std.proofs.Common.{◌≡◌, ◌≤◌, true, false, List, length, refl, arith, sym, ap, ◌∙◌, subst}
use Rattle.std.specs.List.{list_all, Any, AllByRecursion}
use Rattle.std.proofs.lemmas.Bool.{both_ways, false≢true}
use Rattle.sw_base.specs.Layout.{is_present, has_meter}
use Rattle.sw_trigger.specs.Agenda.{used_of}
use Rattle.sw_trigger.specs.Counts.{readings_of}
use Rattle.sw_trigger.proofs.Awaiting.{listed_from_test}
use Rattle.sw_verify.specs.Channels.{is_among}
use Rattle.sw_verify.specs.Sound.{CanCloseEach}
use Rattle.sw_verify.specs.Stops.{IsBarredAt}
use Rattle.sw_verify.specs.declared.refusal.Refusal.{Refusal}
use Rattle.sw_channel.specs.Positions.{Position}
use Rattle.sw_base.specs.Layout.{Channel}
use Rattle.sw_verify.proofs.Checked.{sound_from_free, free_from_sound, present_from_sound, each_but_any, each_not_barred, any_barred}
use Rattle.sw_verify.proofs.First.{first_absent, first_blocked, first_too_many}
use Rattle.sw_verify.proofs.ready.check.Goals as goal

pub returns-then-not-are_present-clause-ok : goal.returns-then-not-are_present-clause-ok
returns-then-not-are_present-clause-ok c =
    let p = c.args.snapshot.now in
    let judged : c.are_present.result ≡ list_all (list_all (is_present p.layout)) (used_of p.settings.scan) = c.are_present.ensures
    ∙ ap (list_all (list_all (is_present p.layout))) c.used-used.ensures in
    let absent : list_all (list_all (is_present p.layout)) (used_of p.settings.scan) ≡ false = sym judged ∙ c.if-not-are_present.true in (
      λ h. absurd (false≢true h),
      λ w.
          absurd (both_ways (list_all (list_all (is_present p.layout)) (used_of p.settings.scan)) absent
          (present_from_sound p.layout p.closed p.settings.scan w.listed c.list.ensures.range w.sound)),
    )

pub returns-then-not-are_present-clause-first : goal.returns-then-not-are_present-clause-first
returns-then-not-are_present-clause-first c =
    let p = c.args.snapshot.now in
    let judged : c.are_present.result ≡ list_all (list_all (is_present p.layout)) (used_of p.settings.scan) = c.are_present.ensures
    ∙ ap (list_all (list_all (is_present p.layout))) c.used-used.ensures in
    let listed = listed_from_test c.is_empty.result _ (length p.settings.scan.list) c.is_empty.ensures c.if-is_empty.false (sym (ap length c.list.ensures.list)) in
    first_absent p listed (sym judged ∙ c.if-not-are_present.true)

pub returns-in-Some-clause-ok : goal.returns-in-Some-clause-ok
returns-in-Some-clause-ok c =
    let p = c.args.snapshot.now in
    let barred : Any (λ (q : Position). (r : Refusal) × IsBarredAt p.layout (is_among p.closed) q r) (used_of p.settings.scan) =
    subst (λ (l : List Position). Any (λ (q : Position). (r : Refusal) × IsBarredAt p.layout (is_among p.closed) q r) l) c.used-used.ensures
    (subst (λ (l : List Channel). Any (λ (q : Position). (r : Refusal) × IsBarredAt p.layout (is_among l) q r) c.used-used.result.now) c.as_slice.ensures
    (any_barred _ _ _ _ c.in-Some.ensures.blocked)) in (
      λ h. absurd (false≢true h),
      λ w.
          absurd (each_but_any (CanCloseEach p.layout (is_among p.closed)) (λ (q : Position). (r : Refusal) × IsBarredAt p.layout (is_among p.closed) q r)
          (λ q k x. each_not_barred p.layout (is_among p.closed) q x.0 k x.1) (used_of p.settings.scan)
          (free_from_sound p.layout p.closed p.settings.scan w.listed c.list.ensures.range w.sound) barred),
    )

pub returns-in-Some-clause-first : goal.returns-in-Some-clause-first
returns-in-Some-clause-first c =
    let p = c.args.snapshot.now in
    let judged : c.are_present.result ≡ list_all (list_all (is_present p.layout)) (used_of p.settings.scan) = c.are_present.ensures
    ∙ ap (list_all (list_all (is_present p.layout))) c.used-used.ensures in
    let barred : Any (λ (q : Position). (r : Refusal) × IsBarredAt p.layout (is_among p.closed) q r) (used_of p.settings.scan) =
    subst (λ (l : List Position). Any (λ (q : Position). (r : Refusal) × IsBarredAt p.layout (is_among p.closed) q r) l) c.used-used.ensures
    (subst (λ (l : List Channel). Any (λ (q : Position). (r : Refusal) × IsBarredAt p.layout (is_among l) q r) c.used-used.result.now) c.as_slice.ensures
    (any_barred _ _ _ _ c.in-Some.ensures.blocked)) in
    let listed = listed_from_test c.is_empty.result _ (length p.settings.scan.list) c.is_empty.ensures c.if-is_empty.false (sym (ap length c.list.ensures.list)) in
    let measured : has_meter p.layout p.settings.scan.meter ≡ true = ap (has_meter p.layout) (sym c.meter.ensures) ∙ sym c.has_meter.ensures
    ∙ c.if-not-has_meter.false in
    first_blocked p listed (sym judged ∙ c.if-not-are_present.false) measured barred

pub returns-then-from-readings-clause-first : goal.returns-then-from-readings-clause-first
returns-then-from-readings-clause-first c =
    let p = c.args.snapshot.now in
    let judged : c.are_present.result ≡ list_all (list_all (is_present p.layout)) (used_of p.settings.scan) = c.are_present.ensures
    ∙ ap (list_all (list_all (is_present p.layout))) c.used-used.ensures in
    let free : AllByRecursion (CanCloseEach p.layout (is_among p.closed)) (used_of p.settings.scan) =
    subst (λ (l : List Position). AllByRecursion (CanCloseEach p.layout (is_among p.closed)) l) c.used-used.ensures
    (subst (λ (l : List Channel). AllByRecursion (CanCloseEach p.layout (is_among l)) c.used-used.result.now) c.as_slice.ensures
    c.in_default.ensures.free) in
    let listed = listed_from_test c.is_empty.result _ (length p.settings.scan.list) c.is_empty.ensures c.if-is_empty.false (sym (ap length c.list.ensures.list)) in
    let measured : has_meter p.layout p.settings.scan.meter ≡ true = ap (has_meter p.layout) (sym c.meter.ensures) ∙ sym c.has_meter.ensures
    ∙ c.if-not-has_meter.false in
    first_too_many p listed (sym judged ∙ c.if-not-are_present.false) measured free (omega arith)

pub returns-clause-ok : goal.returns-clause-ok
returns-clause-ok c =
    let p = c.args.snapshot.now in
    let judged : c.are_present.result ≡ list_all (list_all (is_present p.layout)) (used_of p.settings.scan) = c.are_present.ensures
    ∙ ap (list_all (list_all (is_present p.layout))) c.used-used.ensures in
    let free : AllByRecursion (CanCloseEach p.layout (is_among p.closed)) (used_of p.settings.scan) =
    subst (λ (l : List Position). AllByRecursion (CanCloseEach p.layout (is_among p.closed)) l) c.used-used.ensures
    (subst (λ (l : List Channel). AllByRecursion (CanCloseEach p.layout (is_among l)) c.used-used.result.now) c.as_slice.ensures
    c.in_default.ensures.free) in
    let listed = listed_from_test c.is_empty.result _ (length p.settings.scan.list) c.is_empty.ensures c.if-is_empty.false (sym (ap length c.list.ensures.list)) in
    let present : list_all (list_all (is_present p.layout)) (used_of p.settings.scan) ≡ true = sym judged ∙ c.if-not-are_present.false in
    let measured : has_meter p.layout p.settings.scan.meter ≡ true = ap (has_meter p.layout) (sym c.meter.ensures) ∙ sym c.has_meter.ensures
    ∙ c.if-not-has_meter.false in
    let fits : readings_of p.settings.scan ≤ p.settings.scan.points = omega arith in (
      λ h. record { listed = listed; measured = measured; sound = sound_from_free p.layout p.closed p.settings.scan listed c.list.ensures.range free fits },
      λ w. refl,
    )
