-- Settings whose code is verified may begin.
use Rattle.std.proofs.Common.{◌≡◌, ℕ, ◌<◌, List, length, sym, ap, ◌∙◌, subst}
use Rattle.sw_base.specs.Layout.{Channel, has_meter}
use Rattle.sw_trigger.specs.Settings.{IsInRange}
use Rattle.sw_trigger.specs.Agenda.{Item, agenda}
use Rattle.sw_code.specs.Range.{Program}
use Rattle.sw_code.specs.Code.{Unfolds}
use Rattle.sw_code.specs.Compiled.{compiled}
use Rattle.sw_code.proofs.Unfolding.{unfolds_once}
use Rattle.sw_code.proofs.Compiled.{compiled_unfolds}
use Rattle.sw_verify.specs.declared.snapshot.Snapshot.{Snapshot}
use Rattle.sw_verify.specs.Channels.{is_among}
use Rattle.sw_verify.specs.Sound.{IsSound}
use Rattle.sw_verify.specs.Check.{IsReadyBySettings}
use Rattle.sw_verify.specs.Judged.{Judged, IsVerified}
use Rattle.sw_verify.specs.Denied.{IsPlanned}

module _ (p : Snapshot) (code : Program) (closed : List Channel) (points : ℕ) (is : code ≡ compiled p.settings.scan) (range : IsInRange p.settings.scan) (listed : 0
    < length p.settings.scan.list) (same : closed ≡ p.closed) (room : points ≡ p.settings.scan.points) where
  here : (Q : List Channel → ℕ → Type 0) → Q closed points → Q p.closed p.settings.scan.points
  here Q q = subst (λ (n : ℕ). Q p.closed n) room (subst (λ (l : List Channel). Q l points) same q)

  pub verified_ready : (v : Judged) → IsVerified p.layout (is_among closed) points code v → IsReadyBySettings p
  verified_ready v w =
      let items : w.items ≡ agenda p.settings.scan = unfolds_once code.steps w.items (agenda p.settings.scan) w.unfolds
      (subst (λ (c : Program). Unfolds c.steps (agenda p.settings.scan)) (sym is) (compiled_unfolds p.settings.scan listed range)) in
      record {
        listed = listed;
        measured = ap (λ (c : Program). has_meter p.layout c.meter) (sym is) ∙ w.measured;
        sound = here (λ l n. IsSound p.layout (is_among l) n (agenda p.settings.scan))
            (subst (λ (l : List Item). IsSound p.layout (is_among closed) points l) items w.sound);
      }

  pub ready_planned : IsReadyBySettings p → IsPlanned p.layout (is_among closed) points code
  ready_planned r = record {
    settings = p.settings.scan;
    range = range;
    listed = listed;
    is_compiled = is;
    measured = r.measured;
    sound =
        subst (λ (l : List Channel). IsSound p.layout (is_among l) points (agenda p.settings.scan)) (sym same)
        (subst (λ (n : ℕ). IsSound p.layout (is_among p.closed) n (agenda p.settings.scan)) (sym room) r.sound);
  }
