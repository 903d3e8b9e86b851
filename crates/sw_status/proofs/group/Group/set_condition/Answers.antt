use Rattle.std.proofs.Common.{ℕ, ◌<◌, ap, ◌∙◌, sym, subst}
use Rattle.sw_status.specs.Registers.{GroupSeen, low_15, group_conditioned}
use Rattle.sw_status.proofs.Bits.{latched_is, latched_small, low_15_small}
use Rattle.sw_status.proofs.group.Group.set_condition.Goals as goal

pub invariant_of-self : goal.invariant_of-self
invariant_of-self c =
    let g = c.self.inside in
    let limits = c.self.invariant in
    let event = latched_small g.event g.ptr g.ntr g.condition (low_15 c.args.bits) limits.event limits.ptr limits.ntr in
    record {
      condition = subst (λ (w : ℕ). w < 32768) (sym c.set-2.ensures) (low_15_small c.args.bits);
      event = subst (λ (w : ℕ). w < 32768) (sym c.set.ensures) event;
      enable = limits.enable;
      ptr = limits.ptr;
      ntr = limits.ntr;
    }

pub returns : goal.returns
returns c =
    let g = c.self.inside in
    let limits = c.self.invariant in
    let new = low_15 c.args.bits in
    let small = low_15_small c.args.bits in
    let word = latched_is g.event g.ptr g.ntr g.condition new limits.event limits.ptr limits.ntr limits.condition small in
    ap (λ (k : ℕ). record { condition = k; event = c.set.new.register; enable = g.enable; ptr = g.ptr; ntr = g.ntr }) c.set-2.ensures
    ∙ ap (λ (e : ℕ). record { condition = new; event = e; enable = g.enable; ptr = g.ptr; ntr = g.ntr }) (c.set.ensures ∙ word)
    ∙ ap (λ (s : GroupSeen). group_conditioned s c.args.bits) c.self.view_is
