-- Whatever is told to a status or a group, it stays within its limits.
use Rattle.std.proofs.Common.{◌<◌, ◌^◌, ℕ, arith}
use Rattle.std.proofs.lemmas.List.{length-drop}
use Rattle.sw_base.specs.declared.terms.StatusGroup.{StatusGroup}
use Rattle.sw_base.specs.declared.terms.StatusGroup.TheVariants.{Operation, Questionable}
use Rattle.sw_status.specs.Registers.{GroupSeen, IsGroup, first_group}
use Rattle.sw_status.specs.Registers.{latched, latches, low_15}
use Rattle.sw_status.specs.StatusModel.{StatusSeen, IsStatus, first_status, with_group, asking_of}
use Rattle.sw_status.specs.Laws.{KeepsBit15Clear, KeepsLimits}
use Rattle.sw_status.proofs.Bits.{low_15_small, register-lt}
use Rattle.sw_status.proofs.Queue.{queued-most}
use Rattle.sw_status.proofs.Requests.{counted-range}

latched-small : (event ptr ntr old new : ℕ) → latched event ptr ntr old new < 2 ^ 15
unfolding latched
latched-small event ptr ntr old new = register-lt 15 (latches event ptr ntr old new)

pub group-start : IsGroup first_group
group-start = record { condition = omega arith; event = omega arith; enable = omega arith; ptr = omega arith; ntr = omega arith }

pub group-kept : (g : GroupSeen) → IsGroup g → KeepsBit15Clear g
group-kept g h = record {
  taken = record { condition = h.condition; event = omega arith; enable = h.enable; ptr = h.ptr; ntr = h.ntr };
  enable = λ bits. record { condition = h.condition; event = h.event; enable = low_15_small bits; ptr = h.ptr; ntr = h.ntr };
  ptr = λ bits. record { condition = h.condition; event = h.event; enable = h.enable; ptr = low_15_small bits; ntr = h.ntr };
  ntr = λ bits. record { condition = h.condition; event = h.event; enable = h.enable; ptr = h.ptr; ntr = low_15_small bits };
  reset = record { condition = h.condition; event = h.event; enable = omega arith; ptr = omega arith; ntr = omega arith };
  conditioned = λ bits. record {
    condition = low_15_small bits;
    event = latched-small g.event g.ptr g.ntr g.condition (low_15 bits);
    enable = h.enable;
    ptr = h.ptr;
    ntr = h.ntr;
  };
}

grouped : (s : StatusSeen) → IsStatus s → (which : StatusGroup) (g : GroupSeen) → IsGroup g → IsStatus (with_group s which g)
grouped s h Operation g k = record { errors = h.errors; operation = k; questionable = h.questionable; requests = h.requests }
grouped s h Questionable g k = record { errors = h.errors; operation = h.operation; questionable = k; requests = h.requests }

pub status-start : IsStatus first_status
status-start = record { errors = omega arith; operation = group-start; questionable = group-start; requests = omega arith }

pub status-kept : (s : StatusSeen) → IsStatus s → KeepsLimits s
status-kept s h =
    let o = group-kept s.operation h.operation in
    let q = group-kept s.questionable h.questionable in
    record {
      error = λ e. record { errors = queued-most s.errors e h.errors; operation = h.operation; questionable = h.questionable; requests = h.requests };
      read = record { errors = omega (arith, h.errors, length-drop 1 s.errors); operation = h.operation; questionable = h.questionable; requests = h.requests };
      emptied = record { errors = omega arith; operation = h.operation; questionable = h.questionable; requests = h.requests };
      event_status = λ esr. record { errors = h.errors; operation = h.operation; questionable = h.questionable; requests = h.requests };
      event_enable = λ ese. record { errors = h.errors; operation = h.operation; questionable = h.questionable; requests = h.requests };
      service_enable = λ bits. record { errors = h.errors; operation = h.operation; questionable = h.questionable; requests = h.requests };
      group = grouped s h;
      reset = record { errors = h.errors; operation = o.reset; questionable = q.reset; requests = h.requests };
      clear = record { errors = omega arith; operation = o.taken; questionable = q.taken; requests = h.requests };
      ended = record {
        errors = h.errors;
        operation = h.operation;
        questionable = h.questionable;
        requests = counted-range s.requests s.asking (asking_of s) h.requests;
      };
    }
