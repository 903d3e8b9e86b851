use Rattle.std.proofs.Common.{◌∷◌, [], ap, arith, Some}
use Rattle.sw_channel.proofs.Parts.{bare_leads}
use Rattle.sw_channel.proofs.parse.short_number.Goals as goal

pub returns-in_default : goal.returns-in_default
returns-in_default c =
    let a = c.in_ok-one.ensures.found in
    let u = c.in_ok-unpadded.ensures in
    bare_leads _ (a.0 ∷ []) _ _ (rw (← u.0) at a.1) (a.2, tt) (omega arith)
    (rw (← u.0) at u.1) (rw (← u.0) at c.in_default.ensures.none) (ap Some (omega (arith, a.3)))

pub returns-in_default-read_digit : goal.returns-in_default-read_digit
returns-in_default-read_digit c =
    let a = c.in_ok-one.ensures.found in
    let b = c.in-Some.ensures.found in
    let u = c.in_ok-unpadded-2.ensures in
    bare_leads _ (a.0 ∷ b.0 ∷ []) _ _ (rw (← u.0) at (rw b.1 at a.1)) (a.2, (b.2, tt)) (omega arith)
    (rw (← u.0) at u.1) (rw (← u.0) at c.in_default-read_digit.ensures.none) (ap Some (omega (arith, a.3, b.3)))

pub returns-in_ok-unpadded-in-None : goal.returns-in_ok-unpadded-in-None
returns-in_ok-unpadded-in-None c =
    let a = c.in_ok-one.ensures.found in
    let b = c.in-Some.ensures.found in
    let d = c.in-Some-read_digit.ensures.found in
    let u = c.in_ok-unpadded-in-None.ensures in
    bare_leads _ (a.0 ∷ b.0 ∷ d.0 ∷ []) _ _ (rw (← u.0) at (rw d.1 at (rw b.1 at a.1))) (a.2, (b.2, (d.2, tt))) (omega arith)
    (rw (← u.0) at u.1) (rw (← u.0) at c.in-None.ensures.none) (ap Some (omega (arith, a.3, b.3, d.3)))
