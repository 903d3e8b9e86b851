-- Lines and parts of a listing.
use Rattle.std.proofs.Common.{◌≡◌, ℕ, suc, ◌+◌, ◌<◌, ◌≤◌, Bool, true, false, not, List, [], ◌∷◌, ◌++◌, length, get_or, take}
use Rattle.std.proofs.Common.{drop, drop-cons, add-one, refl, sym, ap, ◌∙◌, subst, arith, append_assoc}
use Rattle.std.specs.Prelude.{Option, Some, None, IfSome, IfNone, Ok, Err, Result, ◌==◌}
use Rattle.std.specs.Result.{result_ok}
use Rattle.std.specs.List.{All, AllByRecursion}
use Rattle.std.proofs.Math.ListN.{drop_of_length-le}
use Rattle.std.proofs.lemmas.List.{append-nil, take_all}
use Rattle.std.proofs.lemmas.List.Elements.{All-more, All-from_recursion, recursion_from_All}
use Rattle.std.proofs.lemmas.List.Splits.{slice_split_at, slice_split_none, length-slice_split}
use Rattle.std.proofs.lemmas.Bool.Decides.{nat_tests}
use Rattle.sw_base.specs.Text.{Lacks}
use Rattle.sw_code.specs.declared.code.Step.{Step}
use Rattle.sw_code.specs.declared.fault.ListFault.TheVariants.{BadStep, BadNumber}
use Rattle.sw_code.specs.declared.fault.ListError.{ListError}
use Rattle.sw_code.specs.Range.{IsStep, IsInChannelRange, HasPosition}
use Rattle.sw_code.specs.Listing.{line_of, listed_lines, parts_of, channel_text, others_text}
use Rattle.sw_base.specs.Layout.{Channel}
use Rattle.sw_code.specs.Reading.{parts_at, then_read, channel_in, step_in, meter_in, on_line, numbered_step, steps_in, after_steps, code_after_version}
use Rattle.sw_code.specs.Reading.{code_of_lines, version_of_lines}
use Rattle.sw_code.specs.Versions.{version_in}
use Rattle.sw_code.specs.declared.version.Version.{Version}

-- more parts or lines than there should be, or some that follow
pub channel_more : (v : Version) (s c : List ℕ) (more : List (List ℕ)) → 0 < length more → channel_in v (s ∷ c ∷ more) ≡ Err BadNumber
channel_more v s c [] h = absurd (omega arith)
channel_more v s c (x ∷ more) h = refl

pub meter_more : (v : Version) (w s : List ℕ) (more : List (List ℕ)) → 0 < length more → meter_in v (w ∷ s ∷ more) ≡ Err BadStep
meter_more v w s [] h = absurd (omega arith)
meter_more v w s (x ∷ more) h = refl

pub step_more : (v : Version) (w a b : List ℕ) (more : List (List ℕ)) → 0 < length more → step_in v (w ∷ a ∷ b ∷ more) ≡ Err BadStep
step_more v w a b [] h = absurd (omega arith)
step_more v w a b (x ∷ more) h = refl

pub version_some : (text : List ℕ) (more : List (List ℕ)) → 0 < length more
    → code_of_lines (text ∷ more) ≡ then_read (on_line 1 (version_in text)) (λ (v : Version). code_after_version v more)
version_some text [] h = absurd (omega arith)
version_some text (x ∷ more) h = refl

pub told_some : (text : List ℕ) (more : List (List ℕ)) → 0 < length more → version_of_lines (text ∷ more) ≡ result_ok (version_in text)
told_some text [] h = absurd (omega arith)
told_some text (x ∷ more) h = refl

pub second_some : (v : Version) (text : List ℕ) (more : List (List ℕ)) → 0 < length more
    → code_after_version v (text ∷ more) ≡ then_read (on_line 2 (meter_in v (parts_at 32 text))) (λ (meter : ℕ).
    then_read (steps_in v 3 more) (λ (steps : List Step). Ok (record { meter = meter; steps = steps })))
second_some v text [] h = absurd (omega arith)
second_some v text (x ∷ more) h = refl

pub steps_some : (v : Version) (line : ℕ) (text : List ℕ) (more : List (List ℕ)) → 0 < length more
    → steps_in v line (text ∷ more) ≡ then_read (on_line line (numbered_step v line text)) (λ (s : Step).
    then_read (steps_in v (line + 1) more) (λ (steps : List Step). Ok (s ∷ steps)))
steps_some v line text [] h = absurd (omega arith)
steps_some v line text (x ∷ more) h = refl

-- what holds of a value holds of what may be one
pub some_weaker : {T : Type 0} (r : Option T) (P Q : T → Type 0) → ((x : T) → P x → Q x) → IfSome r P → IfSome r Q
some_weaker None P Q f h = h
some_weaker (Some x) P Q f h = f x h

pub none_weaker : {T : Type 0} (r : Option T) (P Q : Type 0) → (P → Q) → IfNone r P → IfNone r Q
none_weaker None P Q f h = f h
none_weaker (Some x) P Q f h = h

-- parts
pub some_parts : (mark : ℕ) (bytes : List ℕ) → 0 < length (parts_at mark bytes)
some_parts mark bytes = omega (arith, length-slice_split (λ (b : ℕ). b == mark) bytes)

other_byte : (mark b : ℕ) → not (b == mark) ≡ true → (b == mark) ≡ false
other_byte mark b h = at (b == mark) h where
  at : (t : Bool) → not t ≡ true → t ≡ false
  at true e = sym e
  at false e = refl

lacks_all : (mark : ℕ) (a : List ℕ) → Lacks mark a → All (λ (b : ℕ). (b == mark) ≡ false) a
lacks_all mark a h = All-from_recursion (λ (b : ℕ). (b == mark) ≡ false) a (weaker a h) where
  weaker : (l : List ℕ) → Lacks mark l → AllByRecursion (λ (b : ℕ). (b == mark) ≡ false) l
  weaker [] e = tt
  weaker (x ∷ l) e = (other_byte mark x e.0, weaker l e.1)

pub first_of : (mark : ℕ) (a b : List ℕ) → Lacks mark a → parts_at mark (a ++ mark ∷ b) ≡ a ∷ parts_at mark b
first_of mark a b h =
    let e : (mark == mark) ≡ true = grind (arith, nat_tests) in
    slice_split_at (λ (x : ℕ). x == mark) a mark b (lacks_all mark a h) e

pub only_of : (mark : ℕ) (a : List ℕ) → Lacks mark a → parts_at mark a ≡ a ∷ []
only_of mark a h = slice_split_none (λ (x : ℕ). x == mark) a (lacks_all mark a h)

-- steps that are printed one by one
pub one_more : (out out1 out2 line whole : List ℕ) (steps : List Step) (i : ℕ) (s : Step) → i < length steps → s ≡ get_or steps i s → out1 ≡ out ++ line → line
    ++ 10 ∷ [] ≡ line_of (parts_of s) → out2 ≡ out1 ++ 10 ∷ [] → out ++ listed_lines (drop i steps) ≡ whole → out2 ++ listed_lines (drop (i + 1) steps) ≡ whole
one_more out out1 out2 line whole steps i s lt is e l f h =
    let d : drop i steps ≡ s ∷ drop (suc i) steps = drop-cons steps i s lt ∙ ap (λ (x : Step). x ∷ drop (suc i) steps) (sym is) in
    let g = rw d at h in
    let two : out2 ≡ out ++ line_of (parts_of s) = f ∙ ap (λ (x : List ℕ). x ++ 10 ∷ []) e ∙ append_assoc out line (10 ∷ [])
    ∙ ap (λ (x : List ℕ). out ++ x) l in
    let n : i + 1 ≡ suc i = omega arith in
    ap (λ (x : List ℕ). x ++ listed_lines (drop (i + 1) steps)) two ∙ ap (λ (j : ℕ). (out ++ line_of (parts_of s)) ++ listed_lines (drop j steps)) n
    ∙ append_assoc out (line_of (parts_of s)) (listed_lines (drop (suc i) steps)) ∙ g

pub channels_more : (steps : List Step) (i : ℕ) (s : Step) → i < length steps → s ≡ get_or steps i s → All HasPosition (take i steps) → HasPosition s
    → All HasPosition (take (i + 1) steps)
channels_more steps i s lt is a r = All-more HasPosition steps i s lt a (subst HasPosition is r)

pub lines_done : (out whole : List ℕ) (steps : List Step) (i : ℕ) → length steps ≤ i → out ++ listed_lines (drop i steps) ≡ whole → out ≡ whole
lines_done out whole steps i le e = sym (append-nil out) ∙ (rw (drop_of_length-le steps le) at e)

pub all_channels : (steps : List Step) (i : ℕ) → length steps ≤ i → All HasPosition (take i steps) → AllByRecursion HasPosition steps
all_channels steps i le a = recursion_from_All HasPosition steps (rw (take_all i steps le) at a)

-- channels that are printed one by one
pub channel_more_printed : (out out1 out2 whole : List ℕ) (cs : List Channel) (i : ℕ) (c : Channel) → i < length cs → c ≡ get_or cs i c → out1 ≡ out ++ 38 ∷ []
    → out2 ≡ out1 ++ channel_text c → out ++ others_text (drop i cs) ≡ whole → out2 ++ others_text (drop (i + 1) cs) ≡ whole
channel_more_printed out out1 out2 whole cs i c lt is e f h =
    let d : drop i cs ≡ c ∷ drop (suc i) cs = drop-cons cs i c lt ∙ ap (λ (x : Channel). x ∷ drop (suc i) cs) (sym is) in
    let g = rw d at h in
    rw (f, e, add-one) (let k : ((out ++ 38 ∷ []) ++ channel_text c) ++ others_text (drop (suc i) cs)
    ≡ out ++ 38 ∷ (channel_text c ++ others_text (drop (suc i) cs)) = simp append_assoc in k ∙ g)

pub range_more : (cs : List Channel) (i : ℕ) (c : Channel) → i < length cs → c ≡ get_or cs i c → All IsInChannelRange (take i cs) → IsInChannelRange c
    → All IsInChannelRange (take (i + 1) cs)
range_more cs i c lt is a r = All-more IsInChannelRange cs i c lt a (subst IsInChannelRange is r)

pub others_done : (out whole : List ℕ) (cs : List Channel) (i : ℕ) → length cs ≤ i → out ++ others_text (drop i cs) ≡ whole → out ≡ whole
others_done out whole cs i le e = sym (append-nil out) ∙ (rw (drop_of_length-le cs le) at e)

pub all_in_range : (cs : List Channel) (i : ℕ) → length cs ≤ i → All IsInChannelRange (take i cs) → AllByRecursion IsInChannelRange cs
all_in_range cs i le a = recursion_from_All IsInChannelRange cs (rw (take_all i cs le) at a)

-- steps that are read one by one
pub steps_push : (steps : List Step) (s : Step) → AllByRecursion IsStep steps → IsStep s → AllByRecursion IsStep (steps ++ s ∷ [])
steps_push [] s a b = (b, tt)
steps_push (x ∷ steps) s a b = (a.0, steps_push steps s a.1 b)

pub after_one : (before : List Step) (s : Step) (r : Result (List Step) ListError)
    → after_steps before (then_read r (λ (steps : List Step). Ok (s ∷ steps))) ≡ after_steps (before ++ s ∷ []) r
after_one before s (Ok steps) = ap Ok (sym (append_assoc before (s ∷ []) steps))
after_one before s (Err e) = refl
