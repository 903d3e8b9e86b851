-- What is printed reads as the same code.
use Rattle.std.proofs.Common.{◌≡◌, ℕ, ◌+◌, ◌-◌, ◌/◌, ◌%◌, ◌<◌, ◌≤◌, ◌^◌, Bool, true, false, not, cond, List, [], ◌∷◌, ◌++◌, length, refl}
use Rattle.std.proofs.Common.{sym, ap, ◌∙◌, arith, lit<, append_assoc, append-nil, length-append, subst, suc}
use Rattle.std.specs.Prelude.{Ok, Err, Result, codes, decimal, ◌==◌, ◌&&◌, nat_lt, nat_le}
use Rattle.std.specs.List.{AllByRecursion, list_all, join_with_byte}
use Rattle.std.proofs.lemmas.Bool.{le-leb}
use Rattle.std.proofs.lemmas.Bool.Decides.{nat_tests}
use Rattle.std.proofs.lemmas.Fmt.{decimal_by_steps, decimal_nonempty, length-decimal-le}
use Rattle.std.proofs.lemmas.Grind.{common_steps}
use Rattle.sw_base.specs.Layout.{Channel}
use Rattle.sw_channel.specs.Positions.{Position, IsPosition, most_joined}
use Rattle.sw_channel.proofs.Joining.{different_apart}
use Rattle.sw_base.specs.Text.{AllPass, Lacks, is_digit}
use Rattle.sw_base.specs.Number.{value_after, value_of}
use Rattle.sw_base.specs.declared.terms.LayerName.{LayerName}
use Rattle.sw_base.specs.declared.terms.LayerName.TheVariants.{Arm, Trigger}
use Rattle.sw_base.specs.Layers.{number_of}
use Rattle.sw_base.proofs.Runs.{AllPass-append, AllPass-weaker, lacks}
use Rattle.sw_base.proofs.Values.{value_after-append}
use Rattle.sw_code.specs.declared.code.Step.{Step}
use Rattle.sw_code.specs.declared.code.Step.TheVariants as step
use Rattle.sw_code.specs.declared.fault.ListFault.{ListFault}
use Rattle.sw_code.specs.declared.fault.ListFault.TheVariants.{BadNumber, TooLong}
use Rattle.sw_code.specs.declared.fault.ListError.{ListError}
use Rattle.sw_code.specs.Range.{Program, most_steps, IsStep, IsInChannelRange, IsPositionInRange, HasPosition, IsProgramInRange}
use Rattle.sw_base.specs.Limits.{most_slots, most_channels, most_counters, most_trigger_count, longest_delay}
use Rattle.sw_code.specs.Listing.{layer_word, channel_text, others_text, position_text, line_of, listed_lines, parts_of, listing_of}
use Rattle.sw_code.specs.Reading.{parts_at, then_read, is_numeral, number_in, channel_in, joined_with, joined_in, position_in, step_in, meter_in, on_line}
use Rattle.sw_code.specs.Reading.{numbered_step, steps_in}
use Rattle.sw_code.specs.Reading.{code_after_version, code_of_lines, code_in}
use Rattle.sw_code.specs.Versions.{newest, first_parts}
use Rattle.sw_code.specs.declared.version.Version.{Version}
use Rattle.sw_code.proofs.Words.{number_small, layer_printed, newest_told}
use Rattle.sw_code.proofs.Listed.{first_of, only_of, some_parts, version_some, second_some, steps_some}

all_three : (a b c : Bool) → a ≡ true → b ≡ true → c ≡ true → (a && b && c) ≡ true
all_three true true true p q r = refl
all_three true true false p q r = r
all_three true false c p q r = q
all_three false b c p q r = p

pub number_good : (low high : ℕ) (part : List ℕ) (n : ℕ) → is_numeral part ≡ true → n ≡ value_of part → low ≤ n → n ≤ high → Ok n ≡ number_in low high part
number_good low high part n h e l k =
    let v = value_of part in
    let a : low ≤ v = omega arith in
    let b : v ≤ high = omega arith in
    ap Ok e ∙ sym (ap (λ (t : Bool).
    cond t (Ok v) (Err BadNumber)) (all_three (is_numeral part) (nat_le low v) (nat_le v high) h (le-leb low v a) (le-leb v high b)))

and_first : (a b : Bool) → (a && b) ≡ true → a ≡ true
and_first true b h = refl
and_first false b h = h

and_second : (a b : Bool) → (a && b) ≡ true → b ≡ true
and_second true b h = h
and_second false b h = absurd (cc h)

digits_from : (ds : List ℕ) → list_all is_digit ds ≡ true → AllPass is_digit ds
digits_from [] h = tt
digits_from (x ∷ ds) h = (and_first (is_digit x) (list_all is_digit ds) h, digits_from ds (and_second (is_digit x) (list_all is_digit ds) h))

all_last : (a b c : Bool) → (a && b && c) ≡ true → c ≡ true
all_last true true c h = h
all_last true false c h = absurd (cc h)
all_last false b c h = absurd (cc h)

pub numeral_digits : (part : List ℕ) → is_numeral part ≡ true → AllPass is_digit part
numeral_digits part h = digits_from part (all_last (nat_lt 0 (length part)) (nat_le (length part) 20) (list_all is_digit part) h)

digit : (n : ℕ) → n ≤ 9 → is_digit (48 + n) ≡ true
digit n h = grind (arith, common_steps)

-- the digits of a number
decimal_is : (n : ℕ) → n < 2 ^ 64 → AllPass is_digit (decimal n) × (value_of (decimal n) ≡ n)
decimal_is n small = decimal_by_steps (λ m ds. AllPass is_digit ds × (value_of ds ≡ m)) one more n small where
  one : (m : ℕ) → m < 10 → AllPass is_digit ((48 + m) ∷ []) × (value_of ((48 + m) ∷ []) ≡ m)
  one m h = ((digit m (omega arith), tt), omega arith)

  more : (m : ℕ) (ds : List ℕ) → 10 ≤ m → AllPass is_digit ds × (value_of ds ≡ m / 10) → AllPass is_digit (ds ++ (48 + m % 10) ∷ [])
      × (value_of (ds ++ (48 + m % 10) ∷ []) ≡ m)
  more m ds h p =
      let e = value_after-append 0 ds ((48 + m % 10) ∷ []) in
      let q : value_after 0 ds ≡ m / 10 = p.1 in
      let f : value_after (value_after 0 ds) ((48 + m % 10) ∷ []) ≡ m = ap (λ (v : ℕ). value_after v ((48 + m % 10) ∷ [])) q ∙ omega arith in
      (AllPass-append is_digit ds ((48 + m % 10) ∷ []) p.0 (digit (m % 10) (omega arith), tt), e ∙ f)

digits_lack : (mark : ℕ) → is_digit mark ≡ false → (n : ℕ) → n ≤ longest_delay → Lacks mark (decimal n)
digits_lack mark h n small =
    let k : n < 2 ^ 64 = omega arith in
    AllPass-weaker is_digit (λ (b : ℕ). not (b == mark)) (lacks is_digit mark h) (decimal n) (decimal_is n k).0

digits_test : (ds : List ℕ) → AllPass is_digit ds → list_all is_digit ds ≡ true
digits_test [] a = refl
digits_test (x ∷ ds) a = rw (a.0) (digits_test ds a.1)

number_printed : (low high n : ℕ) → low ≤ n → n ≤ high → n ≤ longest_delay → number_in low high (decimal n) ≡ Ok n
number_printed low high n l h small =
    let k : n < 2 ^ 64 = omega arith in
    let d = decimal_is n k in
    let some : 0 < length (decimal n) = decimal_nonempty n k in
    let few : length (decimal n) ≤ 20 = length-decimal-le 20 n (lit< tt) (omega arith) k in
    let s : nat_lt 0 (length (decimal n)) ≡ true = grind (arith, nat_tests) in
    sym (number_good low high (decimal n) n (all_three (nat_lt 0 (length (decimal n))) (nat_le (length (decimal n)) 20) (list_all is_digit (decimal n)) s
    (le-leb (length (decimal n)) 20 few) (digits_test (decimal n) d.0)) (sym d.1) l h)

channel_printed : (c : Channel) → IsInChannelRange c → channel_in newest (parts_at 33 (channel_text c)) ≡ Ok c
channel_printed c r =
    let slot : c.0 ≤ longest_delay = omega (arith, r.1) in
    let ch : c.1 ≤ longest_delay = omega (arith, r.3) in
    ap (channel_in newest) (first_of 33 (decimal c.0) (decimal c.1) (digits_lack 33 refl c.0 slot)
    ∙ ap (λ (l : List (List ℕ)). decimal c.0 ∷ l) (only_of 33 (decimal c.1) (digits_lack 33 refl c.1 ch)))
    ∙ ap (λ (x : Result ℕ ListFault).
    then_read x (λ (s : ℕ). then_read (number_in 1 most_channels (decimal c.1)) (λ (h : ℕ). Ok (s, h)))) (number_printed 1 most_slots c.0 r.0 r.1 slot)
    ∙ ap (λ (x : Result ℕ ListFault). then_read x (λ (h : ℕ). Ok (c.0, h))) (number_printed 1 most_channels c.1 r.2 r.3 ch)

channel_lacks : (mark : ℕ) → is_digit mark ≡ false → not (33 == mark) ≡ true → (c : Channel) → IsInChannelRange c → Lacks mark (channel_text c)
channel_lacks mark h k c r =
    let slot : c.0 ≤ longest_delay = omega (arith, r.1) in
    let ch : c.1 ≤ longest_delay = omega (arith, r.3) in
    AllPass-append (λ (b : ℕ). not (b == mark)) (decimal c.0) (33 ∷ decimal c.1) (digits_lack mark h c.0 slot) (k, digits_lack mark h c.1 ch)

position_lacks : (mark : ℕ) → is_digit mark ≡ false → not (33 == mark) ≡ true → not (38 == mark) ≡ true → (p : Position) → AllByRecursion IsInChannelRange p
    → Lacks mark (position_text p)
position_lacks mark h k j [] r = tt
position_lacks mark h k j (c ∷ p) r =
    AllPass-append (λ (b : ℕ). not (b == mark)) (channel_text c) (others_text p) (channel_lacks mark h k c r.0) (others p r.1) where
      others : (q : Position) → AllByRecursion IsInChannelRange q → Lacks mark (others_text q)
      others [] r = tt
      others (d ∷ q) r = (j, AllPass-append (λ (b : ℕ). not (b == mark)) (channel_text d) (others_text q) (channel_lacks mark h k d r.0) (others q r.1))

joined_good : (done : Position) (c : Channel) (q : Position) → IsPosition (done ++ c ∷ q) → joined_with newest done c ≡ Ok (done ++ c ∷ [])
joined_good done c q i =
    let n : length (done ++ c ∷ q) ≡ length done + suc (length q) = length-append done (c ∷ q) in
    let few = i.few in
    let t : nat_lt (length done) most_joined ≡ true = let k : length done < most_joined = omega (arith, n, few) in grind (arith, nat_tests) in
    ap (λ (b : Bool). cond b (Err BadNumber) (cond (nat_lt (length done) most_joined) (Ok (done ++ c ∷ [])) (Err BadNumber)))
    (different_apart done c q i.different)
    ∙ ap (λ (b : Bool). cond b (Ok (done ++ c ∷ [])) (Err BadNumber)) t

others_printed : (done : Position) (c : Channel) (q : Position) → IsPosition (done ++ c ∷ q) → IsInChannelRange c → AllByRecursion IsInChannelRange q
    → joined_in newest done (parts_at 38 (channel_text c ++ others_text q)) ≡ Ok (done ++ c ∷ q)
others_printed done c [] i r rs =
    ap (λ (t : List ℕ). joined_in newest done (parts_at 38 t)) (append-nil (channel_text c))
    ∙ ap (joined_in newest done) (only_of 38 (channel_text c) (channel_lacks 38 refl refl c r))
    ∙ ap (λ (x : Result Channel ListFault). then_read x (λ (d : Channel). then_read (joined_with newest done d) (λ (q : Position). Ok q))) (channel_printed c r)
    ∙ ap (λ (x : Result Position ListFault). then_read x (λ (q : Position). Ok q)) (joined_good done c [] i)
others_printed done c (d ∷ q) i r rs =
    let rest = parts_at 38 (channel_text d ++ others_text q) in
    ap (joined_in newest done) (first_of 38 (channel_text c) (channel_text d ++ others_text q) (channel_lacks 38 refl refl c r))
    ∙ ap (λ (x : Result Channel ListFault).
    then_read x (λ (e : Channel). then_read (joined_with newest done e) (λ (p : Position). joined_in newest p rest))) (channel_printed c r)
    ∙ ap (λ (x : Result Position ListFault). then_read x (λ (p : Position). joined_in newest p rest)) (joined_good done c (d ∷ q) i)
    ∙ others_printed (done ++ c ∷ []) d q (subst IsPosition (sym (append_assoc done (c ∷ []) (d ∷ q))) i) rs.0 rs.1
    ∙ ap Ok (append_assoc done (c ∷ []) (d ∷ q))

position_printed : (p : Position) → IsPositionInRange p → position_in newest (parts_at 38 (position_text p)) ≡ Ok p
position_printed [] r = let n = r.position.some in absurd (omega (arith, n))
position_printed (c ∷ []) r =
    let in_range = r.channels.0 in
    ap (λ (t : List ℕ). position_in newest (parts_at 38 t)) (append-nil (channel_text c))
    ∙ ap (position_in newest) (only_of 38 (channel_text c) (channel_lacks 38 refl refl c in_range))
    ∙ ap (λ (x : Result Channel ListFault). then_read x (λ (d : Channel). Ok (d ∷ []))) (channel_printed c in_range)
position_printed (c ∷ d ∷ q) r =
    let in_range = r.channels.0 in
    let rest = parts_at 38 (channel_text d ++ others_text q) in
    ap (position_in newest) (first_of 38 (channel_text c) (channel_text d ++ others_text q) (channel_lacks 38 refl refl c in_range))
    ∙ ap (λ (x : Result Channel ListFault). then_read x (λ (e : Channel). joined_in newest (e ∷ []) rest)) (channel_printed c in_range)
    ∙ others_printed (c ∷ []) d q r.position r.channels.1.0 r.channels.1.1

-- a line of two parts, and of three
two_parts : (w a : List ℕ) → Lacks 32 w → Lacks 32 a → parts_at 32 (w ++ 32 ∷ a) ≡ w ∷ a ∷ []
two_parts w a p q = first_of 32 w a p ∙ ap (λ (l : List (List ℕ)). w ∷ l) (only_of 32 a q)

three_parts : (w a b : List ℕ) → Lacks 32 w → Lacks 32 a → Lacks 32 b → parts_at 32 (w ++ 32 ∷ (a ++ 32 ∷ b)) ≡ w ∷ a ∷ b ∷ []
three_parts w a b p q r = first_of 32 w (a ++ 32 ∷ b) p ∙ ap (λ (l : List (List ℕ)). w ∷ l) (two_parts a b q r)

join_lacks : (w a : List ℕ) → Lacks 10 w → Lacks 10 a → Lacks 10 (w ++ 32 ∷ a)
join_lacks w a p q = AllPass-append (λ (b : ℕ). not (b == 10)) w (32 ∷ a) p (refl, q)

layer_lacks : (mark : ℕ) → not (97 == mark) ≡ true → not (114 == mark) ≡ true → not (109 == mark) ≡ true → not (116 == mark) ≡ true
    → not (105 == mark) ≡ true → not (103 == mark) ≡ true → is_digit mark ≡ false → (name : LayerName) → Lacks mark (layer_word name)
layer_lacks mark a r m t i g h Trigger = (t, (r, (i, (g, tt))))
layer_lacks mark a r m t i g h (Arm arm) = (a, (r, (m, digits_lack mark h (number_of arm) (omega (arith, number_small arm)))))

counter_printed : (k : ℕ) → k < most_counters → number_in 0 (newest.counters - 1) (decimal k) ≡ Ok k
counter_printed k i = number_printed 0 (newest.counters - 1) k (omega arith) (omega arith) (omega arith)

step_printed : (s : Step) → IsStep s → HasPosition s → step_in newest (parts_at 32 (join_with_byte 32 (parts_of s))) ≡ Ok s
step_printed (step.Set k n) i h =
    let p : k ≤ longest_delay = omega (arith, i.0) in
    let q : n ≤ longest_delay = omega (arith, i.2) in
    ap (step_in newest) (three_parts (codes "set") (decimal k) (decimal n) (refl, (refl, (refl, tt))) (digits_lack 32 refl k p) (digits_lack 32 refl n q))
    ∙ ap (λ (x : Result ℕ ListFault).
    then_read x (λ (m : ℕ). then_read (number_in 1 most_trigger_count (decimal n)) (λ (j : ℕ). Ok (step.Set m j)))) (counter_printed k i.0)
    ∙ ap (λ (x : Result ℕ ListFault). then_read x (λ (j : ℕ). Ok (step.Set k j))) (number_printed 1 most_trigger_count n i.1 i.2 q)
step_printed (step.Wait name) i h =
    ap (step_in newest) (two_parts (codes "wait") (layer_word name) (refl, (refl, (refl, (refl, tt)))) (layer_lacks 32 refl refl refl refl refl refl refl name))
    ∙ ap (λ (x : Result LayerName ListFault). then_read x (λ (l : LayerName). Ok (step.Wait l))) (layer_printed name)
step_printed (step.Timer name micros) i h =
    ap (step_in newest) (three_parts (codes "timer") (layer_word name) (decimal micros) (refl, (refl, (refl, (refl, (refl, tt)))))
    (layer_lacks 32 refl refl refl refl refl refl refl name) (digits_lack 32 refl micros i.1))
    ∙ ap (λ (x : Result LayerName ListFault).
    then_read x (λ (l : LayerName). then_read (number_in 1 longest_delay (decimal micros)) (λ (m : ℕ). Ok (step.Timer l m)))) (layer_printed name)
    ∙ ap (λ (x : Result ℕ ListFault). then_read x (λ (m : ℕ). Ok (step.Timer name m))) (number_printed 1 longest_delay micros i.0 i.1 i.1)
step_printed (step.Pause micros) i h =
    ap (step_in newest) (two_parts (codes "pause") (decimal micros) (refl, (refl, (refl, (refl, (refl, tt))))) (digits_lack 32 refl micros i.1))
    ∙ ap (λ (x : Result ℕ ListFault). then_read x (λ (m : ℕ). Ok (step.Pause m))) (number_printed 1 longest_delay micros i.0 i.1 i.1)
step_printed (step.Close p) i h =
    ap (step_in newest) (two_parts (codes "close") (position_text p) (refl, (refl, (refl, (refl, (refl, tt))))) (position_lacks 32 refl refl refl p h.channels))
    ∙ ap (λ (x : Result Position ListFault). then_read x (λ (q : Position). Ok (step.Close q))) (position_printed p h)
step_printed step.Read i h = refl
step_printed (step.Open p) i h =
    ap (step_in newest) (two_parts (codes "open") (position_text p) (refl, (refl, (refl, (refl, tt)))) (position_lacks 32 refl refl refl p h.channels))
    ∙ ap (λ (x : Result Position ListFault). then_read x (λ (q : Position). Ok (step.Open q))) (position_printed p h)
step_printed (step.Loop k to) i h =
    let p : k ≤ longest_delay = omega (arith, i.0) in
    let q : to ≤ longest_delay = omega (arith, i.1) in
    ap (step_in newest)
    (three_parts (codes "loop") (decimal k) (decimal to) (refl, (refl, (refl, (refl, tt)))) (digits_lack 32 refl k p) (digits_lack 32 refl to q))
    ∙ ap (λ (x : Result ℕ ListFault).
    then_read x (λ (m : ℕ). then_read (number_in 0 (most_steps - 1) (decimal to)) (λ (j : ℕ). Ok (step.Loop m j)))) (counter_printed k i.0)
    ∙ ap (λ (x : Result ℕ ListFault). then_read x (λ (j : ℕ). Ok (step.Loop k j))) (number_printed 0 (most_steps - 1) to (omega arith) (omega (arith, i.1)) q)
step_printed step.Halt i h = refl

line_lacks : (s : Step) → IsStep s → HasPosition s → Lacks 10 (join_with_byte 32 (parts_of s))
line_lacks (step.Set k n) i h =
    let p : k ≤ longest_delay = omega (arith, i.0) in
    let q : n ≤ longest_delay = omega (arith, i.2) in
    join_lacks (codes "set") (decimal k ++ 32 ∷ decimal n) (
      refl,
      (refl, (refl, tt)),
    ) (join_lacks (decimal k) (decimal n) (digits_lack 10 refl k p) (digits_lack 10 refl n q))
line_lacks (step.Wait name) i h = join_lacks (codes "wait") (layer_word name) (refl, (refl, (refl, (refl, tt))))
    (layer_lacks 10 refl refl refl refl refl refl refl name)
line_lacks (step.Timer name micros) i h =
    join_lacks (codes "timer") (layer_word name ++ 32 ∷ decimal micros) (refl, (refl, (refl, (refl, (refl, tt)))))
    (join_lacks (layer_word name) (decimal micros) (layer_lacks 10 refl refl refl refl refl refl refl name) (digits_lack 10 refl micros i.1))
line_lacks (step.Pause micros) i h = join_lacks (codes "pause") (decimal micros) (refl, (refl, (refl, (refl, (refl, tt))))) (digits_lack 10 refl micros i.1)
line_lacks (step.Close p) i h = join_lacks (codes "close") (position_text p) (refl, (refl, (refl, (refl, (refl, tt)))))
    (position_lacks 10 refl refl refl p h.channels)
line_lacks step.Read i h = (refl, (refl, (refl, (refl, tt))))
line_lacks (step.Open p) i h = join_lacks (codes "open") (position_text p) (refl, (refl, (refl, (refl, tt)))) (position_lacks 10 refl refl refl p h.channels)
line_lacks (step.Loop k to) i h =
    let p : k ≤ longest_delay = omega (arith, i.0) in
    let q : to ≤ longest_delay = omega (arith, i.1) in
    join_lacks (codes "loop") (decimal k ++ 32 ∷ decimal to) (
      refl,
      (refl, (refl, (refl, tt))),
    ) (join_lacks (decimal k) (decimal to) (digits_lack 10 refl k p) (digits_lack 10 refl to q))
line_lacks step.Halt i h = (refl, (refl, (refl, (refl, tt))))

-- the first line of a text
line_first : (line rest : List ℕ) → Lacks 10 line → parts_at 10 ((line ++ 10 ∷ []) ++ rest) ≡ line ∷ parts_at 10 rest
line_first line rest h = ap (parts_at 10) (append_assoc line (10 ∷ []) rest) ∙ first_of 10 line rest h

numbered_printed : (line : ℕ) (s : Step) → IsStep s → HasPosition s → line ≤ 2 + most_steps → numbered_step newest line (join_with_byte 32 (parts_of s)) ≡ Ok s
numbered_printed line s i h l =
    let t : nat_lt (2 + most_steps) line ≡ false = grind (arith, nat_tests) in
    ap (λ (x : Result Step ListFault). then_read x (λ (y : Step). cond (nat_lt (2 + most_steps) line) (Err TooLong) (Ok y))) (step_printed s i h)
    ∙ ap (λ (b : Bool). cond b (Err TooLong) (Ok s)) t

steps_printed : (steps : List Step) (line : ℕ) → AllByRecursion IsStep steps → AllByRecursion HasPosition steps → line + length steps ≤ 3 + most_steps
    → steps_in newest line (parts_at 10 (listed_lines steps)) ≡ Ok steps
steps_printed [] line i h l = refl
steps_printed (s ∷ steps) line i h l =
    let text = join_with_byte 32 (parts_of s) in
    let more = parts_at 10 (listed_lines steps) in
    let here : line ≤ 2 + most_steps = omega arith in
    ap (steps_in newest line) (line_first text (listed_lines steps) (line_lacks s i.0 h.0))
    ∙ steps_some newest line text more (some_parts 10 (listed_lines steps))
    ∙ ap (λ (r : Result Step ListFault). then_read (on_line line r) (λ (x : Step).
    then_read (steps_in newest (line + 1) more) (λ (l : List Step). Ok (x ∷ l)))) (numbered_printed line s i.0 h.0 here)
    ∙ ap (λ (r : Result (List Step) ListError). then_read r (λ (l : List Step). Ok (s ∷ l))) (steps_printed steps (line + 1) i.1 h.1 (omega arith))

pub listing_printed : (p : Program) → IsProgramInRange p → AllByRecursion HasPosition p.steps → code_in (listing_of p) ≡ Ok p
listing_printed p i h =
    let m : p.meter ≤ longest_delay = omega (arith, i.meter.1) in
    let second = codes "meter" ++ 32 ∷ decimal p.meter in
    let rest = line_of (codes "meter" ∷ decimal p.meter ∷ []) ++ listed_lines p.steps in
    let lines = parts_at 10 (listed_lines p.steps) in
    let first_text = join_with_byte 32 (first_parts newest) in
    let first_lacks : Lacks 10 first_text = (refl, (refl, (refl, (refl, (refl, digits_lack 10 refl newest.number (omega arith)))))) in
    let second_lacks : Lacks 10 second = join_lacks (codes "meter") (decimal p.meter) (
      refl,
      (refl, (refl, (refl, (refl, tt)))),
    ) (digits_lack 10 refl p.meter m) in
    let meter : meter_in newest (parts_at 32 second) ≡ Ok p.meter =
    ap (meter_in newest) (two_parts (codes "meter") (decimal p.meter) (refl, (refl, (refl, (refl, (refl, tt))))) (digits_lack 32 refl p.meter m))
    ∙ number_printed 1 most_slots p.meter i.meter.0 i.meter.1 m in
    let steps : steps_in newest 3 lines ≡ Ok p.steps = steps_printed p.steps 3 i.steps h (omega (arith, i.length)) in
    ap code_of_lines (line_first first_text rest first_lacks)
    ∙ version_some first_text (parts_at 10 rest) (some_parts 10 rest)
    ∙ ap (λ (r : Result Version ListFault). then_read (on_line 1 r) (λ (v : Version). code_after_version v (parts_at 10 rest))) newest_told
    ∙ ap (code_after_version newest) (line_first second (listed_lines p.steps) second_lacks)
    ∙ second_some newest second lines (some_parts 10 (listed_lines p.steps))
    ∙ ap (λ (r : Result ℕ ListFault). then_read (on_line 2 r) (λ (x : ℕ).
    then_read (steps_in newest 3 lines) (λ (l : List Step). Ok (record { meter = x; steps = l })))) meter
    ∙ ap (λ (r : Result (List Step) ListError). then_read r (λ (l : List Step). Ok (record { meter = p.meter; steps = l }))) steps
