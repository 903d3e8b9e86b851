-- A body cut at its `$`.
use Rattle.std.proofs.Common.{◌≡◌, ℕ, ◌+◌, ◌-◌, ◌<◌, true, false, not, List, [], ◌∷◌, ◌++◌, length, get_or, Option, Some, None, Ok, Err, refl, sym, ap, ◌∙◌}
use Rattle.std.proofs.Common.{append_assoc, arith}
use Rattle.std.specs.Prelude.{◌==◌, nat_lt, Bool}
use Rattle.std.proofs.lemmas.List.{append-nil}
use Rattle.std.proofs.lemmas.Grind.{common_steps}
use Rattle.sw_base.specs.Text.{Lacks}
use Rattle.sw_base.specs.declared.error.ScpiError.TheVariants.{MacroParameterError, MacroRecursionError}
use Rattle.std.specs.Prelude.{slice_get}
use Rattle.std.specs.Option.{option_map}
use Rattle.std.proofs.lemmas.Option.{slice_get-map, slice_get_read}
use Rattle.sw_lex.specs.declared.unit.Element.{Element}
use Rattle.sw_lex.specs.Unit.{Datum, datum_of, datum_text, data_of}
use Rattle.sw_base.specs.Limits.{most_bytes}
use Rattle.sw_macro.specs.Filling.{is_place, parameter, prefixed, text_joined, filled, fitting, put_in, IsDraft}

-- ---- texts after other texts

led_none : (o : Option (List ℕ)) → prefixed [] o ≡ o
led_none None = refl
led_none (Some t) = refl

pub led_led : (xs ys : List ℕ) (o : Option (List ℕ)) → prefixed xs (prefixed ys o) ≡ prefixed (xs ++ ys) o
led_led xs ys None = refl
led_led xs ys (Some t) = ap (λ (x : List ℕ). Some x) (sym (append_assoc xs ys t))

-- ---- bytes that are no `$`

lead_one : (ds : List Datum) (b : ℕ) (t : List ℕ) → not (b == 36) ≡ true → filled ds (b ∷ t) ≡ prefixed (b ∷ []) (filled ds t)
lead_one ds b [] h = refl
lead_one ds b (c ∷ t) h = let k : (b == 36) ≡ false = grind (arith, common_steps) in rw k refl

pub lead_lacks : (ds : List Datum) (left t : List ℕ) → Lacks 36 left → filled ds (left ++ t) ≡ prefixed left (filled ds t)
lead_lacks ds [] t a = sym (led_none (filled ds t))
lead_lacks ds (b ∷ left) t a =
    lead_one ds b (left ++ t) a.0 ∙ ap (λ (o : Option (List ℕ)). prefixed (b ∷ []) o) (lead_lacks ds left t a.1) ∙ led_led (b ∷ []) left (filled ds t)

pub all_lacks : (ds : List Datum) (left : List ℕ) → Lacks 36 left → filled ds left ≡ Some left
all_lacks ds left a =
    ap (λ (t : List ℕ). filled ds t) (sym (append-nil left)) ∙ lead_lacks ds left [] a ∙ ap (λ (t : List ℕ). Some t) (append-nil left)

-- ---- a `$`

pub mark_stays : (ds : List Datum) (c : ℕ) (others : List ℕ) → is_place c ≡ false → filled ds (36 ∷ c ∷ others) ≡ prefixed (36 ∷ []) (filled ds (c ∷ others))
mark_stays ds c others h = rw h refl

pub mark_stands : (ds : List Datum) (c : ℕ) (others : List ℕ) → is_place c ≡ true
    → filled ds (36 ∷ c ∷ others) ≡ text_joined (parameter ds (c - 49)) (filled ds others)
mark_stands ds c others h = rw h refl

-- ---- what was written so far

-- a front of the filled body, what is kept of it, and what is left of the body
pub record Draft (n : ℕ) (ds : List Datum) (body rest kept : List ℕ) (room : Option ℕ) : Type 0 where
  pub whole : List ℕ
  pub draft : IsDraft n whole kept room
  pub onward : filled ds body ≡ prefixed whole (filled ds rest)

pub filled_more : (ds : List Datum) (body rest whole front more bytes others : List ℕ) → filled ds body ≡ prefixed whole (filled ds rest)
    → rest ≡ front ++ 36 ∷ more → Lacks 36 front → filled ds (36 ∷ more) ≡ prefixed bytes (filled ds others)
    → filled ds body ≡ prefixed ((whole ++ front) ++ bytes) (filled ds others)
filled_more ds body rest whole front more bytes others h e a m =
    h ∙ ap (λ (t : List ℕ). prefixed whole (filled ds t)) e
    ∙ ap (λ (o : Option (List ℕ)). prefixed whole o) (lead_lacks ds front (36 ∷ more) a ∙ ap (λ (o : Option (List ℕ)). prefixed front o) m)
    ∙ led_led whole front (prefixed bytes (filled ds others)) ∙ led_led (whole ++ front) bytes (filled ds others)

pub filled_missing : (ds : List Datum) (body rest whole front more : List ℕ) → filled ds body ≡ prefixed whole (filled ds rest) → rest ≡ front ++ 36 ∷ more
    → Lacks 36 front → filled ds (36 ∷ more) ≡ None → filled ds body ≡ None
filled_missing ds body rest whole front more h e a m =
    h ∙ ap (λ (t : List ℕ). prefixed whole (filled ds t)) e
    ∙ ap (λ (o : Option (List ℕ)). prefixed whole o) (lead_lacks ds front (36 ∷ more) a ∙ ap (λ (o : Option (List ℕ)). prefixed front o) m)

pub filled_all : (ds : List Datum) (body rest whole : List ℕ) → filled ds body ≡ prefixed whole (filled ds rest) → Lacks 36 rest
    → filled ds body ≡ Some (whole ++ rest)
filled_all ds body rest whole h a = h ∙ ap (λ (o : Option (List ℕ)). prefixed whole o) (all_lacks ds rest a)

pub fits_not : (n : ℕ) (ds : List Datum) (body whole kept : List ℕ) → filled ds body ≡ Some whole → IsDraft n whole kept None
    → put_in ds body n ≡ Err MacroRecursionError
fits_not n ds body whole kept h d =
    let k : nat_lt most_bytes (n + length whole) ≡ true = grind (arith, common_steps) in
    ap (λ (o : Option (List ℕ)). fitting n o) h ∙ (rw k refl)

pub fits : (n : ℕ) (ds : List Datum) (body whole kept : List ℕ) (room : ℕ) → filled ds body ≡ Some whole → IsDraft n whole kept (Some room)
    → put_in ds body n ≡ Ok kept
fits n ds body whole kept room h d =
    let k : nat_lt most_bytes (n + length whole) ≡ false = grind (arith, common_steps) in
    let f : fitting n (Some whole) ≡ Ok whole = rw k refl in
    ap (λ (o : Option (List ℕ)). fitting n o) h ∙ f ∙ ap (λ (t : List ℕ). Ok t) (sym d.0)

pub missing : (n : ℕ) (ds : List Datum) (body : List ℕ) → filled ds body ≡ None → put_in ds body n ≡ Err MacroParameterError
missing n ds body h = ap (λ (o : Option (List ℕ)). fitting n o) h

-- ---- a body without a `$`

-- whether it is too long, as the code sees it
pub long_is : (n : ℕ) (out text body : List ℕ) (b v : Bool) → n ≡ length out → text ≡ body → b ≡ nat_lt most_bytes (n + length text) → b ≡ v
    → nat_lt most_bytes (length out + length body) ≡ v
long_is n out text body b v e f g h =
    ap (λ (k : ℕ). nat_lt most_bytes (k + length body)) (sym e) ∙ ap (λ (t : List ℕ). nat_lt most_bytes (n + length t)) (sym f) ∙ sym g ∙ h

pub plain_fits : (n : ℕ) (ds : List Datum) (body : List ℕ) → Lacks 36 body → nat_lt most_bytes (n + length body) ≡ false → put_in ds body n ≡ Ok body
plain_fits n ds body a h = let f : fitting n (Some body) ≡ Ok body = rw h refl in ap (λ (o : Option (List ℕ)). fitting n o) (all_lacks ds body a) ∙ f

pub plain_too_long : (n : ℕ) (ds : List Datum) (body : List ℕ) → Lacks 36 body → nat_lt most_bytes (n + length body) ≡ true
    → put_in ds body n ≡ Err MacroRecursionError
plain_too_long n ds body a h =
    let f : fitting n (Some body) ≡ Err MacroRecursionError = rw h refl in ap (λ (o : Option (List ℕ)). fitting n o) (all_lacks ds body a) ∙ f

-- ---- one data element

pub parameter_at : (items : List Element) (k : ℕ) (e : Element) (t : List ℕ) → k < length items → e ≡ get_or items k e → t ≡ datum_text (datum_of e)
    → Some t ≡ parameter (data_of items) k
parameter_at items k e t l g f =
    let h : Some e ≡ slice_get items k = sym (slice_get_read items (length items) k e refl l g) in
    ap (λ (x : List ℕ). Some x) f
    ∙ ap (λ (o : Option Element). option_map datum_text (option_map datum_of o)) h
    ∙ sym (slice_get-map datum_text (data_of items) k ∙ ap (λ (o : Option Datum). option_map datum_text o) (slice_get-map datum_of items k))
