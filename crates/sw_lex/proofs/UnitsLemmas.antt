-- Units, from the front.
use Rattle.std.proofs.Common.{◌≡◌, ℕ, ◌+◌, ◌≤◌, List, [], ◌∷◌, ◌++◌, length, take, drop, refl, sym, ap, subst, ◌∙◌, append_assoc, arith}
use Rattle.std.specs.List.{AllByRecursion}
use Rattle.std.proofs.lemmas.List.{append-nil, length-append, take_at, drop_at, map_push, take-append-drop, length-map, length-take-le}
use Rattle.sw_base.specs.Text.{is_letter, StartsOff}
use Rattle.sw_base.specs.declared.error.ScpiError.{ScpiError}
use Rattle.sw_base.specs.declared.error.ScpiError.TheVariants.{SyntaxError}
use Rattle.sw_lex.specs.declared.unit.Element.{Element}
use Rattle.sw_lex.specs.Unit.{IsMnemonic, IsName, colons, IsPath, BreaksOff, Datum, IsData, ReachesElement, IsNext, IsLast, fault_at, data_of, datum_of}
use Rattle.sw_lex.specs.Unit.{IsStuck}
use Rattle.sw_lex.specs.Unit.{IsDataRefused, Heads, common}

-- ---- a part of a text by its length

pub front_of : (text part rest : List ℕ) (n : ℕ) → text ≡ part ++ rest → length part ≡ n → take n text ≡ part
front_of text part rest n e k = rw e (take_at part rest n k)

pub rest_of : (text part rest : List ℕ) (n : ℕ) → text ≡ part ++ rest → length part ≡ n → drop n text ≡ rest
rest_of text part rest n e k = rw e (drop_at part rest n k)

-- ---- a header so far: mnemonics and their colons

pub record PathFront (text : List ℕ) (n : ℕ) (rest : List ℕ) : Type 0 where
  pub nodes : List (List ℕ)
  pub each : AllByRecursion IsMnemonic nodes
  pub whole : text ≡ colons nodes ++ rest
  pub len : length (colons nodes) ≡ n

pub PathFront-none : (text : List ℕ) → PathFront text 0 text
PathFront-none text = record { nodes = []; each = tt; whole = refl; len = refl }

colons-push : (ms : List (List ℕ)) (m : List ℕ) → colons (ms ++ m ∷ []) ≡ colons ms ++ (m ++ 58 ∷ [])
colons-push [] m = append-nil (m ++ 58 ∷ [])
colons-push (x ∷ ms) m = ap (λ (t : List ℕ). (x ++ 58 ∷ []) ++ t) (colons-push ms m) ∙ sym (append_assoc (x ++ 58 ∷ []) (colons ms) (m ++ 58 ∷ []))

pub each-push : (ms : List (List ℕ)) (m : List ℕ) → AllByRecursion IsMnemonic ms → IsMnemonic m → AllByRecursion IsMnemonic (ms ++ m ∷ [])
each-push [] m a h = (h, tt)
each-push (x ∷ ms) m a h = (a.0, each-push ms m a.1 h)

pub whole-push : (text rest m more : List ℕ) (ms : List (List ℕ)) → text ≡ colons ms ++ rest → rest ≡ m ++ 58 ∷ more → text ≡ colons (ms ++ m ∷ []) ++ more
whole-push text rest m more ms e f =
    let g : colons ms ++ (m ++ 58 ∷ more) ≡ (colons ms ++ (m ++ 58 ∷ [])) ++ more = simp append_assoc in
    e ∙ ap (λ (t : List ℕ). colons ms ++ t) f ∙ g ∙ ap (λ (t : List ℕ). t ++ more) (sym (colons-push ms m))

pub len-push : (ms : List (List ℕ)) (m : List ℕ) (n : ℕ) → length (colons ms) ≡ n → length (colons (ms ++ m ∷ [])) ≡ n + length m + 1
len-push ms m n e = ap (λ (t : List ℕ). length t) (colons-push ms m) ∙ omega (arith, length-append (colons ms) (m ++ 58 ∷ []), length-append m (58 ∷ []))

pub PathFront-more : (text : List ℕ) (n : ℕ) (rest m after more : List ℕ) → PathFront text n rest → IsMnemonic m → rest ≡ m ++ after → after ≡ 58 ∷ more
    → PathFront text (n + length m + 1) more
PathFront-more text n rest m after more f h e g = record {
  nodes = f.nodes ++ m ∷ [];
  each = each-push f.nodes m f.each h;
  whole = whole-push text rest m more f.nodes f.whole (e ∙ ap (λ (t : List ℕ). m ++ t) g);
  len = len-push f.nodes m n f.len;
}

pub front-whole : (text : List ℕ) (n : ℕ) (rest m more : List ℕ) (f : PathFront text n rest) → rest ≡ m ++ more → text ≡ (colons f.nodes ++ m) ++ more
front-whole text n rest m more f e = f.whole ∙ ap (λ (t : List ℕ). colons f.nodes ++ t) e ∙ sym (append_assoc (colons f.nodes) m more)

pub front-len : (text : List ℕ) (n : ℕ) (rest m : List ℕ) (f : PathFront text n rest) → length (colons f.nodes ++ m) ≡ n + length m
front-len text n rest m f = omega (arith, f.len, length-append (colons f.nodes) m)

pub PathFront-path : (text : List ℕ) (n : ℕ) (rest m more : List ℕ) → PathFront text n rest → IsMnemonic m → rest ≡ m ++ more
    → IsPath (take (n + length m) text) × (text ≡ take (n + length m) text ++ drop (n + length m) text)
PathFront-path text n rest m more f h e = (
  record {
    nodes = f.nodes;
    last = m;
    each = f.each;
    last_one = h;
    whole = front_of text (colons f.nodes ++ m) more (n + length m) (front-whole text n rest m more f e) (front-len text n rest m f);
  },
  sym (take-append-drop (n + length m) text),
)

pub PathFront-rest : (text : List ℕ) (n : ℕ) (rest m more : List ℕ) → PathFront text n rest → rest ≡ m ++ more → drop (n + length m) text ≡ more
PathFront-rest text n rest m more f e = rest_of text (colons f.nodes ++ m) more (n + length m) (front-whole text n rest m more f e) (front-len text n rest m f)

pub PathFront-off : (text : List ℕ) (n : ℕ) (rest : List ℕ) (e : ScpiError) → PathFront text n rest → StartsOff is_letter rest → e ≡ fault_at SyntaxError rest
    → BreaksOff text e
PathFront-off text n rest e f o h = record { nodes = f.nodes; each = f.each; more = rest; whole = f.whole; off = o; error = h }

-- ---- data so far

pub reaches_more : (text : List ℕ) (ds : List Datum) (here next : List ℕ) (d : Datum) → ReachesElement text ds here → IsNext here d next
    → ReachesElement text (ds ++ d ∷ []) next
reaches_more text [] here next d r n = (next, subst (λ (t : List ℕ). IsNext t d next) (sym r) n, refl)
reaches_more text (c ∷ ds) here next d r n = (r.0, r.1, reaches_more r.0 ds here next d r.2 n)

pub reaches_last : (text : List ℕ) (ds : List Datum) (here rest : List ℕ) (d : Datum) → ReachesElement text ds here → IsLast here d rest
    → IsData text (ds ++ d ∷ []) rest
reaches_last text [] here rest d r n = subst (λ (t : List ℕ). IsLast t d rest) (sym r) n
reaches_last text (c ∷ []) here rest d r n = (r.0, r.1, reaches_last r.0 [] here rest d r.2 n)
reaches_last text (c ∷ b ∷ ds) here rest d r n = (r.0, r.1, reaches_last r.0 (b ∷ ds) here rest d r.2 n)

pub data-push : (es : List Element) (e : Element) → data_of (es ++ e ∷ []) ≡ data_of es ++ datum_of e ∷ []
data-push es e = map_push datum_of es e

-- as many elements as are counted
pub held : (es : List Element) (n : ℕ) → length es ≡ 16 → n ≤ 16 → n ≡ length (take n es)
held es n w f = sym (length-take-le n es (omega (arith, w, f)))

stuck-here : (text here : List ℕ) (ds : List Datum) (n : ℕ) (e : ScpiError) → ReachesElement text ds here → n ≡ length ds → n ≤ 16 → IsStuck n here e
    → IsDataRefused text e
stuck-here text here ds n e r k f s = record {
  front = ds;
  here = here;
  reached = r;
  few = omega (arith, k, f);
  why = subst (λ (m : ℕ). IsStuck m here e) k s;
}

pub stuck-refused : (text here : List ℕ) (es : List Element) (n : ℕ) (e : ScpiError) → ReachesElement text (data_of es) here → n ≡ length es → n ≤ 16
    → IsStuck n here e → IsDataRefused text e
stuck-refused text here es n e r k = stuck-here text here (data_of es) n e r (k ∙ sym (length-map es datum_of))

-- ---- a common header

pub common-heads : (text more name rest : List ℕ) → text ≡ 42 ∷ more → IsName name → more ≡ name ++ rest → StartsOff is_letter rest
    → Heads text (common (take (length name + 1) text)) (drop (length name + 1) text)
common-heads text more name rest e h f o =
    let w : text ≡ (42 ∷ name) ++ rest = e ∙ ap (λ (t : List ℕ). 42 ∷ t) f in
    let n : length (42 ∷ name) ≡ length name + 1 = omega (arith, length-append (42 ∷ []) name) in
    let b : drop (length name + 1) text ≡ rest = rest_of text (42 ∷ name) rest (length name + 1) w n in
    record {
      form = (name, h, front_of text (42 ∷ name) rest (length name + 1) w n);
      whole = sym (take-append-drop (length name + 1) text);
      far = subst (λ (t : List ℕ). StartsOff is_letter t) (sym b) o;
    }
