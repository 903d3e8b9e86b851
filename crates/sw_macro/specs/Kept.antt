-- A body with what is kept of it.
use Rattle.std.specs.Prelude.{◌≡◌, ℕ, List, true}
use Rattle.sw_base.specs.Text.{Lacks}
use Rattle.sw_macro.specs.Expansion.{StaysAsItIs}
use Rattle.sw_macro.specs.declared.body.Body.TheInside.{Inside}

abbrev pub text_in : Inside → List ℕ
text_in b = b.text

-- what is kept of a body is so
abbrev pub IsKnown : Inside → Type 0
IsKnown b = (b.is_plain ≡ true → Lacks 36 b.text) × (b.calls_none ≡ true → StaysAsItIs b.text)
