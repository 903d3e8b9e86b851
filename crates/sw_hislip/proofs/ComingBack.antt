-- A message that was encoded is decoded as it was.
use Rattle.std.proofs.Common.{◌≡◌, ℕ, List, ◌++◌, length, take, refl, sym, ap, ap₂, ◌∙◌, arith, inl, inr, Ok, Err, Some, None}
use Rattle.sw_hislip.specs.declared.fault.WireFault.TheVariants.{BadPrologue, TooLarge, NoMemory}
use Rattle.sw_hislip.specs.declared.header.Header.{Header}
use Rattle.sw_hislip.specs.declared.message.Message.{Message}
use Rattle.sw_hislip.specs.Wire.{header_of}
use Rattle.sw_hislip.specs.Pending.{Pending}
use Rattle.sw_hislip.specs.Stream.{ComesBack}
use Rattle.sw_hislip.proofs.Streams.{message_begins, one_header, one_message, waits_rest}

same_pending : (p : Pending) (bytes : List ℕ) (skip : ℕ) → p.bytes ≡ bytes → p.skip ≡ skip → p ≡ record { bytes = bytes; skip = skip }
same_pending p bytes skip b s = ap₂ (λ (x : List ℕ) (y : ℕ). record { bytes = x; skip = y }) b s

pub comes_back : (m : Message) → ComesBack m
comes_back m old new more (Ok (Some n)) h g =
    let both = one_message n m new.bytes more g.0.proper h.proper (sym g.0.whole ∙ h.whole) in
    inl (ap (λ (x : Message). Ok (Some x)) both.0, same_pending new more old.skip both.1 g.1)
comes_back m old new more (Ok None) h g = absurd (waits_rest old.bytes g.0 m more h.proper h.whole)
comes_back m old new more (Err BadPrologue) h g = absurd (g.0.wrong (ap (take 2) h.whole))
comes_back m old new more (Err (TooLarge kind)) h (k, got, large, named, rest) =
    let both = one_header old.bytes k (header_of m) got (m.payload ++ more) large.begins (message_begins old.bytes m more h.proper h.whole) in
    let n : k.length ≡ length m.payload = ap (λ (g : Header). g.length) both.0 in
    absurd (omega (arith, n, large.large, h.fits))
comes_back m old new more (Err NoMemory) h g = inr refl
