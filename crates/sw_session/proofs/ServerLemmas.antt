-- A server that stays the same.
use Rattle.std.proofs.Common.{◌≡◌, ℕ, refl, sym, ap, ◌∙◌, subst, List, Result}
use Rattle.sw_hislip.specs.declared.fault.WireFault.{WireFault}
use Rattle.sw_hislip.specs.declared.message.Message.{Message}
use Rattle.sw_hislip.specs.Pending.{Pending}
use Rattle.sw_session.specs.Beginning.{BeginningSeen}
use Rattle.sw_channels.specs.declared.step.Sent.{Sent}
use Rattle.sw_session.specs.Acts.{Act}
use Rattle.sw_session.specs.declared.after_step.AfterStep.{AfterStep}
use Rattle.sw_session.specs.declared.channel_server.ChannelServer.{ChannelServer}
use Rattle.sw_session.specs.declared.fault.ServeFault.{ServeFault}
use Rattle.sw_session.specs.declared.turns.Next.{Next}
use Rattle.sw_talk.specs.Trace.{Entry}
use Rattle.sw_channels.specs.Engine.{EngineStanding}
use Rattle.sw_session.specs.ServePoint.{Voice, voice, Point}
use Rattle.sw_session.specs.ServeHand.{HandsOne, Hands}
use Rattle.sw_session.specs.Serve.{Processes, ServesHeard, Course, TakesServerTurn}
use Rattle.sw_session.specs.ServeEngine.{engine_protocol}
use Rattle.sw_session.specs.Server.{voice_of, StaysServer}
use Rattle.sw_session.specs.ServeConnection.{Wiring, Connected, connected, ServesConnection}

pub stays-so : {W S D : Type 0} (a : ChannelServer W S D) → StaysServer a a
stays-so a = record { own = refl; desk = refl; writer = refl; side = refl }

pub stays-on : {W S D : Type 0} (a b c : ChannelServer W S D) → StaysServer a b → StaysServer b c → StaysServer a c
stays-on a b c h k = record { own = k.own ∙ h.own; desk = k.desk ∙ h.desk; writer = k.writer ∙ h.writer; side = k.side ∙ h.side }

pub speaks-so : {W S D : Type 0} (passes : D → Entry → D → Type 0) (a b : ChannelServer W S D) → StaysServer a b → voice_of passes b ≡ voice_of passes a
speaks-so passes a b h = ap (voice engine_protocol passes) h.own

-- what a server that stayed the same does is what the first one did

pub one-said-so : {W S D F : Type 0} (passes : D → Entry → D → Type 0) (a b : ChannelServer W S D) (p q : Point EngineStanding D) (x : Sent)
    (r : Result (Unit {0}) F) → StaysServer a b → HandsOne (voice_of passes b) p q x r → HandsOne (voice_of passes a) p q x r
one-said-so passes a b p q x r h k = subst (λ (u : Voice EngineStanding _). HandsOne u p q x r) (speaks-so passes a b h) k

pub all-said-so : {W S D : Type 0} (passes : D → Entry → D → Type 0) (a b : ChannelServer W S D) (p q : Point EngineStanding D) (said : List Sent)
    (r : Result (Unit {0}) ServeFault) → StaysServer a b → Hands (voice_of passes b) p q said r → Hands (voice_of passes a) p q said r
all-said-so passes a b p q said r h k = subst (λ (u : Voice EngineStanding _). Hands u p q said r) (speaks-so passes a b h) k

pub processes-so : {W S D : Type 0} (passes : D → Entry → D → Type 0) (a b : ChannelServer W S D) (act : Act) (p q : Point EngineStanding D)
    (r : Result AfterStep ServeFault) → StaysServer a b → Processes (voice_of passes b) act p q r → Processes (voice_of passes a) act p q r
processes-so passes a b act p q r h k = subst (λ (u : Voice EngineStanding _). Processes u act p q r) (speaks-so passes a b h) k

pub serves-so : {W S D : Type 0} (passes : D → Entry → D → Type 0) (a b : ChannelServer W S D) (heard : Result Message WireFault)
    (p q : Point EngineStanding D) (r : Result AfterStep ServeFault) → StaysServer a b → ServesHeard (voice_of passes b) heard p q r
    → ServesHeard (voice_of passes a) heard p q r
serves-so passes a b heard p q r h k = subst (λ (u : Voice EngineStanding _). ServesHeard u heard p q r) (speaks-so passes a b h) k

pub turn-so : {W S D : Type 0} (passes : D → Entry → D → Type 0) (a b : ChannelServer W S D) (p p' : Pending) (c d : Course EngineStanding D)
    (r : Result Next ServeFault) → StaysServer a b → TakesServerTurn (voice_of passes b) p p' c d r → TakesServerTurn (voice_of passes a) p p' c d r
turn-so passes a b p p' c d r h k = subst (λ (u : Voice EngineStanding _). TakesServerTurn u p p' c d r) (speaks-so passes a b h) k

-- what is so of a desk, a reader and two writers is so of the same by another name
pub connected-so : {D R W S : Type 0} (start : BeginningSeen) (turns : ℕ) (passes : D → Entry → D → Type 0) (w : Wiring R W S) (before after : Connected D R W S)
    (result : Result (Unit {0}) ServeFault) (desk : D) (writer : W) (side : S) → desk ≡ after.desk → writer ≡ after.writer → side ≡ after.side
    → ServesConnection start turns passes w before after result
    → ServesConnection start turns passes w before (connected desk after.reader writer side) result
connected-so start turns passes w before after result desk writer side d e f h =
    subst (λ x. ServesConnection start turns passes w before (connected x after.reader writer side) result) (sym d)
    (subst (λ x. ServesConnection start turns passes w before (connected after.desk after.reader x side) result) (sym e)
    (subst (λ x. ServesConnection start turns passes w before (connected after.desk after.reader after.writer x) result) (sym f) h))
