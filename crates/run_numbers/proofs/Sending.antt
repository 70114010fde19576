-- Each step of a bearer at the terminal that sends goes on where its legs were, and each other leaves its legs.
use Rattle.std.proofs.Common.{ℕ, ◌≡◌, Bool, true, false, List, [], refl, sym, ap, subst, ◌∙◌}
use Rattle.std.specs.Prelude.{filter, if◌then◌else◌, map}
use Rattle.std.proofs.lemmas.Simd.{map-map}
use Rattle.dc_base.specs.Links.{is_same_link, link}
use Rattle.dc_base.specs.declared.nodes.Class.TheVariants.{Air}
use Rattle.dc_base.specs.declared.nodes.LinkId.{LinkId}
use Rattle.dc_base.specs.declared.nodes.Node.{Node}
use Rattle.dc_base.specs.declared.nodes.Node.TheVariants.{A, B, M, T}
use Rattle.nr_u.specs.declared.tunnel.outbound.Sent.{Sent}
use Rattle.pdcp_pdu.specs.Bitmap.{names}
use Rattle.pdcp_pdu.specs.Pdu.{Content, report, sdu}
use Rattle.pdcp_tx.specs.Sender.{counts}
use Rattle.split_leg.specs.Legs.{LegState, LegsState}
use Rattle.node_rules.specs.Choices.{Send}
use Rattle.node_rules.specs.Entity.{Entity, take_pdu}
use Rattle.node_rules.specs.Places.{is_at}
use Rattle.node_rules.specs.Setup.{Setup}
use Rattle.run_confirms.specs.Anchors.{as_sent, sent_on}
use Rattle.run_confirms.proofs.Confirming.{SameSends, all_settled_same}
use Rattle.run_numbers.specs.Histories.{Continues, NoneOf}
use Rattle.run_numbers.specs.Records.{HalfSends, air_sent, air_sents, leg_on, leg_sents}
use Rattle.run_numbers.proofs.Puts.{continues_none}

-- ---- legs that stay

-- as a PDU is sent over the air: without a mark
abbrev bare : Sent → Sent
bare s = record { count = s.count; repeat = false }

bare_sents : (leg : LegState) → air_sents leg ≡ map bare (sent_on leg)
bare_sents leg = sym (map-map bare as_sent leg.pdus)

pub same_sents : (a b : LegState) → sent_on b ≡ sent_on a → air_sents b ≡ air_sents a
same_sents a b same = bare_sents b ∙ ap (map bare) same ∙ sym (bare_sents a)

module _ (s : Setup) (legs : LegsState) (same : SameSends s.legs legs) where
  -- the setup with these legs
  abbrev with_them : Setup
  with_them = record s { legs = legs }

  same_to : (x : Node) → leg_sents x with_them ≡ leg_sents x s
  same_to T = refl
  same_to M = same_sents s.legs.mcg legs.mcg same.mcg
  same_to A = ap (λ zs. if is_at A s.sec then zs else []) (same_sents s.legs.scg legs.scg same.scg)
  same_to B = ap (λ zs. if is_at B s.sec then zs else []) (same_sents s.legs.scg legs.scg same.scg)

  -- on each link there is what was there
  pub same_on : (l : LinkId) → leg_on l with_them ≡ leg_on l s
  same_on l = ap (λ zs. if is_same_link l (link T l.to Air) then zs else []) (same_to l.to)

  -- and where nothing is sent it goes on
  pub legs_stay : (sends : List Send) → ((id g : ℕ) → NoneOf id g sends) → HalfSends s with_them sends
  legs_stay sends none = record {
    own = λ l. subst (λ zs. Continues l s.id s.g (leg_on l s) zs sends) (sym (same_on l)) (continues_none l s.id s.g (leg_on l s) sends (none s.id s.g l));
    others = λ l id g apart. none id g l;
  }

-- nothing is sent, and nothing changes
pub nothing_sends : (s : Setup) → HalfSends s s []
nothing_sends s = record { own = λ l. continues_none l s.id s.g (leg_on l s) [] refl; others = λ l id g apart. refl }

-- a PDU that is taken leaves what was put on the legs
pub taken_same : (e : Entity) (x : Content) → SameSends e.setup.legs (take_pdu e x).0.setup.legs
taken_same e (sdu s body) = all_settled_same e.setup.legs []
taken_same e (report fmc bits) = all_settled_same e.setup.legs (filter (names fmc bits) (counts e.tx.kept))

pub taken_setup : (e : Entity) (x : Content) → (take_pdu e x).0.setup ≡ record e.setup { legs = (take_pdu e x).0.setup.legs }
taken_setup e (sdu s body) = refl
taken_setup e (report fmc bits) = refl

-- no PDUs
abbrev none_sent : List Sent
none_sent = []

nothing : (b : Bool) → (if b then none_sent else none_sent) ≡ none_sent
nothing true = refl
nothing false = refl

-- on new legs nothing was put
pub new_on : (s : Setup) → s.legs.mcg.pdus ≡ [] → s.legs.scg.pdus ≡ [] → (l : LinkId) → leg_on l s ≡ []
new_on s mcg scg l = ap (λ zs. if is_same_link l (link T l.to Air) then zs else []) (to l.to) ∙ nothing (is_same_link l (link T l.to Air))
  where
    none : air_sents s.legs.scg ≡ []
    none = ap (map air_sent) scg

    to : (x : Node) → leg_sents x s ≡ []
    to T = refl
    to M = ap (map air_sent) mcg
    to A = ap (λ zs. if is_at A s.sec then zs else []) none ∙ nothing (is_at A s.sec)
    to B = ap (λ zs. if is_at B s.sec then zs else []) none ∙ nothing (is_at B s.sec)
