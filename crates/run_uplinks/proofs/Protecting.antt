-- Each data PDU that the terminal's entity of a bearer sends protects the submission of its tag, under the key of its plan.
use Rattle.std.proofs.Common.{ℕ, ◌≡◌, ◌≤◌, ◌-◌, ◌==◌, ◌&&◌, ◌||◌, Bool, true, false, List, [], ◌∷◌, Option, Some, None, length, slice_get, refl, sym, ap, subst, ◌∙◌, inl, inr}
use Rattle.std.specs.Prelude.{find, if◌then◌else◌, is_some, map, nat_le}
use Rattle.std.specs.List.{AllByRecursion, filter_map, flat_map}
use Rattle.std.specs.Option.{option_map}
use Rattle.std.proofs.lemmas.Bool.{cases_Bool, eq-eqb, eqb-true, le-leb}
use Rattle.transcript.proofs.OnEach.{each_append}
use Rattle.dc_base.specs.Count.{sn}
use Rattle.dc_base.specs.Links.{link}
use Rattle.dc_base.specs.declared.flights.Flight.TheVariants as flight
use Rattle.dc_base.specs.declared.nodes.Alg.{Alg}
use Rattle.dc_base.specs.declared.nodes.Alg.TheVariants.{Nea0, Nea2}
use Rattle.dc_base.specs.declared.nodes.Class.TheVariants.{Air}
use Rattle.dc_base.specs.declared.nodes.Dir.TheVariants.{Ul}
use Rattle.dc_base.specs.declared.nodes.KeyName.{KeyName}
use Rattle.dc_base.specs.declared.nodes.LinkId.{LinkId}
use Rattle.dc_base.specs.declared.nodes.Node.{Node}
use Rattle.dc_base.specs.declared.nodes.Node.TheVariants.{T}
use Rattle.dc_base.specs.declared.numbers.SnLen.{SnLen}
use Rattle.dc_base.specs.declared.flights.Flight.{Flight}
use Rattle.transcript.specs.Content.{direction_from}
use Rattle.pdcp_rx.specs.Entries.{counts_of}
use Rattle.key_chain.specs.KeyNames.{octets}
use Rattle.nea2.specs.Combined.{combined}
use Rattle.nea2.specs.Keystream.{keystream}
use Rattle.pdcp_pdu.specs.DataPdu.{data_pdu, is_data}
use Rattle.pdcp_pdu.specs.StatusReport.{report_pdu}
use Rattle.pdcp_tx.specs.Sender.{Sender, sdu_at}
use Rattle.split_leg.specs.Legs.{LegsState, is_repeat, with_send}
use Rattle.split_leg.specs.Routes.{route_of}
use Rattle.split_leg.specs.declared.legs.Route.{Route}
use Rattle.split_leg.specs.declared.legs.Route.TheVariants as route
use Rattle.claims.specs.Past.{Bearer, Past}
use Rattle.claims.specs.Protected as protected
use Rattle.claims.specs.Protected.{is_copy, is_origin, is_passed_on, is_protected_pdu, protected_pdu, protects}
use Rattle.claims.specs.Reading.{Setting, bearer_of, named, setting}
use Rattle.claims.specs.Sameness.{is_same_octets, is_some_and}
use Rattle.claims.specs.Taking.{direction_with}
use Rattle.claims.specs.Views.{Pdu}
use Rattle.node_rules.specs.Choices.{Choices}
use Rattle.node_rules.specs.Entity.{Entity, stream}
use Rattle.node_rules.specs.Entity as entity
use Rattle.node_rules.specs.Held.{held}
use Rattle.node_rules.specs.Sending as sending
use Rattle.node_rules.specs.Sending.{pdu_at, put_by, put_on, send_counts, send_each, send_one, send_report}
use Rattle.node_rules.specs.Setup.{Setup, node_of}
use Rattle.node_rules.specs.Terminal.{TerminalNode}
use Rattle.node_rules.specs.TerminalHalf.{TerminalHalf, leg_send, with_sends}
use Rattle.node_rules.specs.declared.bearers.OnLeg.{OnLeg}
use Rattle.run_uplinks.specs.Readings.{Face, IsGood, Reading, face_of, reading}
use Rattle.run_uplinks.specs.Seen.{Seen, Uplink, latest, seen, setting_in, uplink_of}
use Rattle.run_uplinks.specs.Uplinks.{IsHalf, IsSetBy, IsSubmitted, IsUp, plane}
use Rattle.run_uplinks.proofs.Establishments.{latest-id, some_is}
use Rattle.run_uplinks.proofs.Terminals.{present_at}

is_some_of : (s : Setup) (roots : List (List ℕ)) (o : Option Setting) → IsSetBy roots s o → (x : Setting) × (o ≡ Some x) × (s.key ≡ octets roots x.key)
is_some_of s roots None set = absurd set
is_some_of s roots (Some x) set = (x, refl, set.2)

octets_same : (xs ys : List ℕ) → xs ≡ ys → is_same_octets xs ys ≡ true
octets_same xs ys same = subst (λ zs. is_same_octets xs zs ≡ true) same (itself xs)
  where
    itself : (zs : List ℕ) → is_same_octets zs zs ≡ true
    itself [] = refl
    itself (z ∷ zs) = rw (eq-eqb z z refl) (itself zs)

-- the keystream of a key is that of its name
stream_is : (alg : Alg) (roots : List (List ℕ)) (name : KeyName) (count id len : ℕ) → stream alg (octets roots name) count id Ul len ≡ protected.stream alg roots name count id Ul len
unfolding keystream
stream_is Nea0 roots name count id len = refl
stream_is Nea2 roots name count id len = refl

-- ---- what is read of the past

found_face : (t : Face → Bool) (us : List Uplink) → find t (map face_of us) ≡ option_map face_of (find (λ u. t (face_of u)) us)
found_face t [] = refl
found_face t (u ∷ us) = elim (cases_Bool (t (face_of u))) [ inl here ↦ rw here refl | inr there ↦ rw there (found_face t us) ]

abbrev face_in : Bearer → Face
face_in b = face_of (uplink_of b)

found_bearer : (t : Face → Bool) (bs : List Bearer) → find t (map face_of (map uplink_of bs)) ≡ option_map face_in (find (λ b. t (face_in b)) bs)
found_bearer t [] = refl
found_bearer t (b ∷ bs) = elim (cases_Bool (t (face_in b))) [ inl here ↦ rw here refl | inr there ↦ rw there (found_bearer t bs) ]

-- the latest is the one that a generation names, if it is no later
named_when : (id g : ℕ) (us : List Uplink) (u : Uplink) → latest id us ≡ Some u → u.g ≤ g → find (λ (v : Uplink). (v.id == id) && nat_le v.g g) us ≡ Some u
named_when id g [] u at le = at
named_when id g (v ∷ us) u at le =
    elim (cases_Bool (v.id == id)) [
      | inl here ↦
          let same = some_is v u (rw here at at) in
          let upto : nat_le v.g g ≡ true = le-leb v.g g (subst (λ (x : Uplink). x.g ≤ g) (sym same) le) in
          rw (here, upto) (ap (λ x. Some x) same)
      | inr there ↦ rw there (named_when id g us u (rw there at at) le)
    ]

some_bearer : (o : Option Bearer) (f : Face) → option_map face_in o ≡ Some f → (b : Bearer) × (o ≡ Some b) × (face_in b ≡ f)
some_bearer None f is = absurd (let bad : None ≡ Some f = is in cc)
some_bearer (Some b) f is = (b, refl, some_is (face_in b) f is)

-- ---- one data PDU

module _ (s : Seen) (u : Uplink) (h : TerminalHalf) (half : IsHalf (plane s) u h) (at : latest u.id s.bearers ≡ Some u) (c : ℕ) (sdu : List ℕ) (submitted : IsSubmitted u (c, sdu)) where
  -- the octets of the PDU
  abbrev pdu : List ℕ
  pdu = entity.pdu_of h.setup (c, sdu)

  -- the PDU of a submission to an establishment, under a key
  abbrev pdu_by : Face → Alg → List (List ℕ) → KeyName → List ℕ
  pdu_by f alg roots name = data_pdu f.n (sn f.n c) (combined sdu (protected.stream alg roots name c f.id Ul (length sdu)))

  -- and of a setup
  abbrev pdu_for : SnLen → Alg → List ℕ → ℕ → Node → List ℕ
  pdu_for n alg key id node = data_pdu n (sn n c) (combined sdu (stream alg key c id (direction_from node) (length sdu)))

  pdu_is : (x : Setting) → h.setup.key ≡ octets s.roots x.key → pdu ≡ pdu_by (face_of u) s.alg s.roots x.key
  pdu_is x key =
      ap (λ n. pdu_for n h.setup.alg h.setup.key h.setup.id h.setup.node) half.n
      ∙ ap (λ a. pdu_for u.n a h.setup.key h.setup.id h.setup.node) half.alg
      ∙ ap (λ k. pdu_for u.n s.alg k h.setup.id h.setup.node) key
      ∙ ap (λ j. pdu_for u.n s.alg (octets s.roots x.key) j h.setup.node) half.id
      ∙ ap (λ y. pdu_for u.n s.alg (octets s.roots x.key) u.id y) half.node
      ∙ ap (λ z. data_pdu u.n (sn u.n c) (combined sdu z)) (stream_is s.alg s.roots x.key c u.id (length sdu))

  module _ (node : Node) (num : ℕ) where
    abbrev l : LinkId
    l = link T node Air

    abbrev f : Flight
    f = flight.Air h.setup.id h.setup.g num (Some c) pdu

    abbrev v : Pdu
    v = record { id = h.setup.id; g = h.setup.g; num = Some num; is_repeat = false; tag = Some c; octets = pdu }

    module _ (p : Past) (same : reading (seen p) ≡ reading s) where
      -- the test, by setting and bearer
      abbrev test : Option Setting → Option Bearer → Bool
      test o b = protects p (direction_with l o) v (Some c) o b && (is_origin l (direction_with l o) o || is_passed_on p l v || is_copy p l f)

      setting_at : (x : Setting) → setting_in s.plans u.id h.setup.g ≡ Some x → setting p h.setup.id h.setup.g ≡ Some x
      setting_at x is = ap (λ ps. setting_in ps h.setup.id h.setup.g) (ap (λ (r : Reading). r.plans) same) ∙ ap (λ j. setting_in s.plans j h.setup.g) half.id ∙ is

      abbrev names : Face → Bool
      names y = (y.id == h.setup.id) && nat_le y.g h.setup.g

      bearer_at : (b : Bearer) × (find (λ (b : Bearer). (b.id == h.setup.id) && nat_le b.g h.setup.g) p.bearers ≡ Some b) × (face_in b ≡ face_of u)
      bearer_at =
          some_bearer (find (λ (b : Bearer). (b.id == h.setup.id) && nat_le b.g h.setup.g) p.bearers) (face_of u)
          (sym (found_bearer names p.bearers) ∙ ap (find names) (ap (λ (r : Reading). r.faces) same) ∙ found_face names s.bearers
          ∙ ap (option_map face_of) (named_when h.setup.id h.setup.g s.bearers u (ap (λ j. latest j s.bearers) half.id ∙ at) half.since))

      -- the payload that was submitted under the COUNT
      abbrev payload_in : Face → Option (List ℕ)
      payload_in y = if nat_le y.first c then slice_get y.submitted (c - y.first) else None

      protects_it : (x : Setting) → h.setup.key ≡ octets s.roots x.key → (b : Bearer) → face_in b ≡ face_of u → protects p Ul v (Some c) (Some x) (Some b) ≡ true
      protects_it x key b face =
          ap (λ o. is_some_and (λ y. is_same_octets pdu (protected_pdu p b x.key Ul c y)) o) (ap payload_in face ∙ submitted)
          ∙ octets_same pdu (protected_pdu p b x.key Ul c sdu)
          (pdu_is x key ∙ sym (ap (λ y. pdu_by y p.header.alg p.table.roots x.key) face ∙ ap (λ (r : Reading). pdu_by (face_of u) r.alg r.roots x.key) same))

      tested : is_protected_pdu p l f v ≡ true
      tested =
          let x = is_some_of h.setup s.roots (setting_in s.plans u.id h.setup.g) half.set in
          let set = setting_at x.0 x.1 in
          let b = bearer_at in
          ap (λ o. test o (bearer_of p h.setup.id h.setup.g)) set
          ∙ ap (test (Some x.0)) (ap (λ o. named p h.setup.id h.setup.g o) set ∙ b.1)
          ∙ ap (λ z. z && true) (protects_it x.0 x.2 b.0 b.2)

    -- it protects its submission
    pub good_data : IsGood (reading s) (l, f)
    good_data p same = elim (cases_Bool (is_data pdu)) [ inl yes' ↦ rw yes' (tested p same) | inr no' ↦ rw no' refl ]

-- ---- a control PDU is none

is_control : (fmc : ℕ) (cs : List ℕ) → is_data (report_pdu fmc cs) ≡ false
unfolding report_pdu
is_control fmc cs = refl

-- ---- what an entity sends

-- each PDU of these is sent
module _ (P : sending.Pdu → Type 0) where
  abbrev OfLeg : OnLeg → Type 0
  OfLeg o = P o.pdu

  by_route : (r : Route) (repeat : Bool) (x : sending.Pdu) (legs : LegsState) → P x → AllByRecursion OfLeg (put_by r repeat x legs).1
  by_route route.None repeat x legs is = tt
  by_route (route.One cell) repeat x legs is = (is, tt)
  by_route route.Both repeat x legs is = (is, (is, tt))

  each_sent : (c : Choices) (pdus : List sending.Pdu) (legs : LegsState) → AllByRecursion P pdus → AllByRecursion OfLeg (send_each c pdus legs).1
  each_sent c [] legs all = tt
  each_sent c (x ∷ pdus) legs all =
      let here = send_one c x legs in
      each_append OfLeg here.1 (send_each c pdus here.0).1 (by_route (route_of legs c.policies (is_some x.0)) (is_repeat (with_send legs) x.0) x (with_send legs) all.0) (each_sent c pdus here.0 all.1)

-- a PDU of a setup, sent to any node under any number, is good
abbrev IsGoodPdu : Reading → Setup → sending.Pdu → Type 0
IsGoodPdu r x pdu = (node : Node) (num : ℕ) → IsGood r (link T node Air, flight.Air x.id x.g num pdu.0 pdu.1)

leg_good : (r : Reading) (x : Setup) (o : OnLeg) (node : Option Node) → IsGoodPdu r x o.pdu → AllByRecursion (IsGood r) (leg_send x o node)
leg_good r x o None good = tt
leg_good r x o (Some node) good = (good node o.num, tt)

legs_good : (r : Reading) (x : Setup) (os : List OnLeg) → AllByRecursion (λ o. IsGoodPdu r x o.pdu) os → AllByRecursion (IsGood r) (flat_map (λ o. leg_send x o (node_of x.sec o.cell)) os)
legs_good r x [] all = tt
legs_good r x (o ∷ os) all =
    each_append (IsGood r) (leg_send x o (node_of x.sec o.cell)) (flat_map (λ o. leg_send x o (node_of x.sec o.cell)) os) (leg_good r x o (node_of x.sec o.cell) all.0) (legs_good r x os all.1)

-- an SDU that is found is kept
found_kept : (P : ℕ × List ℕ → Type 0) (es : List (ℕ × List ℕ)) (count : ℕ) (sdu : List ℕ) → AllByRecursion P es → sdu_at es count ≡ Some sdu → P (count, sdu)
found_kept P [] count sdu all at = absurd (let bad : None ≡ Some sdu = at in cc)
found_kept P (e ∷ es) count sdu all at =
    elim (cases_Bool (e.0 == count)) [
      | inl here ↦
          let same = some_is e.1 sdu (rw here at at) in
          subst (λ n. P (n, sdu)) (eqb-true e.0 count here) (subst (λ y. P (e.0, y)) same all.0)
      | inr there ↦ found_kept P es count sdu all.1 (rw there at at)
    ]

module _ (c : Choices) (s : Seen) (t : TerminalNode) (is : IsUp s t) (id : ℕ) where
  -- of an entity that is the one held afterwards
  data_good : (h after : TerminalHalf) → held id t.halves ≡ Some after → after.tx ≡ h.tx → ((e : ℕ × List ℕ) → entity.pdu_of h.setup e ≡ entity.pdu_of after.setup e) → (cs : List ℕ)
      → AllByRecursion (IsGoodPdu (reading s) after.setup) (filter_map (pdu_at h) cs)
  data_good h after at same_tx same_pdu [] = tt
  data_good h after at same_tx same_pdu (count ∷ cs) = by (sdu_at h.tx.kept count) refl (data_good h after at same_tx same_pdu cs)
    where
      by : (o : Option (List ℕ)) → sdu_at h.tx.kept count ≡ o → AllByRecursion (IsGoodPdu (reading s) after.setup) (filter_map (pdu_at h) cs) → AllByRecursion (IsGoodPdu (reading s) after.setup) (filter_map (pdu_at h) (count ∷ cs))
      by None none more = rw none more
      by (Some sdu) some more =
          let x = present_at c s t is id after at in
          let kept = found_kept (IsSubmitted x.0) after.tx.kept count sdu x.2.sender.payloads (ap (λ (y : Sender). sdu_at y.kept count) same_tx ∙ some) in
          let of_id = latest-id id s.bearers x.0 x.1 in
          let good : IsGoodPdu (reading s) after.setup (Some count, entity.pdu_of h.setup (count, sdu)) =
          λ node num. subst (λ os. IsGood (reading s) (link T node Air, flight.Air after.setup.id after.setup.g num (Some count) os)) (sym (same_pdu (count, sdu)))
          (good_data s x.0 after x.2 (ap (λ j. latest j s.bearers) of_id ∙ x.1) count sdu kept node num) in
          rw some (good, more)

  pub sends_good : (h : TerminalHalf) (cs : List ℕ) → held id t.halves ≡ Some (send_counts c h cs).0 → AllByRecursion (IsGood (reading s)) (with_sends (send_counts c h cs)).1
  sends_good h cs at =
      let done = send_counts c h cs in
      legs_good (reading s) done.0.setup done.1 (each_sent (IsGoodPdu (reading s) done.0.setup) c (filter_map (pdu_at h) cs) h.setup.legs (data_good h done.0 at refl (λ e. refl) cs))

  pub report_good : (h : TerminalHalf) → AllByRecursion (IsGood (reading s)) (with_sends (send_report c h)).1
  report_good h =
      let done = send_report c h in
      let none : (node : Node) (num : ℕ) → IsGood (reading s) (link T node Air, flight.Air done.0.setup.id done.0.setup.g num None (report_pdu h.rx.deliv (counts_of h.rx.stored))) =
      λ node num p same. let no' = is_control h.rx.deliv (counts_of h.rx.stored) in rw no' refl in
      legs_good (reading s) done.0.setup done.1 (each_sent (IsGoodPdu (reading s) done.0.setup) c ((None, report_pdu h.rx.deliv (counts_of h.rx.stored)) ∷ []) h.setup.legs (none, tt))
