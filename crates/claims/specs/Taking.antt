-- What a node takes from a link, and what that confirms.
use Rattle.std.specs.List.{filter_map, find, list_any}
use Rattle.std.specs.Option.{option_and_then, option_map}
use Rattle.std.specs.Prelude.{Bool, List, None, Option, Some, [], false, filter, fold, if◌then◌else◌, is_some, map, max, nat_le, nat_lt, not, true, ℕ, ◌&&◌, ◌++◌, ◌==◌, ◌||◌, ◌∷◌}
use Rattle.dc_base.specs.Links.{is_same_link, reverse}
use Rattle.dc_base.specs.Nodes.{is_same_node}
use Rattle.dc_base.specs.declared.flights.Flight.{Flight}
use Rattle.dc_base.specs.declared.flights.Flight.TheVariants as flight
use Rattle.dc_base.specs.declared.nodes.Dir.{Dir}
use Rattle.dc_base.specs.declared.nodes.Dir.TheVariants.{Dl, Ul}
use Rattle.dc_base.specs.declared.nodes.LinkId.{LinkId}
use Rattle.dc_base.specs.declared.nodes.Node.{Node}
use Rattle.dc_base.specs.declared.nodes.Node.TheVariants.{M, T}
use Rattle.dc_base.specs.declared.nodes.Want.{Want}
use Rattle.dc_base.specs.declared.nodes.Want.TheVariants as want
use Rattle.dc_base.specs.declared.records.Item.{Item}
use Rattle.dc_base.specs.declared.records.Item.TheVariants.{Set, Unset}
use Rattle.dc_base.specs.declared.records.Rec.{Rec}
use Rattle.dc_base.specs.declared.records.Rec.TheVariants as rec
use Rattle.nr_u.specs.declared.frame.Range.{Range}
use Rattle.pdcp_pdu.specs.DataPdu.{is_data}
use Rattle.pdcp_pdu.specs.Pdu.{decoded}
use Rattle.claims.specs.Sameness.{is_number, is_some_and, kept_if}
use Rattle.claims.specs.Packets.{packet_of}
use Rattle.claims.specs.Confirming.{Confirmation, acked}
use Rattle.claims.specs.Views.{Delivery, Pdu, delivery_in, forwarding_in, pdu_in, pdu_of, report_in}
use Rattle.claims.specs.Past.{Bearer, Lane, Past}
use Rattle.claims.specs.Reading.{Setting, anchor_in, bearer_of, change_bearer, changed, holds, holds_any, low, on_bearer, second, setting, with_second}
use Rattle.claims.specs.Carrying.{dropped_at}

-- ---- confirming (TS 38.323, 5.3; TS 38.322, 5.2.3)

-- a direction with more confirmations
abbrev pub confirming : List Confirmation → Lane → Lane
confirming cs x = record x { confirms = x.confirms ++ cs }

-- Told is at least this COUNT, if it rises
abbrev pub told_at_least : ℕ → Bool → Lane → Lane
told_at_least c rises x = if rises then record x { told = max x.told c } else x

-- an uplink window moves with Low; a downlink one where Low rises at the master as holder
abbrev pub confirmed_by : Dir → List Confirmation → Bearer → Bearer
confirmed_by Ul cs b =
    let after = record b { up = confirming cs b.up } in record after { up = told_at_least (low Ul after) true after.up }
confirmed_by Dl cs b =
    let after = record b { down = confirming cs b.down } in
    record after { down = told_at_least (low Dl after) (holds_any M b.holder && nat_lt (low Dl b) (low Dl after)) after.down }

-- ---- who takes what

-- the direction of a PDU: from the terminal or to it, and in a tunnel from the anchor of its plan or to it
abbrev pub direction_in : LinkId → Setting → Dir
direction_in l s = if is_same_node l.from T then Ul else if is_same_node l.to T then Dl else if is_same_node l.from (anchor_in s) then Dl else Ul

-- the direction by a setting that may be there
abbrev pub direction_with : LinkId → Option Setting → Dir
direction_with l None = Dl
direction_with l (Some s) = direction_in l s

-- the direction of a PDU on a link
abbrev pub direction_of : Past → LinkId → Pdu → Dir
direction_of p l u = direction_with l (setting p u.id u.g)

-- the terminal has the generation, and did not mark the leg as failed
abbrev pub is_live : LinkId → ℕ → Bearer → Bool
is_live l g b = is_same_node l.to T && is_number g b.terminal && (is_same_node l.from M || not b.is_failed)

-- the node's anchor waits for this generation: it is the anchor of the plan, and did not become active in it
abbrev pub is_waiting : Node → ℕ → Setting → Bearer → Bool
is_waiting x g s b = is_same_node x (anchor_in s) && nat_lt b.owned g

-- the node has the receiving entity of a direction in this generation
abbrev pub receives : LinkId → ℕ → Setting → Dir → Bearer → Bool
receives l g s Dl b = is_live l g b
receives l g s Ul b = holds l.to g b.holder || is_waiting l.to g s b

-- ---- PDUs

-- a direction with the COUNT of a data PDU that was taken
abbrev pub with_taken : Option ℕ → Lane → Lane
with_taken None x = x
with_taken (Some c) x = record x { taken = c ∷ x.taken }

-- an anchor that waits keeps a data PDU
abbrev pub kept_count : Bool → Node → ℕ → Option ℕ → Bearer → Bearer
kept_count false x g c b = b
kept_count true x g None b = b
kept_count true x g (Some c) b = record b { early = record { node = x; g = g; count = c } ∷ b.early }

-- a data PDU comes: to the terminal, to the holder, or to an anchor that waits
abbrev pub data_taken : LinkId → ℕ → Setting → Dir → Option ℕ → Bearer → Bearer
data_taken l g s Dl c b = if is_live l g b then record b { down = with_taken c b.down } else b
data_taken l g s Ul c b =
    if holds l.to g b.holder then record b { up = with_taken c b.up } else kept_count (is_waiting l.to g s b) l.to g c b

-- an anchor that waits keeps a status report
abbrev pub kept_report : Bool → Node → ℕ → Confirmation → Bearer → Bearer
kept_report false x g c b = b
kept_report true x g c b = record b { reports = b.reports ++ record { node = x; g = g; names = c } ∷ [] }

-- a status report comes: to the terminal, to the holder, or to an anchor that waits
abbrev pub report_taken : LinkId → ℕ → Setting → Dir → Option Confirmation → Bearer → Bearer
report_taken l g s d None b = b
report_taken l g s Dl (Some c) b = if is_live l g b then confirmed_by Ul (c ∷ []) b else b
report_taken l g s Ul (Some c) b =
    if holds l.to g b.holder then confirmed_by Dl (c ∷ []) b else kept_report (is_waiting l.to g s b) l.to g c b

-- a PDU comes
abbrev pub pdu_taken : LinkId → Pdu → Setting → Bearer → Bearer
pdu_taken l u s b =
    let d = direction_in l s in
    if is_data u.octets then data_taken l u.g s d u.tag b else report_taken l u.g s d (report_in (decoded b.n u.octets)) b

-- of the generation whose plan has this setting
abbrev pub on_set_pdu : LinkId → Pdu → Past → Option Setting → Past
on_set_pdu l u p None = p
on_set_pdu l u p (Some s) = record p { bearers = change_bearer p u.id u.g (pdu_taken l u s) }

-- a flight with a PDU comes
abbrev pub on_pdu : LinkId → Option Pdu → Past → Past
on_pdu l None p = p
on_pdu l (Some u) p = on_set_pdu l u p (setting p u.id u.g)

-- ---- acks

-- a data PDU was sent on a link with this number
abbrev pub is_numbered : LinkId → ℕ → ℕ → ℕ → LinkId × Pdu → Bool
is_numbered l id g num (k, u) = is_same_link l k && (u.id == id) && (u.g == g) && is_number num u.num && is_data u.octets

-- the COUNT of the PDU that an ack on a link names
abbrev pub acked_count : LinkId → ℕ → ℕ → ℕ → Past → Option ℕ
acked_count l id g num p = option_and_then (λ s. s.1.tag) (find (is_numbered (reverse l) id g num) p.pdus)

-- an ack comes to the holder on its own leg
abbrev pub ack_taken : LinkId → ℕ → Option ℕ → Bearer → Bearer
ack_taken l g None b = b
ack_taken l g (Some c) b = if holds l.to g b.holder then confirmed_by Dl (acked c ∷ []) b else b

-- ---- delivery statuses

-- a data PDU of this bearer and generation was sent on the link
abbrev pub is_in_tunnel : LinkId → ℕ → ℕ → LinkId × Pdu → Bool
is_in_tunnel l id g (k, u) = is_same_link l k && (u.id == id) && (u.g == g) && is_data u.octets

-- all of them
abbrev pub tunnelled : LinkId → ℕ → ℕ → Past → List Pdu
tunnelled l id g p = map (λ s. s.1) (filter (is_in_tunnel l id g) p.pdus)

-- the number is in a listed range
abbrev pub is_listed : List Range → Option ℕ → Bool
is_listed lost k = is_some_and (λ n. list_any (λ r. nat_le r.from n && nat_le n r.to) lost) k

-- a delivery status with the COUNT H confirms what was sent as no repeat, up to H, with a number in no listed range
abbrev pub settled_one : ℕ → List Range → Pdu → Option Confirmation
settled_one h lost u =
    option_map acked (kept_if (λ c. not u.is_repeat && nat_le c h && not (is_listed lost u.num)) u.tag)

-- all that it confirms
abbrev pub settled : Option ℕ → List Range → List Pdu → List Confirmation
settled None lost us = []
settled (Some h) lost us = filter_map (settled_one h lost) us

-- the number was asked for before
abbrev pub is_asked : ℕ → List (ℕ × ℕ) → ℕ → Bool
is_asked g asked k = list_any (λ a. (a.0 == g) && (a.1 == k)) asked

-- the numbers that it lists, of those sent
abbrev pub listed_numbers : List Range → List Pdu → List ℕ
listed_numbers lost us = filter_map (λ u. kept_if (λ k. is_listed lost (Some k)) u.num) us

-- a delivery status changes a bearer: what it confirms, and what it asks for
abbrev pub with_delivery : Delivery → List Pdu → List ℕ → Bearer → Bearer
with_delivery v us fresh b = record (confirmed_by Dl (settled v.tag v.lost us) b) { asked = map (λ k. (v.g, k)) fresh ++ b.asked }

-- a delivery status comes to the holder
abbrev pub delivered : Bool → LinkId → Delivery → Bearer → Past → Past
delivered false l v b p = p
delivered true l v b p =
    let us = tunnelled (reverse l) v.id v.g p in
    let fresh = filter (λ k. not (is_asked v.g b.asked k)) (listed_numbers v.lost us) in
    record p { fresh = fresh; bearers = on_bearer b.g (with_delivery v us fresh) p.bearers }

-- for the bearer that it is of
abbrev pub delivered_to : LinkId → Delivery → Past → Option Bearer → Past
delivered_to l v p None = p
delivered_to l v p (Some b) = delivered (holds l.to v.g b.holder) l v b p

-- a flight with a delivery status comes
abbrev pub on_delivery : LinkId → Option Delivery → Past → Past
on_delivery l None p = p
on_delivery l (Some v) p = delivered_to l v p (bearer_of p v.id v.g)

-- ---- the feed

-- a `told` comes to the master: Told is the greatest, until the bearer is gone
abbrev pub told_taken : ℕ → Bearer → Bearer
told_taken c b = if b.is_gone then b else record b { down = told_at_least c true b.down }

-- ---- records

-- a secondary carries a drop out when it takes it
abbrev pub drop_taken : Node → ℕ → List Bearer → Item → List Bearer
drop_taken x g bs (Unset id) = map (λ (b : Bearer). if (b.id == id) && nat_lt b.g g then dropped_at x b else b) bs
drop_taken x g bs (Set id n first shape threshold policy key old) = bs

-- the master takes a request
abbrev pub requested : Node → Want → Past → Past
requested x w p = with_second x (record (second x p) { request = Some w }) p

-- a node is told that the SCG leg of a generation failed
abbrev pub warn : Node → ℕ → Bearer → Bearer
warn x g b = record b { warned = (x, g) ∷ b.warned }

-- the master takes a failed pair: it is told of it while the generation is current
abbrev pub pair_taken : Past → List Bearer → ℕ × ℕ → List Bearer
pair_taken p bs (id, g) = changed (warn M g) bs (kept_if (λ b. b.carried == g) (bearer_of p id g))

-- what a node took of a move
abbrev pub arriving : LinkId → Flight → Past → Past
arriving l f p = record p { arrived = (l, f) ∷ p.arrived }

-- a record comes
abbrev pub on_record : LinkId → Rec → Past → Past
on_record l (rec.Reconf q key) p = record p { seen = q.sec }
on_record l (rec.Rcomp g) p = record p { completed = g ∷ p.completed }
on_record l (rec.Scgf pairs) p = record p { bearers = fold (pair_taken p) p.bearers pairs }
on_record l (rec.Recov id) p = p
on_record l (rec.Recovd id) p = p
on_record l (rec.Addreq q key) p = p
on_record l (rec.Addack g) p = p
on_record l (rec.Addrej g) p = p
on_record l (rec.Modreq q key) p = record p { bearers = fold (drop_taken l.to q.g) p.bearers q.items }
on_record l (rec.Modack g) p = p
on_record l (rec.Modrej g) p = p
on_record l (rec.Recfg g) p = record p { configured = (l.to, g) ∷ p.configured }
on_record l (rec.Relreq q) p = p
on_record l (rec.Relack g) p = p
on_record l (rec.Relrej g) p = p
on_record l (rec.Uecr g) p = p
on_record l (rec.Snst s) p = arriving l (flight.Ctl (rec.Snst s)) p
on_record l (rec.Moved g id) p = arriving l (flight.Ctl (rec.Moved g id)) p
on_record l (rec.Scgn id g) p = record p { bearers = change_bearer p id g (warn l.to g) }
on_record l rec.Modrqd p = requested l.from want.Rekey p
on_record l (rec.Modcnf g) p = record p { configured = (l.to, g) ∷ p.configured }
on_record l (rec.Modref w) p = p
on_record l rec.Chgrqd p = requested l.from want.Change p
on_record l (rec.Chgcnf q) p = p
on_record l (rec.Chgref w) p = p
on_record l rec.Relrqd p = requested l.from want.Release p
on_record l (rec.Relcnf q) p = p

-- ---- any flight

-- a packet that forwards comes
abbrev pub on_forward : LinkId → Flight → Bool → Past → Past
on_forward l f false p = p
on_forward l f true p = arriving l f p

-- what a flight does that a node takes
abbrev pub taken_from : LinkId → Flight → Past → Past
taken_from l (flight.Air id g num tag pdu) p = on_pdu l (pdu_of (flight.Air id g num tag pdu)) p
taken_from l (flight.Ack id g num) p = record p { bearers = change_bearer p id g (ack_taken l g (acked_count l id g num p)) }
taken_from l (flight.Tun tag packet) p =
    let view = packet_of packet in
    on_forward l (flight.Tun tag packet) (is_some (forwarding_in view)) (on_delivery l (delivery_in tag view) (on_pdu l (pdu_in tag view) p))
taken_from l (flight.Sdu id g sdu) p = p
taken_from l (flight.End id g) p = arriving l (flight.End id g) p
taken_from l (flight.Told id g count) p = record p { bearers = change_bearer p id g (told_taken count) }
taken_from l (flight.Ctl r) p = on_record l r p

-- a flight is given to the receiver of its link
abbrev pub given_if : Option (LinkId × Flight) → Past → Past
given_if None p = p
given_if (Some s) p = taken_from s.0 s.1 (record p { given = Some s })
