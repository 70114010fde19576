-- What must come of a move. Everywhere q is the past after the event.
use Rattle.std.specs.List.{filter_map, list_all, list_any}
use Rattle.std.specs.Option.{option_and_then, option_map}
use Rattle.std.specs.Prelude.{Bool, List, None, Option, Some, false, if◌then◌else◌, is_some, map, nat_le, not, true, ℕ, ◌&&◌, ◌==◌, ◌||◌}
use Rattle.dc_base.specs.Count.{sn}
use Rattle.dc_base.specs.Links.{is_same_link, link}
use Rattle.dc_base.specs.Nodes.{is_same_dir, is_same_node}
use Rattle.dc_base.specs.declared.events.Line.{Line}
use Rattle.dc_base.specs.declared.events.Line.TheVariants as line
use Rattle.dc_base.specs.declared.events.Note.TheVariants as note
use Rattle.dc_base.specs.declared.flights.Flight.{Flight}
use Rattle.dc_base.specs.declared.flights.Flight.TheVariants as flight
use Rattle.dc_base.specs.declared.nodes.Class.TheVariants.{Feed}
use Rattle.dc_base.specs.declared.nodes.Dir.{Dir}
use Rattle.dc_base.specs.declared.nodes.Dir.TheVariants.{Dl, Ul}
use Rattle.dc_base.specs.declared.nodes.LinkId.{LinkId}
use Rattle.dc_base.specs.declared.nodes.Node.{Node}
use Rattle.dc_base.specs.declared.nodes.Node.TheVariants.{M}
use Rattle.dc_base.specs.declared.numbers.SnLen.{SnLen}
use Rattle.dc_base.specs.declared.records.Item.{Item}
use Rattle.dc_base.specs.declared.records.Item.TheVariants.{Set}
use Rattle.dc_base.specs.declared.records.Plan.{Plan}
use Rattle.dc_base.specs.declared.records.Rec.{Rec}
use Rattle.dc_base.specs.declared.records.Rec.TheVariants as rec
use Rattle.dc_base.specs.declared.records.StatusTransfer.{StatusTransfer}
use Rattle.transcript.specs.Transcript.{Entry}
use Rattle.claims.specs.Sameness.{implies, is_none_or, is_same_octets, is_some_and, kept_if}
use Rattle.claims.specs.Packets.{Packet, forwarded, total}
use Rattle.claims.specs.Views.{carried_plan, forwarding_of, packet_in}
use Rattle.claims.specs.Past.{Bearer, Past}
use Rattle.claims.specs.Reading.{Setting, anchor_in, bearer_of, holds_any, is_moved, kept, sends_in, setting, stored}
use Rattle.claims.specs.LicenceForward.{is_closed, is_closing, is_end_of, is_total, sn_value, transfer_in}
use Rattle.claims.specs.LicenceRecords.{is_moved_of}
use Rattle.claims.specs.Replied.{sends_record, sends_record_to}
use Rattle.claims.specs.Placed.{has_arrived, is_all_in}

-- ---- the freeze

-- the sequence numbers of a tunnel's forwarded SDUs, in order
abbrev pub forwarded_sn : ℕ → ℕ → Dir → Packet → Option ℕ
forwarded_sn id g d (forwarded i h e k s sdu) = if (i == id) && (h == g) && is_same_dir d e then option_map sn_value s else None
forwarded_sn id g d _ = None

-- those that lines send
abbrev pub forwarded_sns : ℕ → ℕ → Dir → List Line → List ℕ
forwarded_sns id g d xs = filter_map (λ s. option_and_then (forwarded_sn id g d) (packet_in s.1)) (sends_in xs)

-- the sequence numbers of COUNTs
abbrev pub sns : SnLen → List ℕ → List ℕ
sns n cs = map (sn n) cs

-- lines send a packet of which the test holds
abbrev pub sends_packet : (LinkId × Packet → Bool) → List Line → Bool
sends_packet f xs = list_any (λ s. is_some_and (λ v. f (s.0, v)) (packet_in s.1)) (sends_in xs)

-- the downlink tunnel of a frozen anchor is closed at once at the master, at a secondary when the feed has ended
abbrev pub is_feed_over : Past → Node → ℕ → ℕ → Bool
is_feed_over q x id g = is_same_node x M || has_arrived q x (λ f. is_end_of id g (link M x Feed, f))

-- the transfer of an identity and generation
abbrev pub is_transfer_record : ℕ → ℕ → Rec → Bool
is_transfer_record id g r = is_some_and (λ t. (t.id == id) && (t.g == g)) (transfer_in r)

-- a freeze sends the transfer, the SDUs that are not confirmed and those that are stored, each once and in order, and
-- closes the tunnels
abbrev pub freeze_sends : Past → List Line → Node → ℕ → Bearer → Bool
freeze_sends q xs x g b =
    sends_record (is_transfer_record b.id g) xs && is_same_octets (forwarded_sns b.id g Dl xs) (sns b.n (kept q x b))
    && is_same_octets (forwarded_sns b.id g Ul xs) (sns b.n (stored Ul b)) && sends_packet (is_total b.id g Ul) xs
    && implies (is_feed_over q x b.id g) (sends_packet (is_total b.id g Dl) xs)

-- each `give` of an event brings that
abbrev pub freeze_comes : Past → List Line → Line → Bool
freeze_comes q xs (line.Note (note.Give x id g)) = is_some_and (freeze_sends q xs x g) (bearer_of q id g)
freeze_comes q xs _ = true

-- ---- after it

-- the node's anchor was frozen for this change, and its downlink tunnel is open
abbrev pub is_forwarding : Past → Node → Bearer → Option ℕ
is_forwarding q x b = option_map (λ o. o.1) (kept_if (λ o. is_same_node x o.0 && not (is_closed q b.id o.1 Dl)) b.gave)

-- the packet is a fresh SDU of the tunnel
abbrev pub is_fresh_forward : ℕ → ℕ → LinkId × Packet → Bool
is_fresh_forward id g (l, forwarded i h Dl k None sdu) = (i == id) && (h == g)
is_fresh_forward id g _ = false

-- what the feed still brings is forwarded
abbrev pub fed_is_forwarded : Past → List Line → LinkId × Flight → Bool
fed_is_forwarded q xs (l, flight.Sdu id g sdu) =
    is_none_or (λ b. is_none_or (λ h. holds_any l.to b.holder || sends_packet (is_fresh_forward id h) xs) (is_forwarding q l.to b)) (bearer_of q id g)
fed_is_forwarded q xs _ = true

-- the end of the feed closes the tunnel of an anchor that is frozen
abbrev pub end_closes : Past → List Line → LinkId × Flight → Bool
end_closes q xs (l, flight.End id g) =
    is_none_or (λ b. implies (is_some_and (λ o. is_same_node l.to o.0 && (o.1 == g)) b.gave) (is_closed q id g Dl)) (bearer_of q id g)
end_closes q xs _ = true

-- a total is followed by its End Marker, on its link
abbrev pub total_is_closed : List Line → LinkId → Packet → Bool
total_is_closed xs l (total id g d k) = sends_packet (λ s. is_same_link l s.0 && is_closing id g d s) xs
total_is_closed xs l _ = true

-- each total of an event that is no `again`
abbrev pub totals_close : Past → List Line → Bool
totals_close q xs = is_some q.copied || list_all (λ s. is_none_or (total_is_closed xs s.0) (packet_in s.1)) (sends_in xs)

-- ---- at the master

-- a plan that is carried out ends the feed of each secondary anchor that it moves away
abbrev pub feed_ends : Past → List Line → ℕ → Item → Bool
feed_ends q xs g (Set id n first shape threshold policy key (Some old)) =
    is_same_node old M || not (is_some_and is_moved (setting q id g)) || list_any (is_end_of id g) (sends_in xs)
feed_ends q xs g _ = true

-- the plans that an event carries out
abbrev pub carried_plans : List Line → List Plan
carried_plans xs = filter_map (λ s. carried_plan s.1) (sends_in xs)

-- each ends its feeds
abbrev pub feeds_end : Past → List Line → Bool
feeds_end q xs = list_all (λ (r : Plan). list_all (feed_ends q xs r.g) r.items) (carried_plans xs)

-- the master passes a transfer on, where the new anchor is the other secondary
abbrev pub is_passed_to : Past → List Line → StatusTransfer → Setting → Bool
is_passed_to q xs t s = is_same_node (anchor_in s) M || sends_record_to (anchor_in s) (is_transfer_record t.id t.g) xs

-- a transfer that the master takes
abbrev pub transfer_is_passed : Past → List Line → LinkId × Flight → Bool
transfer_is_passed q xs (l, flight.Ctl (rec.Snst t)) = not (is_same_node l.to M) || is_none_or (is_passed_to q xs t) (setting q t.id t.g)
transfer_is_passed q xs _ = true

-- ---- the new anchor

-- an anchor that is all in became active in this generation
abbrev pub is_active_since : Past → ℕ → ℕ → Bool
is_active_since q id g = is_none_or (λ b. nat_le g b.owned) (bearer_of q id g)

-- the identity and generation of what a node takes of a move
abbrev pub moved_in : Flight → Option (ℕ × ℕ)
moved_in (flight.Ctl (rec.Snst t)) = Some (t.id, t.g)
moved_in f = forwarding_of f

-- the setting moves the anchor to the node, which has all of it
abbrev pub is_ready : Past → Node → ℕ → ℕ → Setting → Bool
is_ready q x id g s = is_same_node x (anchor_in s) && is_moved s && is_all_in q x id g

-- the last part of a move brings the adoption
abbrev pub adoption_comes : Past → LinkId → ℕ × ℕ → Bool
adoption_comes q l (id, g) = not (is_some_and (is_ready q l.to id g) (setting q id g)) || is_active_since q id g

-- a secondary that adopts says so
abbrev pub moved_comes : Past → List Line → Line → Bool
moved_comes q xs (line.Note (note.Own x id g)) =
    is_same_node x M || not (is_some_and is_moved (setting q id g)) || sends_record (is_moved_of id g) xs
moved_comes q xs _ = true

-- all of a move comes
abbrev pub move_comes : Past → Entry → Past → Bool
move_comes p e q =
    list_all (freeze_comes q e.lines) e.lines && is_none_or (fed_is_forwarded q e.lines) q.given && is_none_or (end_closes q e.lines) q.given
    && totals_close q e.lines && feeds_end q e.lines && is_none_or (transfer_is_passed q e.lines) q.given
    && is_none_or (λ s. is_none_or (adoption_comes q s.0) (moved_in s.1)) q.given && list_all (moved_comes q e.lines) e.lines
